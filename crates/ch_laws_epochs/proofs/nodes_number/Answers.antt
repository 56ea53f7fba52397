use Rattle.ch_model.specs.Node.{node_make, node_command, node_event, node_shut}
use Rattle.ch_laws_epochs.proofs.Numbered.{numbered_after, make_numbered, command_numbered, event_numbered, shut_numbered}
use Rattle.ch_laws_epochs.proofs.Worlds.{node_fresh}
use Rattle.ch_laws_epochs.proofs.nodes_number.Goals as goal

pub returns-clause-new : goal.returns-clause-new
returns-clause-new c = λ own unique labels by to. node_fresh own unique labels by to

pub returns-clause-make : goal.returns-clause-make
returns-clause-make c = λ node after acts by to e. numbered_after node after acts (node_make node) (make_numbered node) e by to

pub returns-clause-command : goal.returns-clause-command
returns-clause-command c = λ node after n command room acts by to e. numbered_after node after acts (node_command node n command room) (command_numbered node n command room) e by to

pub returns-clause-event : goal.returns-clause-event
returns-clause-event c = λ node after event acts by to e. numbered_after node after acts (node_event node event) (event_numbered node event) e by to

pub returns-clause-shut : goal.returns-clause-shut
returns-clause-shut c = λ node after acts by to e. numbered_after node after acts (node_shut node) (shut_numbered node) e by to
