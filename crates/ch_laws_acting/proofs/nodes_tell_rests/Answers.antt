use Rattle.ch_model.specs.Node.{node_make, node_command, node_event, node_shut}
use Rattle.ch_laws_acting.proofs.NodeRests.{on_make, on_command, on_event, on_shut, node_rests}
use Rattle.ch_laws_acting.proofs.nodes_tell_rests.Goals as goal

pub returns-clause-make : goal.returns-clause-make
returns-clause-make c = λ node after done r e. node_rests node after done (node_make node) (on_make node) r e

pub returns-clause-command : goal.returns-clause-command
returns-clause-command c = λ node after by command room done r e. node_rests node after done (node_command node by command room) (on_command node by command room) r e

pub returns-clause-event : goal.returns-clause-event
returns-clause-event c = λ node after event done r e. node_rests node after done (node_event node event) (on_event node event) r e

pub returns-clause-shut : goal.returns-clause-shut
returns-clause-shut c = λ node after done r e. node_rests node after done (node_shut node) (on_shut node) r e
