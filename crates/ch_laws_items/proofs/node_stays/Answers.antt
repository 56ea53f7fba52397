use Rattle.ch_model.specs.Node.{node_make, node_command, node_event, node_shut}
use Rattle.ch_laws_items.proofs.Nodes.{node_after, on_make, on_command, on_event, on_shut}
use Rattle.ch_laws_items.proofs.node_stays.Goals as goal

pub returns-clause-make : goal.returns-clause-make
returns-clause-make c = λ node after acts e. node_after node after acts (node_make node) (on_make node) e

pub returns-clause-command : goal.returns-clause-command
returns-clause-command c = λ node after by command room acts e. node_after node after acts (node_command node by command room) (on_command node by command room) e

pub returns-clause-event : goal.returns-clause-event
returns-clause-event c = λ node after event acts e. node_after node after acts (node_event node event) (on_event node event) e

pub returns-clause-shut : goal.returns-clause-shut
returns-clause-shut c = λ node after acts e. node_after node after acts (node_shut node) (on_shut node) e
