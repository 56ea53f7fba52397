use Rattle.ch_model.specs.Node.{node_make}
use Rattle.ch_laws_plain_nodes.specs.Does.{Makes}
use Rattle.ch_laws_plain_nodes.proofs.Steps.{given_so}
use Rattle.ch_laws_plain_nodes.proofs.Calls.{new_plain, makes}
use Rattle.ch_laws_plain_nodes.proofs.Commands.{on_command}
use Rattle.ch_laws_plain_nodes.proofs.plain_nodes_stay.Goals as goal

pub returns-clause-fresh : goal.returns-clause-fresh
returns-clause-fresh c = new_plain

pub returns-clause-make : goal.returns-clause-make
returns-clause-make c = λ node after done p e. given_so (Makes node) (node_make node) done after (makes node p) e

pub returns-clause-command : goal.returns-clause-command
returns-clause-command c = on_command
