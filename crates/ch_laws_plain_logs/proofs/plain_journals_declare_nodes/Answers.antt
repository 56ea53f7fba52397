use Rattle.ch_laws_plain_logs.proofs.Lines.{names_are_nodes, none_strange, none_taken}
use Rattle.ch_laws_plain_logs.proofs.plain_journals_declare_nodes.Goals as goal

pub returns-clause-nodes : goal.returns-clause-nodes
returns-clause-nodes c = names_are_nodes

pub returns-clause-strangers : goal.returns-clause-strangers
returns-clause-strangers c = none_strange

pub returns-clause-references : goal.returns-clause-references
returns-clause-references c = none_taken
