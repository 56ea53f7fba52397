use Rattle.ch_laws_plain_logs.proofs.Lawful.{all_of_nodes, plainly_lawful}
use Rattle.ch_laws_plain_logs.proofs.plain_logs_are_lawful.Goals as goal

pub returns-clause-kinds : goal.returns-clause-kinds
returns-clause-kinds c = plainly_lawful

pub returns-clause-of_nodes : goal.returns-clause-of_nodes
returns-clause-of_nodes c = all_of_nodes
