use Rattle.ch_laws_plain_logs.proofs.Pairs.{of_process, written_pairs}
use Rattle.ch_laws_plain_logs.proofs.pairs_open_no_nodes.Goals as goal

pub returns-clause-openings : goal.returns-clause-openings
returns-clause-openings c = of_process

pub returns-clause-written : goal.returns-clause-written
returns-clause-written c = written_pairs
