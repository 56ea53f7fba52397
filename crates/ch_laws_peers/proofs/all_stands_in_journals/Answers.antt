use Rattle.ch_laws_peers.proofs.Logs.{of_nodes, many_stand}
use Rattle.ch_laws_peers.proofs.Together.{standing_kept, fresh_standing}
use Rattle.ch_laws_peers.proofs.all_stands_in_journals.Goals as goal

pub returns-clause-kept : goal.returns-clause-kept
returns-clause-kept z = standing_kept

pub returns-clause-fresh : goal.returns-clause-fresh
returns-clause-fresh z = fresh_standing

pub returns-clause-many : goal.returns-clause-many
returns-clause-many z = of_nodes

pub returns-clause-fronts : goal.returns-clause-fronts
returns-clause-fronts z = many_stand
