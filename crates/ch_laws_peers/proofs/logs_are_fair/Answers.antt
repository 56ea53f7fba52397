use Rattle.ch_laws_peers.proofs.Logs.{fair, fair_front}
use Rattle.ch_laws_peers.proofs.logs_are_fair.Goals as goal

pub returns-clause-whole : goal.returns-clause-whole
returns-clause-whole z = fair

pub returns-clause-fronts : goal.returns-clause-fronts
returns-clause-fronts z = fair_front
