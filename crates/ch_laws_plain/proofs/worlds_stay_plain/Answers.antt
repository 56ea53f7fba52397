use Rattle.ch_laws_plain.proofs.Dials.{dial_plain}
use Rattle.ch_laws_plain.proofs.Ends.{there_plain}
use Rattle.ch_laws_plain.proofs.Start.{fresh_plain}
use Rattle.ch_laws_plain.proofs.Worlds.{turn_plain}
use Rattle.ch_laws_plain.proofs.worlds_stay_plain.Goals as goal

pub returns-clause-fresh : goal.returns-clause-fresh
returns-clause-fresh c = fresh_plain

pub returns-clause-end : goal.returns-clause-end
returns-clause-end c = there_plain

pub returns-clause-turn : goal.returns-clause-turn
returns-clause-turn c = turn_plain

pub returns-clause-dial : goal.returns-clause-dial
returns-clause-dial c = dial_plain
