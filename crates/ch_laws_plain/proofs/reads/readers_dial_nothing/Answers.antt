use Rattle.ch_laws_plain.proofs.ReadsAlone.{next_dials_none, ended_dials_none}
use Rattle.ch_laws_plain.proofs.reads.readers_dial_nothing.Goals as goal

pub returns-clause-next : goal.returns-clause-next
returns-clause-next c = next_dials_none

pub returns-clause-ended : goal.returns-clause-ended
returns-clause-ended c = ended_dials_none
