use Rattle.ch_laws_plain.proofs.HearsMoves.{to_none, by_none, moves}
use Rattle.ch_laws_plain.proofs.hears.streams_are_read_on.Goals as goal

pub returns-clause-whatever : goal.returns-clause-whatever
returns-clause-whatever c = to_none

pub returns-clause-of_none : goal.returns-clause-of_none
returns-clause-of_none c = by_none

pub returns-clause-after : goal.returns-clause-after
returns-clause-after c = moves
