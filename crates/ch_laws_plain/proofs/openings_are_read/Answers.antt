use Rattle.ch_laws_plain.proofs.Pending.{comes_unread, one_number, bound_then}
use Rattle.ch_laws_plain.proofs.openings_are_read.Goals as goal

pub returns-clause-comes : goal.returns-clause-comes
returns-clause-comes c = comes_unread

pub returns-clause-number : goal.returns-clause-number
returns-clause-number c = one_number

pub returns-clause-bound : goal.returns-clause-bound
returns-clause-bound c = bound_then
