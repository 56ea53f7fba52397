use Rattle.ch_laws_ends.proofs.Fed.{fed_unread, fed_end}
use Rattle.ch_laws_ends.proofs.fed_was_unread.Goals as goal

pub returns-clause-unread_alone : goal.returns-clause-unread_alone
returns-clause-unread_alone c = fed_unread

pub returns-clause-true_ends : goal.returns-clause-true_ends
returns-clause-true_ends c = fed_end
