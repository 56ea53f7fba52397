use Rattle.ch_laws_messages.proofs.GotFresh.{fresh_get}
use Rattle.ch_laws_messages.proofs.GotKept.{get_kept}
use Rattle.ch_laws_messages.proofs.got.what_is_read_is_got.Goals as goal

pub returns-clause-fresh : goal.returns-clause-fresh
returns-clause-fresh c = fresh_get

pub returns-clause-kept : goal.returns-clause-kept
returns-clause-kept c = get_kept
