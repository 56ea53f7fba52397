use Rattle.ch_laws_messages.proofs.GotReceivedKept.{fresh_received, received_kept}
use Rattle.ch_laws_messages.proofs.got.receipts_go_on.Goals as goal

pub returns-clause-fresh : goal.returns-clause-fresh
returns-clause-fresh c = fresh_received

pub returns-clause-kept : goal.returns-clause-kept
returns-clause-kept c = received_kept
