use Rattle.ch_laws_messages.proofs.GotGots.{said_before, got_next, none_earlier, got_by_receiver, got_at_once}
use Rattle.ch_laws_messages.proofs.got.receipts_are_lawful.Goals as goal

pub returns-clause-said : goal.returns-clause-said
returns-clause-said c = said_before

pub returns-clause-next : goal.returns-clause-next
returns-clause-next c = got_next

pub returns-clause-order : goal.returns-clause-order
returns-clause-order c = none_earlier

pub returns-clause-receiver : goal.returns-clause-receiver
returns-clause-receiver c = got_by_receiver

pub returns-clause-at_once : goal.returns-clause-at_once
returns-clause-at_once c = got_at_once
