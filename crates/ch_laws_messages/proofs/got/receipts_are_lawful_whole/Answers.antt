use Rattle.ch_laws_messages.proofs.GotWhole.{got_next_all, lawful_receipts}
use Rattle.ch_laws_messages.proofs.got.receipts_are_lawful_whole.Goals as goal

pub returns-clause-next : goal.returns-clause-next
returns-clause-next c = got_next_all

pub returns-clause-over : goal.returns-clause-over
returns-clause-over c = λ log world r. r.over

pub returns-clause-whole : goal.returns-clause-whole
returns-clause-whole c = lawful_receipts
