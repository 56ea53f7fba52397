use Rattle.ch_laws_messages.proofs.EnteredMailboxes.{mails_kept, firsts_kept}
use Rattle.ch_laws_messages.proofs.entered.mailboxes_stand.Goals as goal

pub returns-clause-kept : goal.returns-clause-kept
returns-clause-kept c = mails_kept

pub returns-clause-takes : goal.returns-clause-takes
returns-clause-takes c = firsts_kept
