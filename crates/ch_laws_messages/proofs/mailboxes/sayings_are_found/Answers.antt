use Rattle.ch_laws_messages.proofs.MailSayings.{saying_found}
use Rattle.ch_laws_messages.proofs.mailboxes.sayings_are_found.Goals as goal

pub returns : goal.returns
returns c = saying_found
