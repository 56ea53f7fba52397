use Rattle.ch_laws_messages.proofs.MailFronts.{takes_answered}
use Rattle.ch_laws_messages.proofs.mailboxes.takes_are_answered.Goals as goal

pub returns : goal.returns
returns c = takes_answered
