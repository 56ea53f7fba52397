use Rattle.ch_laws_messages.proofs.MailTurns.{asked_goes, item_goes}
use Rattle.ch_laws_messages.proofs.mailboxes.mailboxes_go_on.Goals as goal

pub returns-clause-asked : goal.returns-clause-asked
returns-clause-asked c journal j named log world what by command place cell number node acts next told after line at there does all given mail follows = asked_goes journal log world mail j named given what by command place cell number node acts next told after line at there does all follows

pub returns-clause-item : goal.returns-clause-item
returns-clause-item c journal j named log world place cell steps host told after at does all given mail so = item_goes journal log world mail j named given place cell steps host told after at does all so
