use Rattle.ch_laws_messages.proofs.SaidAsked.{asked_say}
use Rattle.ch_laws_messages.proofs.said.what_is_asked_is_carried_on.Goals as goal

pub returns : goal.returns
returns c = asked_say
