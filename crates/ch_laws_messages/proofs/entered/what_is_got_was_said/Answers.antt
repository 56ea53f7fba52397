use Rattle.ch_laws_messages.proofs.EnteredSaid.{gots_said}
use Rattle.ch_laws_messages.proofs.entered.what_is_got_was_said.Goals as goal

pub returns : goal.returns
returns c = gots_said
