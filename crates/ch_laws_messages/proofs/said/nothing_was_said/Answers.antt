use Rattle.ch_laws_messages.proofs.SaidFresh.{fresh_say}
use Rattle.ch_laws_messages.proofs.said.nothing_was_said.Goals as goal

pub returns : goal.returns
returns c = fresh_say
