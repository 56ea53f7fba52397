use Rattle.ch_laws_plain.proofs.Asked.{asked_turn}
use Rattle.ch_laws_plain.proofs.asked_in_plain_streams.Goals as goal

pub returns : goal.returns
returns c = asked_turn
