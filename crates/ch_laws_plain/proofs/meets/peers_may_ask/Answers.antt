use Rattle.ch_laws_plain.proofs.MeetsAsked.{peers_may_ask}
use Rattle.ch_laws_plain.proofs.meets.peers_may_ask.Goals as goal

pub returns : goal.returns
returns c = peers_may_ask
