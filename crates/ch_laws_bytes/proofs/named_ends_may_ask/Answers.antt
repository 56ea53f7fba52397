use Rattle.ch_laws_bytes.proofs.Asked.{may_be_asked}
use Rattle.ch_laws_bytes.proofs.named_ends_may_ask.Goals as goal

pub returns : goal.returns
returns c = may_be_asked
