use Rattle.ch_laws_messages.proofs.AsksAsked.{asks_truly}
use Rattle.ch_laws_messages.proofs.asks.what_is_asked_is_written_truly.Goals as goal

pub returns : goal.returns
returns z = asks_truly
