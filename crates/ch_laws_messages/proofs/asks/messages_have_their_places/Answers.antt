use Rattle.ch_laws_messages.proofs.AsksPlaces.{behind_true}
use Rattle.ch_laws_messages.proofs.asks.messages_have_their_places.Goals as goal

pub returns : goal.returns
returns z = behind_true
