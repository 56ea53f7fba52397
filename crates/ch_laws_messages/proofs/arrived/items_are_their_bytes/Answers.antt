use Rattle.ch_laws_messages.proofs.ArrivedFronts.{stands_in}
use Rattle.ch_laws_messages.proofs.arrived.items_are_their_bytes.Goals as goal

pub returns : goal.returns
returns z = stands_in
