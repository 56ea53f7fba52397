use Rattle.ch_laws_delivery.proofs.Closes.{is_departed}
use Rattle.ch_laws_delivery.proofs.closed_by_the_peer.Goals as goal

pub returns : goal.returns
returns z = λ names scene rest k h. is_departed names scene rest k h
