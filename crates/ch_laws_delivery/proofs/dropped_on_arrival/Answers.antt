use Rattle.ch_laws_delivery.proofs.Drops.{is_dropped}
use Rattle.ch_laws_delivery.proofs.dropped_on_arrival.Goals as goal

pub returns : goal.returns
returns z = λ names scene rest r a h. is_dropped names scene rest r a h
