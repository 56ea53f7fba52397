use Rattle.ch_laws_delivery.proofs.Drops.{is_missed}
use Rattle.ch_laws_delivery.proofs.read_by_nobody.Goals as goal

pub returns : goal.returns
returns z = λ names scene rest by name from said r a h. is_missed names scene rest by name from said r a h
