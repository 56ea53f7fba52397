use Rattle.ch_laws_delivery.proofs.Farewells.{is_parted}
use Rattle.ch_laws_delivery.proofs.closed_on_the_link.Goals as goal

pub returns : goal.returns
returns z = λ names scene p h. is_parted names scene p h
