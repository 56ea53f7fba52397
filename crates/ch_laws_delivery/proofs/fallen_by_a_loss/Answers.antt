use Rattle.ch_laws_delivery.proofs.Falls.{is_fallen}
use Rattle.ch_laws_delivery.proofs.fallen_by_a_loss.Goals as goal

pub returns : goal.returns
returns z = λ names scene input sock probed why pairs f lost. is_fallen names scene input sock probed why pairs f lost
