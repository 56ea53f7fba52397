use Rattle.ch_laws_delivery.proofs.Breaks.{is_broken}
use Rattle.ch_laws_delivery.proofs.broken_by_a_loss.Goals as goal

pub returns : goal.returns
returns z = λ names scene input sock probed why pairs f h. is_broken names scene input sock probed why pairs f h
