use Rattle.std.proofs.Common.{◌≡◌, false, true}
use Rattle.ch_delivery.proofs.outliving.Goals as goal

differ : false ≡ true → ⊥
differ e = cc

pub returns-clause-forbidden : goal.returns-clause-forbidden
returns-clause-forbidden c = λ law. differ law.0.living
