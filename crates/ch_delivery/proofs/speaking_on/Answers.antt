use Rattle.std.proofs.Common.{◌<◌, arith}
use Rattle.ch_delivery.proofs.speaking_on.Goals as goal

below : ◌<◌ 1 1 → ⊥
below e = omega arith

pub returns-clause-forbidden : goal.returns-clause-forbidden
returns-clause-forbidden c = λ law. below law.0.said
