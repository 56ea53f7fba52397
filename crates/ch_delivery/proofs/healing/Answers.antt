use Rattle.std.proofs.Common.{◌≡◌, ℕ, arith}
use Rattle.ch_delivery.proofs.healing.Goals as goal

differ : ◌≡◌ {A = ℕ} 2 1 → ⊥
differ e = omega arith

pub returns-clause-forbidden : goal.returns-clause-forbidden
returns-clause-forbidden c = λ law. differ law.0.order
