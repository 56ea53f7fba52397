use Rattle.std.proofs.Common.{◌≡◌, ℕ, refl, arith}
use Rattle.ch_delivery.proofs.forgetting.Goals as goal

differ : ◌≡◌ {A = ℕ} 0 1 → ⊥
differ e = omega arith

pub returns-clause-forbidden : goal.returns-clause-forbidden
returns-clause-forbidden c = λ law. differ (law (record { up = refl; one = refl; whole = refl; read = refl }))
