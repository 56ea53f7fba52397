use Rattle.std.proofs.Common.{◌≡◌, ℕ, refl, arith}
use Rattle.ch_link.specs.Table.{step_of}
use Rattle.ch_race.proofs.no_probe.Goals as goal

none_is_one : ◌≡◌ {A = ℕ} 0 1 → ⊥
none_is_one e = omega arith

pub returns-clause-forbidden : goal.returns-clause-forbidden
unfolding step_of
returns-clause-forbidden c = λ law. none_is_one (((law 1).own refl).exact refl)
