-- One element of a list, after a push or a write.
use Rattle.std.proofs.Common.{◌≡◌, ◌≢◌, ℕ, zero, suc, ◌<◌, List, [], ◌∷◌, ◌++◌, length, refl, ap, arith, Some}
use Rattle.std.specs.Prelude.{slice_get, slice_set}

pub push_here : {X : Type 0} (xs : List X) (y : X) → slice_get (xs ++ y ∷ []) (length xs) ≡ Some y
push_here [] y = refl
push_here (x ∷ xs) y = push_here xs y

pub push_other : {X : Type 0} (xs : List X) (y : X) (k : ℕ) → k ≢ length xs → slice_get (xs ++ y ∷ []) k ≡ slice_get xs k
push_other [] y zero h = absurd (h refl)
push_other [] y (suc k) h = refl
push_other (x ∷ xs) y zero h = refl
push_other (x ∷ xs) y (suc k) h = push_other xs y k (λ e. h (ap suc e))

pub set_here : {X : Type 0} (xs : List X) (k : ℕ) (y : X) → k < length xs → slice_get (slice_set xs k y) k ≡ Some y
set_here [] k y h = absurd (omega arith)
set_here (x ∷ xs) zero y h = refl
set_here (x ∷ xs) (suc k) y h = set_here xs k y (omega arith)

pub set_other : {X : Type 0} (xs : List X) (k : ℕ) (y : X) (j : ℕ) → j ≢ k → slice_get (slice_set xs k y) j ≡ slice_get xs j
set_other [] k y j h = refl
set_other (x ∷ xs) zero y zero h = absurd (h refl)
set_other (x ∷ xs) zero y (suc j) h = refl
set_other (x ∷ xs) (suc k) y zero h = refl
set_other (x ∷ xs) (suc k) y (suc j) h = set_other xs k y j (λ e. h (ap suc e))
