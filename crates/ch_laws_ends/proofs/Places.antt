-- One place of a list is set.
use Rattle.std.proofs.Common.{◌≡◌, ℕ, zero, suc, Bool, true, false, List, [], ◌∷◌, refl, sym, ap, ◌∙◌, subst}
use Rattle.std.specs.Prelude.{Option, Some, None, slice_get, slice_set, ◌==◌}
use Rattle.ch_laws_log.proofs.Stored.{number_is, number_same}

pub got_same : {A : Type 0} (xs : List A) (k : ℕ) (x y : A) → slice_get xs k ≡ Some x → slice_get (slice_set xs k y) k ≡ Some y
got_same [] k x y e = absurd cc
got_same (z ∷ xs) zero x y e = refl
got_same (z ∷ xs) (suc k) x y e = got_same xs k x y e

pub got_other : {A : Type 0} (xs : List A) (k j : ℕ) (y : A) → (k ≡ j → ⊥) → slice_get (slice_set xs k y) j ≡ slice_get xs j
got_other [] k j y n = refl
got_other (z ∷ xs) zero zero y n = absurd (n refl)
got_other (z ∷ xs) zero (suc j) y n = refl
got_other (z ∷ xs) (suc k) zero y n = refl
got_other (z ∷ xs) (suc k) (suc j) y n = got_other xs k j y (λ e. n (ap suc e))

pub set_twice : {A : Type 0} (xs : List A) (k : ℕ) (x y : A) → slice_set (slice_set xs k x) k y ≡ slice_set xs k y
set_twice [] k x y = refl
set_twice (z ∷ xs) zero x y = refl
set_twice (z ∷ xs) (suc k) x y = ap (λ l. z ∷ l) (set_twice xs k x y)

others : (k j : ℕ) → (k == j) ≡ false → k ≡ j → ⊥
others k j e is = let same : (k == j) ≡ true = subst (λ (m : ℕ). (k == m) ≡ true) is (number_same k) in absurd cc

pub some_is : {A : Type 0} (y z : A) → ◌≡◌ {A = Option A} (Some y) (Some z) → y ≡ z
some_is y z e = cc

-- what holds of what is set and of all that stands elsewhere holds at each place
pub set_split : {A : Type 0} (xs : List A) (k : ℕ) (x y : A) → slice_get xs k ≡ Some x → (Q : ℕ → A → Type 0) → Q k y → ((j : ℕ) (z : A) → (k == j) ≡ false → slice_get xs j ≡ Some z → Q j z) → (j : ℕ) (z : A) → slice_get (slice_set xs k y) j ≡ Some z → Q j z
set_split {A = A} xs k x y at Q own other j z f = by_test (k == j) refl where
  by_test : (b : Bool) → (k == j) ≡ b → Q j z
  by_test true e = subst (λ (m : ℕ). Q m z) (number_is k j e) (subst (λ (w : A). Q k w) is own) where
    there : slice_get (slice_set xs k y) k ≡ Some z
    there = subst (λ (m : ℕ). slice_get (slice_set xs k y) m ≡ Some z) (sym (number_is k j e)) f

    is : y ≡ z
    is = some_is y z (sym (got_same xs k x y at) ∙ there)
  by_test false e = other j z e (sym (got_other xs k j y (others k j e)) ∙ f)

-- what isn't there stands elsewhere, and wasn't
pub set_none : {A : Type 0} (xs : List A) (k : ℕ) (x y : A) (j : ℕ) → slice_get xs k ≡ Some x → slice_get (slice_set xs k y) j ≡ None → ((k == j) ≡ false) × (slice_get xs j ≡ None)
set_none xs k x y j at f = by_test (k == j) refl where
  by_test : (b : Bool) → (k == j) ≡ b → ((k == j) ≡ false) × (slice_get xs j ≡ None)
  by_test true e =
      let there : slice_get (slice_set xs k y) k ≡ None = subst (λ (m : ℕ). slice_get (slice_set xs k y) m ≡ None) (sym (number_is k j e)) f in
      let got = got_same xs k x y at in absurd cc
  by_test false e = (e, sym (got_other xs k j y (others k j e)) ∙ f)
