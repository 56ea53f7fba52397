-- What stands at the first place that passes a test.
use Rattle.std.proofs.Common.{◌≡◌, ℕ, suc, ◌+◌, ◌<◌, Bool, true, false, cond, List, [], ◌∷◌, length, not, get_or, find, Option, Some, None, refl, arith}
use Rattle.std.proofs.lemmas.Bool.{ltb-true, ltb-false}
use Rattle.std.specs.Prelude.{nat_lt}
use Rattle.std.specs.List.{position, position_or_len}

found_front : {X : Type 0} (b : Bool) (x d : X) (xs : List X) (n : ℕ) (rest : Option X) → cond (not b) (1 + n) 0 < suc (length xs) → (n < length xs → rest ≡ Some (get_or xs n d)) → cond b (Some x) rest ≡ Some (get_or (x ∷ xs) (cond (not b) (1 + n) 0) d)
found_front true x d xs n rest within ih = refl
found_front false x d xs n rest within ih =
    let e : 1 + n ≡ suc n = omega arith in
    let h : rest ≡ Some (get_or xs n d) = ih (omega arith) in
    rw (e, h) refl

found_at : {X : Type 0} (p : X → Bool) (d : X) (xs : List X) → position_or_len p xs < length xs → find p xs ≡ Some (get_or xs (position_or_len p xs) d)
found_at p d [] within = absurd (omega arith)
found_at p d (x ∷ xs) within = found_front (p x) x d xs (position_or_len p xs) (find p xs) within (found_at p d xs)

-- what stands at the first place is what is found
pub found_there : {X : Type 0} (p : X → Bool) (d : X) (xs : List X) (i : ℕ) → position p xs ≡ Some i → find p xs ≡ Some (get_or xs i d)
found_there p d xs i e = by_place (nat_lt (position_or_len p xs) (length xs)) refl e
  where
    by_place : (b : Bool) → nat_lt (position_or_len p xs) (length xs) ≡ b → cond b (Some (position_or_len p xs)) None ≡ Some i → find p xs ≡ Some (get_or xs i d)
    by_place true lt e = let same : position_or_len p xs ≡ i = cc in rw (← same) (found_at p d xs (ltb-true _ _ lt))
    by_place false lt e = absurd cc

none_front : {X : Type 0} (b : Bool) (x : X) (xs : List X) (n : ℕ) (rest : Option X) → (cond (not b) (1 + n) 0 < suc (length xs) → ⊥) → ((n < length xs → ⊥) → rest ≡ None) → cond b (Some x) rest ≡ None
none_front true x xs n rest past ih = absurd (past (omega arith))
none_front false x xs n rest past ih = rw (ih (λ h. past (omega arith))) refl

none_at : {X : Type 0} (p : X → Bool) (xs : List X) → (position_or_len p xs < length xs → ⊥) → find p xs ≡ None
none_at p [] past = refl
none_at p (x ∷ xs) past = none_front (p x) x xs (position_or_len p xs) (find p xs) past (none_at p xs)

-- nothing is found where there is no place
pub none_there : {X : Type 0} (p : X → Bool) (xs : List X) → position p xs ≡ None → find p xs ≡ None
none_there p xs e = past (nat_lt (position_or_len p xs) (length xs)) refl e
  where
    past : (b : Bool) → nat_lt (position_or_len p xs) (length xs) ≡ b → cond b (Some (position_or_len p xs)) None ≡ None → find p xs ≡ None
    past true lt e = absurd cc
    past false lt e = none_at p xs (λ h. absurd (omega (arith, h, ltb-false _ _ lt)))
