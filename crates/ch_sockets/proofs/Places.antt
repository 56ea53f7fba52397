-- Lists by a test: the first that passes, its place, and what is written there.
use Rattle.std.proofs.Common.{◌≡◌, ℕ, suc, ◌+◌, ◌<◌, Bool, true, false, not, cond, nat_lt, List, [], ◌∷◌, ◌++◌, length, get_or, find, Option, Some, None, refl, ap, sym, ◌∙◌, arith}
use Rattle.std.specs.List.{position_or_len, position}
use Rattle.std.specs.Prelude.{set}
use Rattle.std.proofs.lemmas.Bool.{ltb-true, ltb-false}

-- what is written at the first place that passes
abbrev pub replaced : {X : Type 0} → (X → Bool) → X → List X → List X
replaced p y [] = y ∷ []
replaced p y (x ∷ xs) = cond (p x) (y ∷ xs) (x ∷ replaced p y xs)

at_front : {X : Type 0} (b : Bool) (x y : X) (xs ys : List X) (n : ℕ) → cond (not b) (1 + n) 0 < suc (length xs) → (n < length xs → set xs n y ≡ ys) → set (x ∷ xs) (cond (not b) (1 + n) 0) y ≡ cond b (y ∷ xs) (x ∷ ys)
at_front true x y xs ys n within ih = refl
at_front false x y xs ys n within ih =
    let e : 1 + n ≡ suc n = omega arith in
    let h : set xs n y ≡ ys = ih (omega arith) in
    rw (e, h) refl

replaced_at : {X : Type 0} (p : X → Bool) (y : X) (xs : List X) → position_or_len p xs < length xs → set xs (position_or_len p xs) y ≡ replaced p y xs
replaced_at p y [] within = absurd (omega arith)
replaced_at p y (x ∷ xs) within = at_front (p x) x y xs (replaced p y xs) (position_or_len p xs) within (replaced_at p y xs)

-- a write at the first place
pub replaced_there : {X : Type 0} (p : X → Bool) (y : X) (xs : List X) (i : ℕ) → position p xs ≡ Some i → set xs i y ≡ replaced p y xs
replaced_there p y xs i e = placed (nat_lt (position_or_len p xs) (length xs)) refl e
  where
    placed : (b : Bool) → nat_lt (position_or_len p xs) (length xs) ≡ b → cond b (Some (position_or_len p xs)) None ≡ Some i → set xs i y ≡ replaced p y xs
    placed true lt e = let same : position_or_len p xs ≡ i = cc in rw (← same) (replaced_at p y xs (ltb-true _ _ lt))
    placed false lt e = absurd cc

found_front : {X : Type 0} (b : Bool) (x d : X) (xs : List X) (n : ℕ) (rest : Option X) → cond (not b) (1 + n) 0 < suc (length xs) → (n < length xs → rest ≡ Some (get_or xs n d)) → cond b (Some x) rest ≡ Some (get_or (x ∷ xs) (cond (not b) (1 + n) 0) d)
found_front true x d xs n rest within ih = refl
found_front false x d xs n rest within ih =
    let e : 1 + n ≡ suc n = omega arith in
    let h : rest ≡ Some (get_or xs n d) = ih (omega arith) in
    rw (e, h) refl

found_at : {X : Type 0} (p : X → Bool) (d : X) (xs : List X) → position_or_len p xs < length xs → find p xs ≡ Some (get_or xs (position_or_len p xs) d)
found_at p d [] within = absurd (omega arith)
found_at p d (x ∷ xs) within = found_front (p x) x d xs (position_or_len p xs) (find p xs) within (found_at p d xs)

-- what stands at the first place is what is found
pub found_there : {X : Type 0} (p : X → Bool) (d : X) (xs : List X) (i : ℕ) → position p xs ≡ Some i → find p xs ≡ Some (get_or xs i d)
found_there p d xs i e = placed (nat_lt (position_or_len p xs) (length xs)) refl e
  where
    placed : (b : Bool) → nat_lt (position_or_len p xs) (length xs) ≡ b → cond b (Some (position_or_len p xs)) None ≡ Some i → find p xs ≡ Some (get_or xs i d)
    placed true lt e = let same : position_or_len p xs ≡ i = cc in rw (← same) (found_at p d xs (ltb-true _ _ lt))
    placed false lt e = absurd cc

none_front : {X : Type 0} (b : Bool) (x : X) (xs : List X) (n : ℕ) (rest : Option X) → (cond (not b) (1 + n) 0 < suc (length xs) → ⊥) → ((n < length xs → ⊥) → rest ≡ None) → cond b (Some x) rest ≡ None
none_front true x xs n rest past ih = absurd (past (omega arith))
none_front false x xs n rest past ih = rw (ih (λ h. past (omega arith))) refl

none_at : {X : Type 0} (p : X → Bool) (xs : List X) → (position_or_len p xs < length xs → ⊥) → find p xs ≡ None
none_at p [] past = refl
none_at p (x ∷ xs) past = none_front (p x) x xs (position_or_len p xs) (find p xs) past (none_at p xs)

-- nothing is found where there is no place
pub none_there : {X : Type 0} (p : X → Bool) (xs : List X) → position p xs ≡ None → find p xs ≡ None
none_there p xs e = past (nat_lt (position_or_len p xs) (length xs)) refl e
  where
    past : (b : Bool) → nat_lt (position_or_len p xs) (length xs) ≡ b → cond b (Some (position_or_len p xs)) None ≡ None → find p xs ≡ None
    past true lt e = absurd cc
    past false lt e = none_at p xs (λ h. absurd (omega (arith, h, ltb-false _ _ lt)))

-- where nothing is found, it is written last
pub replaced_last : {X : Type 0} (p : X → Bool) (y : X) (xs : List X) → find p xs ≡ None → replaced p y xs ≡ xs ++ y ∷ []
replaced_last p y [] e = refl
replaced_last p y (x ∷ xs) e = by_test (p x) (replaced_last p y xs) e
  where
    by_test : (b : Bool) → (find p xs ≡ None → replaced p y xs ≡ xs ++ y ∷ []) → cond b (Some x) (find p xs) ≡ None → cond b (y ∷ xs) (x ∷ replaced p y xs) ≡ x ∷ (xs ++ y ∷ [])
    by_test true ih e = absurd cc
    by_test false ih e = ap (λ zs. x ∷ zs) (ih e)

-- what is found passes
pub found_passes : {X : Type 0} (p : X → Bool) (x : X) (xs : List X) → find p xs ≡ Some x → p x ≡ true
found_passes p x [] e = absurd cc
found_passes p x (y ∷ ys) e = by_test (p y) (found_passes p x ys) refl e
  where
    by_test : (b : Bool) → (find p ys ≡ Some x → p x ≡ true) → p y ≡ b → cond b (Some y) (find p ys) ≡ Some x → p x ≡ true
    by_test true ih h e = let same : y ≡ x = cc in ap p (sym same) ∙ h
    by_test false ih h e = ih e
