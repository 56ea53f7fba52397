-- Payloads under an id, as more of them are read.
use Rattle.std.proofs.Common.{◌≡◌, ◌≤◌, ℕ, zero, suc, Bool, true, false, cond, List, [], ◌∷◌, ◌++◌, length, take, drop, refl, sym, ap, ◌∙◌, arith}
use Rattle.std.specs.Prelude.{filter_map, find, slice_get, option_map, Option, Some, None, ◌==◌}
use Rattle.std.specs.List.{cons_option}
use Rattle.std.specs.Option.{option_or}
use Rattle.std.proofs.lemmas.List.Folds.{find-append}
use Rattle.std.proofs.lemmas.List.Elements.{filter_map-append}
use Rattle.ch_model.specs.AccountsItems.{first_payload}
use Rattle.ch_laws_peers.specs.Reads.{after_first}

pub clash : {A : Type 0} → ◌≡◌ {A = Bool} true false → A
clash e = absurd cc

pub some_is : {A : Type 0} (x y : A) → ◌≡◌ {A = Option A} (Some x) (Some y) → x ≡ y
some_is x y e = cc

pub none_some : {A B : Type 0} (x : A) (o : Option A) → o ≡ None → o ≡ Some x → B
none_some x o e f = absurd cc

-- the payload, where it is under that id
abbrev pub under : ℕ → ℕ × List ℕ → Option (List ℕ)
under id d = elim (d.0 == id) [ true ↦ Some d.1 | false ↦ None ]

-- ---- the first payload

-- the first stays the first
pub first_stays : (id : ℕ) (ds more : List (ℕ × List ℕ)) (opening : List ℕ) → first_payload id ds ≡ Some opening → first_payload id (ds ++ more) ≡ Some opening
first_stays id ds more opening e = by_found (find (λ (d : ℕ × List ℕ). d.0 == id) ds) refl e where
  by_found : (o : Option (ℕ × List ℕ)) → find (λ (d : ℕ × List ℕ). d.0 == id) ds ≡ o → option_map (λ (d : ℕ × List ℕ). d.1) o ≡ Some opening → first_payload id (ds ++ more) ≡ Some opening
  by_found None f e = absurd cc
  by_found (Some d) f e = ap (option_map (λ (d : ℕ × List ℕ). d.1)) (find-append (λ (d : ℕ × List ℕ). d.0 == id) ds more ∙ ap (λ (o : Option (ℕ × List ℕ)). option_or o (find (λ (d : ℕ × List ℕ). d.0 == id) more)) f) ∙ e

-- where there was none, it is the next one's, if that is under the id
pub first_next : (id : ℕ) (ds : List (ℕ × List ℕ)) (d : ℕ × List ℕ) → first_payload id ds ≡ None → first_payload id (ds ++ d ∷ []) ≡ under id d
first_next id ds d e = by_found (find (λ (d : ℕ × List ℕ). d.0 == id) ds) refl e where
  by_test : (b : Bool) → option_map (λ (d : ℕ × List ℕ). d.1) (cond b (Some d) None) ≡ elim b as (λ b. Option (List ℕ)) [ true ↦ Some d.1 | false ↦ None ]
  by_test true = refl
  by_test false = refl

  by_found : (o : Option (ℕ × List ℕ)) → find (λ (d : ℕ × List ℕ). d.0 == id) ds ≡ o → option_map (λ (d : ℕ × List ℕ). d.1) o ≡ None → first_payload id (ds ++ d ∷ []) ≡ under id d
  by_found (Some one) f e = absurd cc
  by_found None f e = ap (option_map (λ (d : ℕ × List ℕ). d.1)) (find-append (λ (d : ℕ × List ℕ). d.0 == id) ds (d ∷ []) ∙ ap (λ (o : Option (ℕ × List ℕ)). option_or o (find (λ (d : ℕ × List ℕ). d.0 == id) (d ∷ []))) f) ∙ by_test (d.0 == id)

-- a payload under another id is the first of none of these
pub first_else : (id : ℕ) (ds : List (ℕ × List ℕ)) (d : ℕ × List ℕ) → (d.0 == id) ≡ false → first_payload id (ds ++ d ∷ []) ≡ first_payload id ds
first_else id ds d h = by_first (first_payload id ds) refl where
  by_first : (o : Option (List ℕ)) → first_payload id ds ≡ o → first_payload id (ds ++ d ∷ []) ≡ first_payload id ds
  by_first None e = first_next id ds d e ∙ ap (λ (b : Bool). elim b as (λ b. Option (List ℕ)) [ true ↦ Some d.1 | false ↦ None ]) h ∙ sym e
  by_first (Some opening) e = first_stays id ds (d ∷ []) opening e ∙ sym e

-- ---- how many are behind it

abbrev pub all_under : ℕ → List (ℕ × List ℕ) → List (List ℕ)
all_under id ds = filter_map (λ (d : ℕ × List ℕ). elim (d.0 == id) as (λ b. Option (List ℕ)) [ true ↦ Some d.1 | false ↦ None ]) ds

under_none : (id : ℕ) (ds : List (ℕ × List ℕ)) → first_payload id ds ≡ None → all_under id ds ≡ []
under_none id [] e = refl
under_none id (d ∷ ds) e = by_test (d.0 == id) e (under_none id ds) where
  by_test : (b : Bool) → option_map (λ (d : ℕ × List ℕ). d.1) (cond b (Some d) (find (λ (d : ℕ × List ℕ). d.0 == id) ds)) ≡ None → (first_payload id ds ≡ None → all_under id ds ≡ []) → cons_option (elim b as (λ b. Option (List ℕ)) [ true ↦ Some d.1 | false ↦ None ]) (all_under id ds) ≡ []
  by_test true e more = absurd cc
  by_test false e more = more e

under_some : (id : ℕ) (ds : List (ℕ × List ℕ)) (opening : List ℕ) → first_payload id ds ≡ Some opening → (rest : List (List ℕ)) × (all_under id ds ≡ opening ∷ rest)
under_some id [] opening e = absurd cc
under_some id (d ∷ ds) opening e = by_test (d.0 == id) e (under_some id ds opening) where
  by_test : (b : Bool) → option_map (λ (d : ℕ × List ℕ). d.1) (cond b (Some d) (find (λ (d : ℕ × List ℕ). d.0 == id) ds)) ≡ Some opening → (first_payload id ds ≡ Some opening → (rest : List (List ℕ)) × (all_under id ds ≡ opening ∷ rest))
      → (rest : List (List ℕ)) × (cons_option (elim b as (λ b. Option (List ℕ)) [ true ↦ Some d.1 | false ↦ None ]) (all_under id ds) ≡ opening ∷ rest)
  by_test true e more = let is : d.1 ≡ opening = cc in (all_under id ds, ap (λ (p : List ℕ). p ∷ all_under id ds) is)
  by_test false e more = more e

length_more : {A : Type 0} (xs : List A) (x : A) → length (xs ++ x ∷ []) ≡ suc (length xs)
length_more [] x = refl
length_more (y ∷ xs) x = ap suc (length_more xs x)

-- one behind the first is one more
pub after_next : (ds : List (ℕ × List ℕ)) (id : ℕ) (d : ℕ × List ℕ) (opening : List ℕ) → first_payload id ds ≡ Some opening → (d.0 == id) ≡ true → after_first id (ds ++ d ∷ []) ≡ suc (after_first id ds)
after_next ds id d opening e h = by_some (under_some id ds opening e) where
  more : all_under id (ds ++ d ∷ []) ≡ all_under id ds ++ d.1 ∷ []
  more = filter_map-append (λ (d : ℕ × List ℕ). elim (d.0 == id) as (λ b. Option (List ℕ)) [ true ↦ Some d.1 | false ↦ None ]) ds (d ∷ []) ∙ ap (λ (b : Bool). all_under id ds ++ cons_option (elim b as (λ b. Option (List ℕ)) [ true ↦ Some d.1 | false ↦ None ]) []) h

  by_some : (rest : List (List ℕ)) × (all_under id ds ≡ opening ∷ rest) → after_first id (ds ++ d ∷ []) ≡ suc (after_first id ds)
  by_some r = ap (λ (l : List (List ℕ)). length (drop 1 l)) (more ∙ ap (λ (l : List (List ℕ)). l ++ d.1 ∷ []) r.1) ∙ length_more r.0 d.1 ∙ ap (λ (l : List (List ℕ)). suc (length (drop 1 l))) (sym r.1)

-- one under another id is none of them
pub after_else : (ds : List (ℕ × List ℕ)) (id : ℕ) (d : ℕ × List ℕ) → (d.0 == id) ≡ false → after_first id (ds ++ d ∷ []) ≡ after_first id ds
after_else ds id d h = ap (λ (l : List (List ℕ)). length (drop 1 l)) (filter_map-append (λ (d : ℕ × List ℕ). elim (d.0 == id) as (λ b. Option (List ℕ)) [ true ↦ Some d.1 | false ↦ None ]) ds (d ∷ [])
    ∙ ap (λ (b : Bool). all_under id ds ++ cons_option (elim b as (λ b. Option (List ℕ)) [ true ↦ Some d.1 | false ↦ None ]) []) h ∙ nothing (all_under id ds)) where
      nothing : (xs : List (List ℕ)) → xs ++ [] ≡ xs
      nothing [] = refl
      nothing (x ∷ xs) = ap (λ (l : List (List ℕ)). x ∷ l) (nothing xs)

-- the first has none behind it
pub after_new : (ds : List (ℕ × List ℕ)) (id : ℕ) (d : ℕ × List ℕ) → first_payload id ds ≡ None → after_first id (ds ++ d ∷ []) ≡ 0
after_new ds id d e = ap (λ (l : List (List ℕ)). length (drop 1 l)) (filter_map-append (λ (d : ℕ × List ℕ). elim (d.0 == id) as (λ b. Option (List ℕ)) [ true ↦ Some d.1 | false ↦ None ]) ds (d ∷ [])
    ∙ ap (λ (l : List (List ℕ)). l ++ all_under id (d ∷ [])) (under_none id ds e)) ∙ by_test (d.0 == id) where
      by_test : (b : Bool) → length (drop 1 (cons_option (elim b as (λ b. Option (List ℕ)) [ true ↦ Some d.1 | false ↦ None ]) [])) ≡ 0
      by_test true = refl
      by_test false = refl

-- where there is none, none is behind it
pub after_none : (ds : List (ℕ × List ℕ)) (id : ℕ) → first_payload id ds ≡ None → after_first id ds ≡ 0
after_none ds id e = ap (λ (l : List (List ℕ)). length (drop 1 l)) (under_none id ds e)

-- ---- parts of lists

-- so many and the next
pub take_next : {A : Type 0} (n : ℕ) (xs : List A) (x : A) → slice_get xs n ≡ Some x → take (suc n) xs ≡ take n xs ++ x ∷ []
take_next {A = A} n [] x e = absurd cc
take_next {A = A} zero (y ∷ xs) x e = let is : y ≡ x = cc in ap (λ (z : A). z ∷ []) is
take_next {A = A} (suc n) (y ∷ xs) x e = ap (λ (l : List A). y ∷ l) (take_next n xs x e)

-- so many of them are so many of more
pub take_more : {A : Type 0} (n : ℕ) (xs more : List A) → n ≤ length xs → take n (xs ++ more) ≡ take n xs
take_more {A = A} zero xs more h = refl
take_more {A = A} (suc n) [] more h = absurd (omega arith)
take_more {A = A} (suc n) (x ∷ xs) more h = ap (λ (l : List A). x ∷ l) (take_more n xs more (omega arith))

-- what follows them
pub split_at : {A : Type 0} (n : ℕ) (xs : List A) (x : A) → slice_get xs n ≡ Some x → (rest : List A) × (xs ≡ take n xs ++ x ∷ rest)
split_at {A = A} n [] x e = absurd cc
split_at {A = A} zero (y ∷ xs) x e = let is : y ≡ x = cc in (xs, ap (λ (z : A). z ∷ xs) is)
split_at {A = A} (suc n) (y ∷ xs) x e = let r = split_at n xs x e in (r.0, ap (λ (l : List A). y ∷ l) r.1)

pub within : {A : Type 0} (n : ℕ) (xs : List A) (x : A) → slice_get xs n ≡ Some x → suc n ≤ length xs
within n [] x e = absurd cc
within zero (y ∷ xs) x e = omega arith
within (suc n) (y ∷ xs) x e = let h = within n xs x e in omega arith
