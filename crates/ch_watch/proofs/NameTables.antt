-- A table of names, seen as the list of them in its order.
use Rattle.std.proofs.Common.{◌≡◌, ℕ, Bool, true, false, cond, ◌||◌, List, [], ◌∷◌, ◌++◌, find, filter, is_some, Option, Some, None, refl, sym, ap, ◌∙◌}
use Rattle.std.specs.List.{list_any}
use Rattle.std.specs.Str.{bytes_eq}
use Rattle.std.specs.Map.{lookup, remove_entry, values_of}
use Rattle.std.proofs.lemmas.Slice.Eq.{bytes_eq-Decides}
use Rattle.ch_watch.specs.declared.named.Named.{Named}
use Rattle.ch_watch.specs.Firsts.{after_passing, first_that}
use Rattle.ch_watch.specs.Names.{has_name}
use Rattle.ch_watch.specs.Tables.{UnderNames}
use Rattle.ch_watch.proofs.Rising.{after, taken}

turned : (xs ys : List ℕ) → bytes_eq xs ys ≡ bytes_eq ys xs
turned xs ys = both (bytes_eq xs ys) (bytes_eq ys xs) refl refl
  where
    both : (a b : Bool) → bytes_eq xs ys ≡ a → bytes_eq ys xs ≡ b → a ≡ b
    both true true p q = refl
    both true false p q = absurd (let h : bytes_eq ys xs ≡ true = (bytes_eq-Decides ys xs).1 (sym ((bytes_eq-Decides xs ys).0 p)) in cc)
    both false true p q = absurd (let h : bytes_eq xs ys ≡ true = (bytes_eq-Decides xs ys).1 (sym ((bytes_eq-Decides ys xs).0 q)) in cc)
    both false false p q = refl

-- how the table compares its keys
pub same_name : {K : Type 0} (spelled : K → List ℕ) (bytes name : List ℕ) → bytes ≡ name → (k : K) → bytes_eq bytes (spelled k) ≡ bytes_eq (spelled k) name
same_name spelled bytes name is k = ap (λ b. bytes_eq b (spelled k)) is ∙ turned name (spelled k)

module _ {K : Type 0} (spelled : K → List ℕ) (t : K → Bool) (name : List ℕ) (same : (k : K) → t k ≡ bytes_eq (spelled k) name) where
  here : (e : K × Named) → e.1.name ≡ spelled e.0 → t e.0 ≡ has_name name e.1
  unfolding has_name
  here e own = same e.0 ∙ ap (λ n. bytes_eq n name) (sym own)

  either : (a b c d : Bool) → a ≡ b → c ≡ d → cond a true c ≡ (b || d)
  either true true c d h i = refl
  either true false c d h i = absurd cc
  either false true c d h i = absurd cc
  either false false c d h i = i

  some : (a : Bool) (v : Named) (o : Option Named) → is_some (cond a (Some v) o) ≡ cond a true (is_some o)
  some true v o = refl
  some false v o = refl

  -- a name stands where it is looked up
  pub stands : (es : List (K × Named)) → UnderNames spelled es → is_some (lookup t es) ≡ list_any (has_name name) (values_of es)
  stands [] own = refl
  stands (e ∷ es) own = some (t e.0) e.1 (lookup t es) ∙ either (t e.0) (has_name name e.1) _ _ (here e own.0) (stands es own.1)

  -- what is looked up is the first of that name
  pub found_name : (es : List (K × Named)) → UnderNames spelled es → lookup t es ≡ find (has_name name) (values_of es)
  found_name [] own = refl
  found_name (e ∷ es) own = ap (λ b. cond b (Some e.1) (lookup t es)) (here e own.0) ∙ ap (cond (has_name name e.1) (Some e.1)) (found_name es own.1)

  one : (a b : Bool) (e : K × Named) (es : List (K × Named)) → a ≡ b → first_that (has_name name) (values_of es) ≡ taken (lookup t es) (values_of (remove_entry t es)) → cond b (Some (e.1, values_of es)) (after_passing e.1 (first_that (has_name name) (values_of es))) ≡ taken (cond a (Some e.1) (lookup t es)) (values_of (cond a es (e ∷ remove_entry t es)))
  one true true e es h ih = refl
  one true false e es h ih = absurd cc
  one false true e es h ih = absurd cc
  one false false e es h ih = ap (after_passing e.1) ih ∙ after e.1 (lookup t es) (values_of (remove_entry t es))

  -- what is taken out is the first of that name, and the others are left
  pub taken_name : (es : List (K × Named)) → UnderNames spelled es → first_that (has_name name) (values_of es) ≡ taken (lookup t es) (values_of (remove_entry t es))
  taken_name [] own = refl
  taken_name (e ∷ es) own = one (t e.0) (has_name name e.1) e es (here e own.0) (taken_name es own.1)

  -- a name that doesn't stand isn't looked up
  pub absent : (es : List (K × Named)) → UnderNames spelled es → list_any (has_name name) (values_of es) ≡ false → lookup t es ≡ None
  absent es own h = none (lookup t es) (stands es own ∙ h)
    where
      none : (o : Option Named) → is_some o ≡ false → o ≡ None
      none None h = refl
      none (Some v) h = absurd cc

-- ---- what keeps each name under its own bytes

pub removed_name : {K : Type 0} (spelled : K → List ℕ) (t : K → Bool) (es : List (K × Named)) → UnderNames spelled es → UnderNames spelled (remove_entry t es)
removed_name spelled t [] own = own
removed_name spelled t (e ∷ es) own = at_front (t e.0) (removed_name spelled t es own.1)
  where
    at_front : (b : Bool) → UnderNames spelled (remove_entry t es) → UnderNames spelled (cond b es (e ∷ remove_entry t es))
    at_front true rest = own.1
    at_front false rest = (own.0, rest)

pub kept_names : {K : Type 0} (spelled : K → List ℕ) (p : K × Named → Bool) (es : List (K × Named)) → UnderNames spelled es → UnderNames spelled (filter p es)
kept_names spelled p [] own = own
kept_names spelled p (e ∷ es) own = at_front (p e) (kept_names spelled p es own.1)
  where
    at_front : (b : Bool) → UnderNames spelled (filter p es) → UnderNames spelled (cond b (e ∷ filter p es) (filter p es))
    at_front true rest = (own.0, rest)
    at_front false rest = rest

pub added_name : {K : Type 0} (spelled : K → List ℕ) (key : K) (named : Named) (es : List (K × Named)) → named.name ≡ spelled key → UnderNames spelled es → UnderNames spelled (es ++ (key, named) ∷ [])
added_name spelled key named [] is own = (is, tt)
added_name spelled key named (e ∷ es) is own = (own.0, added_name spelled key named es is own.1)

-- what is added stands last
pub stood : {old now : List Named} {name wanted : List ℕ} (process : ℕ) → old ≡ now → name ≡ wanted → old ++ record { name = name; process = process } ∷ [] ≡ now ++ record { name = wanted; process = process } ∷ []
stood process is same = ap_both is same
  where
    named : List ℕ → Named
    named n = record { name = n; process = process }

    ap_both : {a b : List Named} {m n : List ℕ} → a ≡ b → m ≡ n → a ++ named m ∷ [] ≡ b ++ named n ∷ []
    ap_both {a} {b} {m} {n} p q = ap (λ l. l ++ named m ∷ []) p ∙ ap (λ x. b ++ named x ∷ []) q
