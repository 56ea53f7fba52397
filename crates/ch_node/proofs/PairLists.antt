-- A pair's place in the list of pairs.
use Rattle.std.proofs.Common.{◌≡◌, ℕ, suc, ◌+◌, Bool, true, false, cond, List, [], ◌∷◌, ◌++◌, length, not, get_or, Option, Some, None, refl, sym, ap, ◌∙◌, arith}
use Rattle.std.proofs.lemmas.Bool.Decides.{nat_tests}
use Rattle.std.specs.Prelude.{nat_lt, slice_set, unwrap_or}
use Rattle.ch_node.proofs.Found.{found_there, none_there}
use Rattle.ch_static.specs.declared.target.Target.{Target}
use Rattle.std.specs.List.{position, position_or_len}
use Rattle.ch_model.specs.NodeState.{Pair}
use Rattle.ch_model.specs.NodePairs.{is_pair, with_pair, new_pair, pair_of}

one : (n : ℕ) → 1 + n ≡ suc n
one n = omega arith

first : (len : ℕ) → nat_lt 0 (suc len) ≡ true
first len = grind (arith, nat_tests)

shifted : (k len : ℕ) → nat_lt (1 + k) (suc len) ≡ nat_lt k len
shifted k len = both (nat_lt (1 + k) (suc len)) (nat_lt k len) refl refl
  where
    both : (x y : Bool) → nat_lt (1 + k) (suc len) ≡ x → nat_lt k len ≡ y → x ≡ y
    both true true p q = refl
    both true false p q = grind (arith, nat_tests)
    both false true p q = grind (arith, nat_tests)
    both false false p q = refl

-- where a pair goes, by the place where it stands
abbrev pub put_at : Pair → List Pair → Option ℕ → List Pair
put_at pair pairs None = pairs ++ pair ∷ []
put_at pair pairs (Some place) = slice_set pairs place pair

-- a pair is put into its place, or after the others
pub placed : (pair : Pair) (pairs : List Pair) → put_at pair pairs (position (is_pair pair.by pair.to) pairs) ≡ with_pair pair pairs
placed pair [] = refl
placed pair (known ∷ others) = at_front (is_pair pair.by pair.to known) (position_or_len (is_pair pair.by pair.to) others) (length others) (placed pair others)
  where
    past : (c : Bool) (n : ℕ) → put_at pair others (cond c (Some n) None) ≡ with_pair pair others → put_at pair (known ∷ others) (cond c (Some (1 + n)) None) ≡ known ∷ with_pair pair others
    past true n h = ap (λ k. slice_set (known ∷ others) k pair) (one n) ∙ ap (λ l. known ∷ l) h
    past false n h = ap (λ l. known ∷ l) h

    at_front : (b : Bool) (n len : ℕ) → put_at pair others (cond (nat_lt n len) (Some n) None) ≡ with_pair pair others → put_at pair (known ∷ others) (cond (nat_lt (cond (not b) (1 + n) 0) (suc len)) (Some (cond (not b) (1 + n) 0)) None) ≡ cond b (pair ∷ others) (known ∷ with_pair pair others)
    at_front true n len h = ap (λ c. put_at pair (known ∷ others) (cond c (Some 0) None)) (first len)
    at_front false n len h = ap (λ c. put_at pair (known ∷ others) (cond c (Some (1 + n)) None)) (shifted n len) ∙ past (nat_lt n len) n h

-- a new pair stands after the others
pub added : (pair : Pair) (pairs : List Pair) → None ≡ position (is_pair pair.by pair.to) pairs → pairs ++ pair ∷ [] ≡ with_pair pair pairs
added pair pairs h = ap (put_at pair pairs) h ∙ placed pair pairs

-- a known pair stands in its place
pub set_at : (pair : Pair) (pairs : List Pair) (place : ℕ) → Some place ≡ position (is_pair pair.by pair.to) pairs → slice_set pairs place pair ≡ with_pair pair pairs
set_at pair pairs place h = ap (put_at pair pairs) h ∙ placed pair pairs

-- ---- the pair that is found

-- a pair without a place has said nothing
pub pair_new : (by : ℕ) (to : Target) (pairs : List Pair) (pair : Pair) → None ≡ position (is_pair by to) pairs → pair ≡ new_pair by to → pair ≡ pair_of pairs by to
unfolding pair_of
pair_new by to pairs pair e is = is ∙ ap (λ o. unwrap_or o (new_pair by to)) (sym (none_there (is_pair by to) pairs (sym e)))

-- what stands at the place of a pair is that pair
pub pair_there : (by : ℕ) (to : Target) (rows pairs : List Pair) (place : ℕ) (pair : Pair) → rows ≡ pairs → Some place ≡ position (is_pair by to) pairs → pair ≡ get_or rows place pair → pair ≡ pair_of pairs by to
unfolding pair_of
pair_there by to rows pairs place pair same e is =
    let there : pair ≡ get_or pairs place pair = is ∙ ap (λ r. get_or r place pair) same in
    there ∙ ap (λ o. unwrap_or o (new_pair by to)) (sym (found_there (is_pair by to) pair pairs place (sym e)))
