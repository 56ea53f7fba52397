-- A number's place among rising ones.
use Rattle.std.proofs.Common.{◌≡◌, ℕ, suc, ◌+◌, Bool, true, false, cond, List, [], ◌∷◌, ◌++◌, length, not, Option, Some, None, refl, ap, ◌∙◌, arith}
use Rattle.std.proofs.lemmas.Bool.Decides.{nat_tests}
use Rattle.std.specs.Prelude.{nat_lt, nat_le}
use Rattle.std.specs.List.{position, position_or_len, insert}
use Rattle.ch_model.specs.NodePairs.{in_place}

one : (n : ℕ) → 1 + n ≡ suc n
one n = omega arith

first : (len : ℕ) → nat_lt 0 (suc len) ≡ true
first len = grind (arith, nat_tests)

shifted : (k len : ℕ) → nat_lt (1 + k) (suc len) ≡ nat_lt k len
shifted k len = both (nat_lt (1 + k) (suc len)) (nat_lt k len) refl refl
  where
    both : (x y : Bool) → nat_lt (1 + k) (suc len) ≡ x → nat_lt k len ≡ y → x ≡ y
    both true true p q = refl
    both true false p q = grind (arith, nat_tests)
    both false true p q = grind (arith, nat_tests)
    both false false p q = refl

-- where a number goes, by its place
abbrev pub put_at : ℕ → List ℕ → Option ℕ → List ℕ
put_at n numbers None = numbers ++ n ∷ []
put_at n numbers (Some place) = insert numbers place n

-- a number is put into its place, or after the others
pub placed : (n : ℕ) (numbers : List ℕ) → put_at n numbers (position (λ m. nat_le n m) numbers) ≡ in_place n numbers
placed n [] = refl
placed n (m ∷ rest) = at_front (nat_le n m) (position_or_len (λ m. nat_le n m) rest) (length rest) (placed n rest)
  where
    past : (c : Bool) (k : ℕ) → put_at n rest (cond c (Some k) None) ≡ in_place n rest → put_at n (m ∷ rest) (cond c (Some (1 + k)) None) ≡ m ∷ in_place n rest
    past true k h = ap (λ i. insert (m ∷ rest) i n) (one k) ∙ ap (λ l. m ∷ l) h
    past false k h = ap (λ l. m ∷ l) h

    at_front : (b : Bool) (k len : ℕ) → put_at n rest (cond (nat_lt k len) (Some k) None) ≡ in_place n rest → put_at n (m ∷ rest) (cond (nat_lt (cond (not b) (1 + k) 0) (suc len)) (Some (cond (not b) (1 + k) 0)) None) ≡ cond b (n ∷ m ∷ rest) (m ∷ in_place n rest)
    at_front true k len h = ap (λ c. put_at n (m ∷ rest) (cond c (Some 0) None)) (first len)
    at_front false k len h = ap (λ c. put_at n (m ∷ rest) (cond c (Some (1 + k)) None)) (shifted k len) ∙ past (nat_lt k len) k h

-- the greatest stands last
pub added : (n : ℕ) (numbers : List ℕ) → None ≡ position (λ m. nat_le n m) numbers → numbers ++ n ∷ [] ≡ in_place n numbers
added n numbers h = ap (put_at n numbers) h ∙ placed n numbers

-- any other stands in its place
pub inserted : (n : ℕ) (numbers : List ℕ) (place : ℕ) → Some place ≡ position (λ m. nat_le n m) numbers → insert numbers place n ≡ in_place n numbers
inserted n numbers place h = ap (put_at n numbers) h ∙ placed n numbers
