-- The value of digits, and that a number's text is read as that number and no other text is.
use Rattle.std.proofs.Common.{◌≡◌, ℕ, ◌+◌, ◌*◌, ◌<◌, ◌≤◌, ◌^◌, Bool, true, false, cond, ◌&&◌, List, [], ◌∷◌, length, get_or, Some, None, nat_lt, nat_le, ◌==◌, refl, subst, arith, rules}
use Rattle.std.specs.Fmt.{decimal}
use Rattle.std.specs.List.{list_all}
use Rattle.std.specs.Str.Parse.{digits_value_after, digits_value}
use Rattle.std.specs.Char.{digit_value}
use Rattle.std.proofs.lemmas.Str.Parse.{IsNumeralModel, numerals_by_value}
use Rattle.std.proofs.lemmas.Fmt.{digits_decimal, digits_value-decimal, decimal-digits_value, first_decimal, decimal_nonempty, decimal_digit}
use Rattle.std.proofs.lemmas.Bool.{lt-ltb}
use Rattle.std.proofs.lemmas.Bool.Decides.{nat_tests}
use Rattle.ch_base.specs.Numbers.{is_digit_of, are_digits, has_no_leading_zero, number_of}

-- more digits make no smaller number
pub value_grows : (n : ℕ) (bytes : List ℕ) → n ≤ digits_value_after 10 n bytes
value_grows n [] = omega arith
value_grows n (b ∷ bs) = let h : n * 10 + digit_value b ≤ digits_value_after 10 (n * 10 + digit_value b) bs = value_grows (n * 10 + digit_value b) bs in omega arith

-- a value that passes the bound already is refused
pub value_passes : (most n : ℕ) (bytes all : List ℕ) → digits_value_after 10 n bytes ≡ digits_value 10 all → most < n → None ≡ cond (nat_le (digits_value 10 all) most) (Some (digits_value 10 all)) None
value_passes most n bytes all e h =
    let g : n ≤ digits_value_after 10 n bytes = value_grows n bytes in
    let f : nat_le (digits_value 10 all) most ≡ false = grind (arith, nat_tests) in
    rw f refl

-- digits and their value are those of std
pub own : IsNumeralModel (λ ds. list_all is_digit_of ds ≡ true) (digits_value 10)
own = numerals_by_value _ (search rules)

-- both parts of a test that holds
pub both : (a b : Bool) → (a && b) ≡ true → (a ≡ true) × (b ≡ true)
both true b e = (refl, e)
both false b e = cc

chosen : (t : Bool) (x n : ℕ) → cond t (Some x) None ≡ Some n → (t ≡ true) × (x ≡ n)
chosen true x n e = (refl, cc)
chosen false x n e = cc

leads : (bytes : List ℕ) → has_no_leading_zero bytes ≡ true → get_or bytes 0 0 ≡ 48 → length bytes ≡ 1
leads [] h e = cc
leads (b ∷ []) h e = refl
leads (b ∷ c ∷ bs) h e = absurd (grind (arith, nat_tests))

-- what is read is that number's text
pub number_found : (most n : ℕ) (bytes : List ℕ) → most < 2 ^ 64 → number_of most bytes ≡ Some n → (decimal n ≡ bytes) × (n ≤ most)
number_found most n bytes big e =
    let c = chosen (are_digits bytes && has_no_leading_zero bytes && nat_le (digits_value 10 bytes) most) (digits_value 10 bytes) n e in
    let d = both (are_digits bytes && has_no_leading_zero bytes) (nat_le (digits_value 10 bytes) most) c.0 in
    let f = both (are_digits bytes) (has_no_leading_zero bytes) d.0 in
    let g = both (nat_lt 0 (length bytes)) (list_all is_digit_of bytes) f.0 in
    let small : digits_value 10 bytes ≤ most = let h = d.1 in grind (arith, nat_tests) in
    let some : 0 < length bytes = let h = g.0 in grind (arith, nat_tests) in
    (subst (λ (m : ℕ). decimal m ≡ bytes) c.1 (decimal-digits_value own bytes g.1 some (leads bytes f.1) (omega arith)), omega (arith, c.1))

front : (bytes : List ℕ) → 0 < length bytes → (get_or bytes 0 0 ≡ 48 → length bytes ≡ 1) → has_no_leading_zero bytes ≡ true
front [] h f = absurd (omega arith)
front (b ∷ []) h f = refl
front (b ∷ c ∷ bs) h f = grind (arith, nat_tests)

zero_alone : (n : ℕ) → n < 2 ^ 64 → get_or (decimal n) 0 0 ≡ 48 → length (decimal n) ≡ 1
zero_alone n h e = elim (n == 0) as (λ t. (n == 0) ≡ t → length (decimal n) ≡ 1) [
  | true ↦ (λ t. let z : n ≡ 0 = grind (arith, nat_tests) in rw (z, decimal_digit 0 (omega arith)) refl)
  | false ↦ (λ t. let p : 0 < n = grind (arith, nat_tests) in let q : 48 < get_or (decimal n) 0 0 = first_decimal n p h in absurd (omega arith))
] refl

-- a number's text is read as that number
pub number_again : (most n : ℕ) → n ≤ most → most < 2 ^ 64 → number_of most (decimal n) ≡ Some n
number_again most n h big =
    let small : n < 2 ^ 64 = omega arith in
    let v : digits_value 10 (decimal n) ≡ n = digits_value-decimal own n small in
    let d : list_all is_digit_of (decimal n) ≡ true = digits_decimal own n small in
    let s : nat_lt 0 (length (decimal n)) ≡ true = lt-ltb 0 (length (decimal n)) (decimal_nonempty n small) in
    let f : has_no_leading_zero (decimal n) ≡ true = front (decimal n) (decimal_nonempty n small) (zero_alone n small) in
    let l : nat_le n most ≡ true = grind (arith, nat_tests) in
    rw (v, d, s, f, l) refl
