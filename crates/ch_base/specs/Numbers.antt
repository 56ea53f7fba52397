-- Decimal numbers as texts spell them: digits, without a sign and without a leading zero.
use Rattle.std.specs.Prelude.{ℕ, Bool, true, false, not, ◌&&◌, List, [], ◌∷◌, length, Option, Some, None, nat_lt, nat_le, ◌==◌, if◌then◌else◌}
use Rattle.std.specs.List.{list_all}
use Rattle.std.specs.Str.Parse.{digits_value}

-- one of the bytes `0` to `9`
abbrev pub is_digit_of : ℕ → Bool
is_digit_of b = nat_le 48 b && nat_le b 57

-- at least one byte, and digits alone
abbrev pub are_digits : List ℕ → Bool
are_digits bytes = nat_lt 0 (length bytes) && list_all is_digit_of bytes

-- digits of which the first isn't 0, or the digit 0 alone
abbrev pub has_no_leading_zero : List ℕ → Bool
has_no_leading_zero [] = false
has_no_leading_zero (b ∷ []) = true
has_no_leading_zero (b ∷ c ∷ bs) = not (b == 48)

-- the number that these bytes spell, where it is at most this
abbrev pub number_of : ℕ → List ℕ → Option ℕ
number_of most bytes =
    if are_digits bytes && has_no_leading_zero bytes && nat_le (digits_value 10 bytes) most
    then Some (digits_value 10 bytes) else None
