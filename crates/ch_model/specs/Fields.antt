-- The fields of a journal's line: how one is cut off, and how each class of plain fields is read. Of a number it is
-- asked at first only that it is digits; its range is asked when every field is of its class.
use Rattle.std.specs.Prelude.{ℕ, Bool, true, false, not, cond, ◌&&◌, ◌||◌, List, [], ◌∷◌, length, Option, Some, None, Result, Ok, Err, nat_lt, nat_le, ◌==◌, if◌then◌else◌, codes}
use Rattle.std.specs.Str.{bytes_eq}
use Rattle.std.specs.List.{list_all}
use Rattle.ch_base.specs.AddressValues.{AddressValue}
use Rattle.ch_base.specs.declared.address.AddressError.{AddressError}
use Rattle.ch_base.specs.Numbers.{are_digits, number_of}
use Rattle.ch_base.specs.Addresses.{read_address, after_front, is_host_of, at_least}
use Rattle.ch_ident.specs.Names.{is_name, is_printable}
use Rattle.hex.specs.declared.error.FromHexError.{FromHexError}
use Rattle.hex.specs.Hex.{decode_of}
use Rattle.ch_model.specs.declared.name.End.{End}
use Rattle.ch_model.specs.declared.name.End.TheVariants.{O, T}
use Rattle.ch_model.specs.declared.refusal.BadKind.{BadKind}
use Rattle.ch_model.specs.declared.refusal.BadKind.TheVariants.{Form, Number}

infixl 10 ◌>>=◌
-- what follows a step, where that isn't refused
abbrev pub ◌>>=◌ : {A B : Type 0} → Result A BadKind → (A → Result B BadKind) → Result B BadKind
(Ok x) >>= f = f x
(Err e) >>= f = Err e

-- this where the test holds, else the refusal
abbrev pub need : {A : Type 0} → BadKind → Bool → A → Result A BadKind
need kind test x = if test then Ok x else Err kind

-- what is found, or the refusal
abbrev pub or_else : {A : Type 0} → BadKind → Option A → Result A BadKind
or_else kind None = Err kind
or_else kind (Some x) = Ok x

-- what stands before the first such byte, and what stands after it
abbrev pub at_byte : ℕ → List ℕ → Option (List ℕ × List ℕ)
at_byte c [] = None
at_byte c (b ∷ bs) = cond (b == c) (Some ([], bs)) (after_front b (at_byte c bs))

-- a field goes up to the next space; where none comes, it is the last
abbrev pub up_to_space : List ℕ → Option (List ℕ × List ℕ) → List ℕ × Option (List ℕ)
up_to_space text None = (text, None)
up_to_space text (Some parts) = (parts.0, Some parts.1)

-- the next field and what follows its space, where a field is due
unfoldable pub field_of : Option (List ℕ) → Result (List ℕ × Option (List ℕ)) BadKind
field_of None = Err Form
field_of (Some text) = Ok (up_to_space text (at_byte 32 text))

-- no field is left
unfoldable pub last_of : Option (List ℕ) → Result Bool BadKind
last_of None = Ok true
last_of (Some text) = Err Form

-- a lower-case letter
abbrev pub is_letter_of : ℕ → Bool
is_letter_of b = nat_le 97 b && nat_le b 122

-- a lower-case letter or a digit
abbrev pub is_name_byte_of : ℕ → Bool
is_name_byte_of b = is_letter_of b || (nat_le 48 b && nat_le b 57)

-- the first byte is a lower-case letter
abbrev pub begins_with_letter : List ℕ → Bool
begins_with_letter [] = false
begins_with_letter (b ∷ bs) = is_letter_of b

-- 1 to 16 lower-case letters and digits, the first a letter
abbrev pub is_node_name_of : List ℕ → Bool
is_node_name_of text = begins_with_letter text && nat_le (length text) 16 && list_all is_name_byte_of text

-- a node's name
unfoldable pub node_name_of : List ℕ → Result (List ℕ) BadKind
node_name_of field = need Form (is_node_name_of field) field

-- digits
unfoldable pub digits_of : List ℕ → Result (List ℕ) BadKind
digits_of field = need Form (are_digits field) field

-- a mark, or a label: a name
unfoldable pub word_of : List ℕ → Result (List ℕ) BadKind
word_of field = need Form (is_name field) field

-- the first byte is `$`
abbrev pub begins_with_dollar : List ℕ → Bool
begins_with_dollar [] = false
begins_with_dollar (b ∷ bs) = b == 36

-- the mark of a message that is sent, which doesn't begin with `$`
unfoldable pub sent_mark_of : List ℕ → Result (List ℕ) BadKind
sent_mark_of field = do
  word ← word_of field
  need Form (not (begins_with_dollar word)) word

-- bytes that were decoded
abbrev pub decoded : Result (List ℕ) FromHexError → Result (List ℕ) BadKind
decoded (Ok bytes) = Ok bytes
decoded (Err e) = Err Form

-- the byte `-` alone
abbrev pub is_dash : List ℕ → Bool
is_dash [] = false
is_dash (b ∷ []) = b == 45
is_dash (b ∷ c ∷ bs) = false

-- bytes: `-` for none, else pairs of hexadecimal digits in either case, at least one pair
unfoldable pub bytes_of : List ℕ → Result (List ℕ) BadKind
bytes_of field = if is_dash field then Ok [] else (if nat_lt 0 (length field) then decoded (decode_of field) else Err Form)

-- an address that was read
abbrev pub read_as : Result AddressValue AddressError → Result AddressValue BadKind
read_as (Ok address) = Ok address
read_as (Err e) = Err Form

-- an address
unfoldable pub address_of : List ℕ → Result AddressValue BadKind
address_of field = read_as (read_address field)

-- a stranger's host: the host of some address, so 1 to 76 bytes that may stand in one
unfoldable pub host_of : List ℕ → Result (List ℕ) BadKind
host_of field = need Form (is_host_of field && nat_le (length field) 76) field

-- an end of a socket: `o` for the opener's, `t` for the target's
unfoldable pub end_of : List ℕ → Result End BadKind
end_of field =
    if bytes_eq field (codes "o") then Ok O
    else if bytes_eq field (codes "t") then Ok T
    else Err Form

-- a text: 1 to 200 bytes that show something or are spaces
abbrev pub is_line_text : List ℕ → Bool
is_line_text text = nat_le 1 (length text) && nat_le (length text) 200 && list_all is_printable text

-- a text, which is the whole rest of its line
unfoldable pub text_of : Option (List ℕ) → Result (List ℕ) BadKind
text_of None = Err Form
text_of (Some rest) = need Form (is_line_text rest) rest

-- the number of digits: without a leading zero, at most 4294967295
unfoldable pub number_in : List ℕ → Result ℕ BadKind
number_in digits = or_else Number (number_of 4294967295 digits)

-- the same, and at least 1
unfoldable pub count_in : List ℕ → Result ℕ BadKind
count_in digits = or_else Number (at_least 1 (number_of 4294967295 digits))
