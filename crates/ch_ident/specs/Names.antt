-- What may stand in a name and in a text.
use Rattle.std.specs.Prelude.{ℕ, List, Bool, length, nat_le, ◌&&◌}
use Rattle.std.specs.List.{list_all}

-- a byte that shows something: from 0x21 to 0x7e
abbrev pub is_graphic : ℕ → Bool
is_graphic b = nat_le 33 b && nat_le b 126

-- 1 to 63 bytes that show something
abbrev pub is_name : List ℕ → Bool
is_name bytes = nat_le 1 (length bytes) && nat_le (length bytes) 63 && list_all is_graphic bytes

-- a byte that shows something, or a space
abbrev pub is_printable : ℕ → Bool
is_printable b = nat_le 32 b && nat_le b 126

-- at most 255 bytes that show something or are spaces
abbrev pub is_text : List ℕ → Bool
is_text bytes = nat_le (length bytes) 255 && list_all is_printable bytes
