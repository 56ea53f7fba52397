-- Which of two addresses is the greater, by the byte order of their texts.
use Rattle.std.specs.Prelude.{Bool}
use Rattle.std.specs.Cmp.Lexicographic.{slice_cmp}
use Rattle.std.specs.Ordering.{nat_cmp, is_gt}
use Rattle.ch_base.specs.declared.address.Address.{Address}
use Rattle.ch_base.specs.Addresses.{address_text}

-- the first address is the greater
abbrev pub is_greater : Address → Address → Bool
is_greater a b = is_gt (slice_cmp nat_cmp (address_text a) (address_text b))
