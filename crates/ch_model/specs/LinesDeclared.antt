-- The lines that declare: each asks for the classes of its fields, its numbers, that no event came before, the names
-- that it uses, and that what it declares is new.
use Rattle.std.specs.Prelude.{ℕ, List, Option, Result, Ok}
use Rattle.ch_base.specs.AddressValues.{AddressValue}
use Rattle.ch_model.specs.declared.refusal.BadKind.{BadKind}
use Rattle.ch_model.specs.declared.line.What.{What}
use Rattle.ch_model.specs.declared.line.What.TheVariants as lines
use Rattle.ch_model.specs.Fields.{◌>>=◌, field_of, last_of, node_name_of, digits_of, word_of, address_of, host_of, number_in}
use Rattle.ch_model.specs.LinesTold.{Told, early_in, declared_in, new_name, new_address, new_host, new_label}

-- a new name, a new address and a unique number
unfoldable pub place_line : Told → Option (List ℕ) → Result (List ℕ × AddressValue × ℕ) BadKind
place_line told rest = do
  name ← field_of rest
  address ← field_of name.1
  unique ← field_of address.1
  last ← last_of unique.1
  named ← node_name_of name.0
  at ← address_of address.0
  digits ← digits_of unique.0
  number ← number_in digits
  early ← early_in told
  own ← new_name told named
  place ← new_address told at
  Ok (own, place, number)

-- `node N address num`
unfoldable pub node_line : Told → Option (List ℕ) → Result What BadKind
node_line told rest = do
  place ← place_line told rest
  Ok (lines.Node place.0 place.1 place.2)

-- `away N address num`
unfoldable pub away_line : Told → Option (List ℕ) → Result What BadKind
away_line told rest = do
  place ← place_line told rest
  Ok (lines.Away place.0 place.1 place.2)

-- `label N word`
unfoldable pub label_line : Told → Option (List ℕ) → Result What BadKind
label_line told rest = do
  name ← field_of rest
  label ← field_of name.1
  last ← last_of label.1
  named ← node_name_of name.0
  word ← word_of label.0
  early ← early_in told
  node ← declared_in told named
  own ← new_label told node word
  Ok (lines.Label node own)

-- `stranger N host`
unfoldable pub stranger_line : Told → Option (List ℕ) → Result What BadKind
stranger_line told rest = do
  name ← field_of rest
  host ← field_of name.1
  last ← last_of host.1
  named ← node_name_of name.0
  text ← host_of host.0
  early ← early_in told
  own ← new_name told named
  place ← new_host told text
  Ok (lines.Stranger own place)
