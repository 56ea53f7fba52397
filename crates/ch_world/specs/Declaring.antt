-- The hosts that a journal declares, as they are made of its nodes.
use Rattle.std.specs.Prelude.{ℕ, List, [], ◌∷◌, ◌++◌, map, filter, if◌then◌else◌}
use Rattle.std.specs.List.{list_any}
use Rattle.ch_base.specs.declared.address.Address.{Address}
use Rattle.ch_model.specs.declared.line.Line.{Line}
use Rattle.ch_model.specs.WorldState.{Cell, Named}
use Rattle.ch_model.specs.Cell.{cell_new}
use Rattle.ch_model.specs.World.{labels_of, same_host}

-- an address comes after the others, where none of them is at its host and port
abbrev pub first_added : List Address → Address → List Address
first_added found address = if list_any (same_host address) found then found else found ++ address ∷ []

-- a node as its host takes it: the number of its endpoint, its unique number, and its labels
abbrev pub opening_of : List Line → Named → ℕ × ℕ × List (List ℕ)
opening_of journal node = (node.address.id, node.unique, labels_of journal node.name)

-- those of these nodes that are at the host and port of an address
abbrev pub openings_at : List Line → List Named → Address → List (ℕ × ℕ × List (List ℕ))
openings_at journal nodes address = map (opening_of journal) (filter (λ node. same_host node.address address) nodes)

-- the cell of these nodes at the host and port of an address, which takes peers of these host texts
abbrev pub cell_among : List Line → List (List ℕ) → List Named → Address → Cell
cell_among journal circle nodes address = cell_new address.host address.port circle (openings_at journal nodes address)

-- a cell at each of these addresses, that has accepted nothing
abbrev pub cells_among : List Line → List (List ℕ) → List Named → List Address → List (Cell × ℕ)
cells_among journal circle nodes addresses = map (λ address. (cell_among journal circle nodes address, 0)) addresses
