-- The rolls of the nodes of a cell, and what is told there.
use Rattle.std.specs.Prelude.{◌≡◌, ℕ, ◌==◌, List, [], ◌∷◌, Option, Some, None, if◌then◌else◌}
use Rattle.ch_model.specs.declared.local.LocalEntry.{LocalEntry}
use Rattle.ch_model.specs.declared.local.LocalEntry.TheVariants as local
use Rattle.ch_model.specs.NodeState.{NodeState}
use Rattle.ch_model.specs.WorldState.{Cell}
use Rattle.ch_laws_lives.specs.Cells.{AllReached}
use Rattle.ch_laws_lives.specs.Rolls.{Permits}
use Rattle.ch_laws_acting.specs.Rolls.{Roll, roll_of, roll_after}

-- the roll of each node, under the number of its endpoint
abbrev pub rolls_of : List (ℕ × NodeState) → List (ℕ × Roll)
rolls_of [] = []
rolls_of (node ∷ rest) = (node.0, roll_of node.1) ∷ rolls_of rest

-- the roll of the node at an endpoint
abbrev pub roll_at : ℕ → List (ℕ × Roll) → Option Roll
roll_at end [] = None
roll_at end (known ∷ rest) = if known.0 == end then Some known.1 else roll_at end rest

-- the roll in place of the one at an endpoint
abbrev pub store_roll : ℕ → Roll → List (ℕ × Roll) → List (ℕ × Roll)
store_roll end roll [] = []
store_roll end roll (known ∷ rest) = if known.0 == end then (end, roll) ∷ rest else known ∷ store_roll end roll rest

-- Each note is of the node at some endpoint, whose roll permits it where it stands and is moved by it; no other roll is.
abbrev pub AllToldBy : List (ℕ × Roll) → List LocalEntry → List (ℕ × Roll) → Type 0
AllToldBy before [] after = after ≡ before
AllToldBy before (local.Step step ∷ rest) after = AllToldBy before rest after
AllToldBy before (local.Note note ∷ rest) after = (end : ℕ) × (roll : Roll) × (roll_at end before ≡ Some roll) × Permits roll.lives note × AllToldBy (store_roll end (roll_after note roll) before) rest after

-- what was told at a cell is what its rolls permit, in order, and what arrived at its nodes still goes to them
pub record CellRestsOn (before : Cell) (done : List LocalEntry) (after : Cell) : Type 0 where
  pub tells : AllToldBy (rolls_of before.nodes) done (rolls_of after.nodes)
  pub reached : AllReached after.nodes
