-- Nodes and their hosts agree, in each cell of a world.
use Rattle.std.specs.Prelude.{◌≡◌, ℕ, slice_get, Some}
use Rattle.ch_model.specs.WorldState.{Cell}
use Rattle.ch_laws_calls.specs.Calls.{Claim}
use Rattle.ch_laws_connections.specs.Arrivals.{CellMeets}
use Rattle.ch_laws_connections.specs.Fits.{CellHolds}

-- each cell's nodes and host agree on the connections that are open, and on those that have arrived
abbrev pub AllMeet : Claim
AllMeet log world = (place : ℕ) (cell : Cell × ℕ) → slice_get world.cells place ≡ Some cell → CellHolds cell.0 × CellMeets cell.0
