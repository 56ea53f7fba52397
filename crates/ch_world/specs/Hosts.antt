-- Where a host stands among those of a journal.
use Rattle.std.specs.Prelude.{ℕ, Bool, false, ◌+◌, ◌*◌, List, [], Option, Some, None, slice_get}
use Rattle.ch_base.specs.declared.address.Address.{Address}
use Rattle.ch_model.specs.HostCalls.{host_new, host_timer_runs}
use Rattle.ch_model.specs.WorldState.{Cell, World}
use Rattle.ch_model.specs.WorldHappenings.{with_cell}
use Rattle.ch_world.specs.declared.hosted.HostAt.{HostAt}

-- the place, the host text and the port of a cell
abbrev pub host_at : ℕ → Cell → HostAt
host_at place cell = record { place = place; text = cell.host.host; port = cell.host.port }

-- a cell, as far as its host text and its port tell it
abbrev pub cell_in : HostAt → Cell
cell_in at = record { host = host_new at.text at.port []; nodes = [] }

-- a host accepts one more socket: the number that it gives it, where the host is there
abbrev pub accept_at : ℕ → World → Option ℕ × World
accept_at place world = elim (slice_get world.cells place) [
  | None ↦ (None, world)
  | Some cell ↦ (Some (2 * cell.1 + 1), with_cell place (cell.0, cell.1 + 1) world)
]

-- the timer of an endpoint's link with a peer runs at this cell, where there is one
abbrev pub timer_of : ℕ → Address → Option (Cell × ℕ) → Bool
timer_of end peer found = elim found [
  | None ↦ false
  | Some cell ↦ host_timer_runs cell.0.host end peer
]
