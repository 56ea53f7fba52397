-- Frames as they come to a table of connections: which ids are open after them, where each is fit.
use Rattle.std.specs.Prelude.{◌≡◌, ℕ, ◌+◌, ◌-◌, Bool, true, false, not, ◌&&◌, ◌==◌, nat_lt, nat_le, List, [], ◌∷◌, ◌++◌, length, map, slice_get, slice_set, Option, Some, None, if◌then◌else◌}
use Rattle.ch_light.specs.declared.TheConstants.{FIRST_ID, MOST_IDS}
use Rattle.ch_light.specs.declared.Connection.{Connection}
use Rattle.ch_wire.specs.declared.frame.Frame.{Frame}
use Rattle.ch_wire.specs.declared.frame.Frame.TheVariants as frames

-- which of the ids that were given are open, from the first on
abbrev pub Table : Type 0
Table = List Bool

abbrev pub table_of : List Connection → Table
table_of connections = map (λ (c : Connection). c.is_open) connections

abbrev pub is_open_at : Option Bool → Bool
is_open_at None = false
is_open_at (Some is_open) = is_open

-- the id is open in the table
abbrev pub has_open : Table → ℕ → Bool
has_open table id = not (nat_lt id FIRST_ID) && is_open_at (slice_get table (id - FIRST_ID))

-- the table after a frame, where its id is fit: a connection that is created has the next id, and there is one left; what is closed or sent on is open
abbrev pub frame_on : Frame → Table → Option Table
frame_on (frames.Created id) table = if not (nat_le MOST_IDS (length table)) && (id == FIRST_ID + length table) then Some (table ++ true ∷ []) else None
frame_on (frames.Closed id) table = if has_open table id then Some (slice_set table (id - FIRST_ID) false) else None
frame_on (frames.Data id payload) table = if has_open table id then Some table else None
frame_on frame table = Some table

-- all frames, one after another
abbrev pub frames_on : List Frame → Table → Option Table
frames_on [] table = Some table
frames_on (frame ∷ rest) table = elim (frame_on frame table) [
  | None ↦ None
  | Some next ↦ frames_on rest next
]
