-- How an end of a socket stands.
use Rattle.std.specs.Prelude.{Bool, true, false}

-- an end is dialed and not open yet; or open; or ended
pub data Stage : Type 0 where
  Pending : Stage
  Open : Stage
  Ended : Stage

abbrev pub is_pending : Stage → Bool
is_pending Pending = true
is_pending stage = false

abbrev pub is_open : Stage → Bool
is_open Open = true
is_open stage = false

abbrev pub is_ended : Stage → Bool
is_ended Ended = true
is_ended stage = false
