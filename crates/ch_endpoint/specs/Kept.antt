-- What a host's value is to its callers.
use Rattle.std.specs.Prelude.{Bool}
use Rattle.ch_model.specs.HostState.{HostState}

-- the host, and whether it has run out of memory, after which it answers nothing else
pub record Kept : Type 0 where
  pub failed : Bool
  pub state : HostState
