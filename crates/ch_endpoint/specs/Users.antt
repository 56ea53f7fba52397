-- For whom a socket stands, and how its end stands, where it has appeared.
use Rattle.std.specs.Prelude.{ℕ, Bool, false, Option, Some, None}
use Rattle.ch_base.specs.declared.address.Address.{Address}
use Rattle.ch_model.specs.Stages.{Stage}
use Rattle.ch_model.specs.HostState.{Socket}

-- the endpoint and the peer for whom a socket stands
abbrev pub user_of : Option Socket → Option (ℕ × Address)
user_of None = None
user_of (Some socket) = socket.user

-- the socket has appeared, and its end stands as the test asks
abbrev pub stands : (Stage → Bool) → Option Socket → Bool
stands test None = false
stands test (Some socket) = test socket.stage
