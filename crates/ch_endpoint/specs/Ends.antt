-- An end of a socket that is closed.
use Rattle.std.specs.Prelude.{ℕ, List, [], ◌++◌, find, Option, Some, None}
use Rattle.ch_model.specs.Stages.{Open, Ended}
use Rattle.ch_model.specs.HostState.{Socket}
use Rattle.ch_model.specs.HostSteps.{is_socket, store_socket}

-- the end is ended, and what was read of it is dropped
abbrev pub ended : Socket → Socket
ended socket = record socket { stage = Ended; since = [] }

abbrev pub ended_one : Option Socket → List Socket → List Socket
ended_one None sockets = sockets
ended_one (Some socket) sockets = store_socket (ended socket) sockets

-- the end of this number is ended among these
abbrev pub ended_among : ℕ → List Socket → List Socket
ended_among number sockets = ended_one (find (is_socket number) sockets) sockets

-- the end of this number is open among these
abbrev pub opened_one : Option Socket → List Socket → List Socket
opened_one None sockets = sockets
opened_one (Some socket) sockets = store_socket (record socket { stage = Open }) sockets

abbrev pub opened_among : ℕ → List Socket → List Socket
opened_among number sockets = opened_one (find (is_socket number) sockets) sockets

-- bytes are kept at the end of this number among these
abbrev pub fed_one : List ℕ → Option Socket → List Socket → List Socket
fed_one bytes None sockets = sockets
fed_one bytes (Some socket) sockets = store_socket (record socket { since = socket.since ++ bytes }) sockets

abbrev pub fed_among : List ℕ → ℕ → List Socket → List Socket
fed_among bytes number sockets = fed_one bytes (find (is_socket number) sockets) sockets
