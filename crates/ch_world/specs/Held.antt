-- What is read of a socket before something happens to it, and the socket as far as that tells it.
use Rattle.std.specs.Prelude.{ℕ, Bool, List, [], Option, Some, None, if◌then◌else◌}
use Rattle.ch_model.specs.declared.name.End.{End}
use Rattle.ch_model.specs.Stages.{Pending, Open}
use Rattle.ch_model.specs.WorldState.{WorldEnd, WorldSocket}
use Rattle.ch_model.specs.WorldSockets.{end_of, end_of_nobody}
use Rattle.ch_world.specs.declared.held.Held.{Held}
use Rattle.ch_world.specs.declared.held.Coming.{Coming}

-- what is read of the socket that was found, where it stands as the test asks
abbrev pub read_where : {A : Type 0} → (WorldSocket → Bool) → (WorldSocket → A) → Option WorldSocket → Option A
read_where test f None = None
read_where test f (Some socket) = if test socket then Some (f socket) else None

-- the name of a socket, and whose one of its ends is
abbrev pub held_of : End → WorldSocket → Held
held_of which socket = record { sock = socket.name; cell = (end_of which socket).cell; number = (end_of which socket).number }

-- that end, as far as it is told
abbrev pub end_in : Held → WorldEnd
end_in held = end_of_nobody held.cell held.number Open

-- that socket, as far as it is told
abbrev pub socket_in : Held → WorldSocket
socket_in held = record { name = held.sock; from_host = []; o = end_in held; t = end_in held }

-- what a host is told of a socket that has come
abbrev pub coming_of : WorldSocket → Coming
coming_of socket = record { sock = socket.name; from_host = socket.from_host; cell = socket.t.cell; opener_cell = socket.o.cell; opener_number = socket.o.number }

-- that socket, as far as it is told
abbrev pub socket_coming : Coming → WorldSocket
socket_coming coming = record { name = coming.sock; from_host = coming.from_host; o = end_of_nobody coming.opener_cell coming.opener_number Open; t = end_of_nobody coming.cell None Pending }
