-- What a host's sockets bring, and how it handles what was read, item by item.
use Rattle.std.specs.Prelude.{ℕ, Bool, true, false, ◌&&◌, List, [], ◌∷◌, ◌++◌, drop, find, Option, Some, None, Result, Ok, Err, nat_lt, if◌then◌else◌}
use Rattle.ch_base.specs.declared.memory.Stop.{Stop}
use Rattle.ch_wire.specs.Spelling.{request_spelling}
use Rattle.ch_reader.specs.Reading.{reading}
use Rattle.ch_reader.specs.declared.item.Expected.TheVariants as expected
use Rattle.ch_reader.specs.declared.item.Item.{Item}
use Rattle.ch_reader.specs.declared.item.Front.{Front}
use Rattle.ch_reader.specs.declared.item.Front.TheVariants.{Unfinished, Whole, Refused}
use Rattle.ch_link.specs.declared.LinkIn.TheVariants.{Late}
use Rattle.ch_model.specs.declared.step.SocketEvent.{SocketEvent}
use Rattle.ch_model.specs.declared.step.SocketEvent.TheVariants as events
use Rattle.ch_model.specs.declared.step.Step.{Step}
use Rattle.ch_model.specs.declared.step.Step.TheVariants as steps
use Rattle.ch_model.specs.Stages.{Stage, Open, is_pending, is_open}
use Rattle.ch_model.specs.HostState.{Socket, HostState}
use Rattle.ch_model.specs.HostSteps.{Stepped, still, does, ◌then◌, is_socket, own_address, link_with, with_socket}
use Rattle.ch_model.specs.HostWrites.{writes}
use Rattle.ch_model.specs.HostLinks.{hears}
use Rattle.ch_model.specs.HostItems.{is_gone, reads}
use Rattle.ch_model.specs.HostCalls.{host_timer_runs}

-- ---- events

-- the socket of this number, where its end stands as the test asks; else nothing is done
abbrev pub on_socket : (Stage → Bool) → ℕ → (Socket → HostState → Stepped) → HostState → Stepped
on_socket test sock f host = elim (find (is_socket sock) host.sockets) [
  | None ↦ still host
  | Some socket ↦ (if test socket.stage then f socket host else still host)
]

-- the opener's end is open, and its request is written
abbrev pub joins : Socket → HostState → Stepped
joins socket host = elim socket.user [
  | None ↦ still host
  | Some user ↦ writes socket.number (request_spelling (record { target = user.1.id; from = own_address host user.0 })) (with_socket (record socket { stage = Open }) host)
]

-- a socket that was accepted
abbrev pub accepted : ℕ → List ℕ → Socket
accepted sock peer_host = record { number = sock; peer_host = Some peer_host; stage = Open; user = None; expected = expected.Request; since = [] }

-- bytes that arrive are kept until they are read
abbrev pub keeps : List ℕ → Socket → HostState → Stepped
keeps bytes socket host = still (with_socket (record socket { since = socket.since ++ bytes }) host)

-- what happens to a socket or a timer
unfoldable pub host_on : HostState → SocketEvent → Stepped
host_on host (events.Joined sock) = on_socket is_pending sock joins host
host_on host (events.Came sock peer_host) = still (with_socket (accepted sock peer_host) host)
host_on host (events.Refused sock) = on_socket is_pending sock is_gone host
host_on host (events.Fed sock bytes) = on_socket is_open sock (keeps bytes) host
host_on host (events.Ended sock) = on_socket is_open sock is_gone host
host_on host (events.Lost sock) = on_socket is_open sock is_gone host
host_on host (events.Late end peer) = if host_timer_runs host end peer then hears Late (link_with host end peer) host else still host

-- ---- items

-- what stands at the front of the bytes that are read on a socket, and how many of them are of it
abbrev pub front_of : Socket → Front × ℕ
front_of socket = reading socket.expected socket.since

-- something to handle stands at this front: an item or a refusal
abbrev pub is_ready_front : Front → Bool
is_ready_front Unfinished = false
is_ready_front front = true

abbrev pub is_ready : Socket → Bool
is_ready socket = is_open socket.stage && is_ready_front (front_of socket).0

-- of a socket and perhaps another, the one with the lower number
abbrev pub lower : Socket → Option Socket → Socket
lower socket None = socket
lower socket (Some other) = if nat_lt other.number socket.number then other else socket

-- the socket with the lowest number that has an item or a refusal to handle
abbrev pub first_ready : List Socket → Option Socket
first_ready [] = None
first_ready (socket ∷ rest) = if is_ready socket then Some (lower socket (first_ready rest)) else first_ready rest

-- an item was taken from a socket's bytes: that is told, and the item is read
abbrev pub takes : Socket → Item → HostState → Stepped
takes socket item host = does (steps.Read socket.number) (with_socket socket host) then reads socket item

-- what stands at the front of a socket's bytes is handled, with all that follows at this host
abbrev pub handles : Socket → Front × ℕ → HostState → Stepped
handles socket front host = elim front.0 [
  | Unfinished ↦ still host
  | Refused error ↦ is_gone socket host
  | Whole item ↦ takes (record socket { since = drop front.1 socket.since; expected = expected.Frame }) item host
]

abbrev pub some_steps : Stepped → Result (Option (List Step) × HostState) Stop
some_steps (Ok done) = Ok (Some done.0, done.1)
some_steps (Err stop) = Err stop

-- One item is handled, of the socket with the lowest number that has one; none where no bytes that were fed hold a whole one.
unfoldable pub host_next : HostState → Result (Option (List Step) × HostState) Stop
host_next host = elim (first_ready host.sockets) [
  | None ↦ Ok (None, host)
  | Some socket ↦ some_steps (handles socket (front_of socket) host)
]
