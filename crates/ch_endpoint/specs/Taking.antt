-- What is taken from the bytes of a socket, and for whom a socket stands.
use Rattle.std.specs.Prelude.{ℕ, Bool, false, List, [], ◌∷◌, drop, find, Option, Some, None}
use Rattle.std.specs.Str.{bytes_eq}
use Rattle.ch_base.specs.declared.address.Address.{Address}
use Rattle.ch_reader.specs.declared.item.Expected.TheVariants as expected
use Rattle.ch_reader.specs.declared.item.Front.{Front}
use Rattle.ch_reader.specs.declared.item.Front.TheVariants.{Unfinished, Whole, Refused}
use Rattle.ch_model.specs.declared.step.Step.TheVariants as steps
use Rattle.ch_model.specs.HostState.{Socket, HostState}
use Rattle.ch_model.specs.HostSteps.{is_socket, store_socket, Stepped, still, after_steps}
use Rattle.ch_model.specs.HostItems.{is_gone, reads}
use Rattle.ch_model.specs.Host.{front_of}

-- what stands at the front of a socket, and how many of its bytes are of it
abbrev pub front_at : Option Socket → Front × ℕ
front_at None = (Unfinished, 0)
front_at (Some socket) = front_of socket

-- the socket once the item at its front is taken, where one stands there
abbrev pub passed : Front → ℕ → Socket → Socket
passed (Whole item) count socket = record socket { since = drop count socket.since; expected = expected.Frame }
passed front count socket = socket

abbrev pub taken_one : Option Socket → List Socket → List Socket
taken_one None sockets = sockets
taken_one (Some socket) sockets = store_socket (passed (front_of socket).0 (front_of socket).1 socket) sockets

-- the item at the front of the socket of this number is taken among these
abbrev pub taken_among : ℕ → List Socket → List Socket
taken_among number sockets = taken_one (find (is_socket number) sockets) sockets

-- a socket stands for this link from now on
abbrev pub used_one : ℕ → Address → Option Socket → List Socket → List Socket
used_one end peer None sockets = sockets
used_one end peer (Some socket) sockets = store_socket (record socket { user = Some (end, peer) }) sockets

abbrev pub used_among : ℕ → Address → ℕ → List Socket → List Socket
used_among end peer number sockets = used_one end peer (find (is_socket number) sockets) sockets

-- the host text of the peer that a socket was accepted from
abbrev pub peer_host_of : Option Socket → Option (List ℕ)
peer_host_of None = None
peer_host_of (Some socket) = socket.peer_host

-- a socket was accepted from a peer of this host text
abbrev pub comes_from : Option (List ℕ) → List ℕ → Bool
comes_from None host = false
comes_from (Some peer_host) host = bytes_eq host peer_host

-- what was taken from the front of a socket is handled; the socket is what it is then
abbrev pub handled : Front → Socket → HostState → Stepped
handled Unfinished socket host = still host
handled (Refused error) socket host = is_gone socket host
handled (Whole item) socket host = after_steps (steps.Read socket.number ∷ []) (reads socket item host)
