-- A world of plain nodes: between them only processes send to processes.
use Rattle.std.specs.Prelude.{◌≡◌, ◌≤◌, ℕ, Bool, true, false, ◌&&◌, ◌++◌, List, [], find, slice_get, Option, Some, None}
use Rattle.ch_base.specs.declared.address.Address.{Address}
use Rattle.ch_reader.specs.Items.{spellings, MayFollow}
use Rattle.ch_reader.specs.declared.item.Item.{Item}
use Rattle.ch_light.specs.Ids.{id_of}
use Rattle.ch_light.specs.declared.Connection.{Connection}
use Rattle.ch_watch.specs.Same.{same_node}
use Rattle.ch_model.specs.declared.line.Line.{Line}
use Rattle.ch_model.specs.declared.name.End.{End}
use Rattle.ch_model.specs.declared.name.SockName.{SockName}
use Rattle.ch_model.specs.CellSteps.{is_at}
use Rattle.ch_model.specs.HostState.{Socket}
use Rattle.ch_model.specs.HostSteps.{link_with, is_socket}
use Rattle.ch_model.specs.NodeState.{NodeState, Bound, Unread, Arrived}
use Rattle.ch_model.specs.WorldSockets.{end_of, is_socket_named}
use Rattle.ch_model.specs.WorldState.{Cell, WorldSocket, World}
use Rattle.ch_laws_bytes.specs.Streams.{Reader, reader_of, is_over}
use Rattle.ch_laws_connections.specs.Senders.{once, total}
use Rattle.ch_laws_calls.specs.FitsFit.{frames_in, MayAskWell}
use Rattle.ch_laws_plain_nodes.specs.Plain.{IsPlain}
use Rattle.ch_laws_plain.specs.Streams.{PlainOn}
use Rattle.ch_laws_plain.specs.Talks.{HostIsPlain}

-- ---- connections whose opening isn't read yet

abbrev pub is_unread : Bound → Bool
is_unread Unread = true
is_unread bound = false

-- it came from that peer, and its opening isn't read yet
abbrev pub is_unread_of : Address → Arrived → Bool
is_unread_of peer arrived = is_unread arrived.bound && same_node arrived.peer peer

-- how many there are
abbrev pub unread_from : Address → List Arrived → ℕ
unread_from peer arrived = total (λ (one : Arrived). once (is_unread_of peer one)) arrived

abbrev pub arrived_in : Option (ℕ × NodeState) → List Arrived
arrived_in None = []
arrived_in (Some there) = there.1.arrived

abbrev pub id_for : List Connection → Option Arrived → Option ℕ
id_for created None = None
id_for created (Some arrived) = id_of created arrived.conn

-- the id of the connection of an endpoint with a peer whose opening isn't read yet, where there is one
abbrev pub pending_for : Cell → ℕ → Address → Option ℕ
pending_for cell end peer = id_for (link_with cell.host end peer).created (find (is_unread_of peer) (arrived_in (find (is_at end) cell.nodes)))

abbrev pub pending_by : Cell → Option (ℕ × Address) → Option ℕ
pending_by cell None = None
pending_by cell (Some user) = pending_for cell user.0 user.1

abbrev pub pending_in : Cell → Option Socket → Option ℕ
pending_in cell None = None
pending_in cell (Some socket) = pending_by cell socket.user

-- the same of the link that a socket of this number is for
abbrev pub pending_at : Cell → ℕ → Option ℕ
pending_at cell n = pending_in cell (find (is_socket n) cell.host.sockets)

-- ---- a cell

-- Each node is plain, and of each peer the opening of one connection at most isn't read yet.
pub record NodeIsPlain (node : NodeState) : Type 0 where
  pub plain : IsPlain node
  pub alone : (peer : Address) → unread_from peer node.arrived ≤ 1

pub record CellIsPlain (cell : Cell) : Type 0 where
  pub host : HostIsPlain cell.host
  pub nodes : (end : ℕ) (there : ℕ × NodeState) → find (is_at end) cell.nodes ≡ Some there → NodeIsPlain there.1

-- ---- what is unread at an end

abbrev pub pending_there : Option (Cell × ℕ) → ℕ → Option ℕ
pending_there None n = None
pending_there (Some cell) n = pending_at cell.0 n

-- at an end of this cell and number; at one that hasn't come none is
abbrev pub pending_of : List (Cell × ℕ) → Option ℕ → Option ℕ → Option ℕ
pending_of cells None number = None
pending_of cells (Some place) None = None
pending_of cells (Some place) (Some n) = pending_there (slice_get cells place) n

-- the frames among what is unread are a plain stream, behind a connection that was created and isn't opened yet, if there is one
abbrev pub PlainIn : Reader → List ℕ → Option ℕ → Type 0
PlainIn reader unread pending = (all : List Item) → reader.1 ++ unread ≡ spellings all → MayFollow reader.0 all → PlainOn pending (frames_in all) None

abbrev pub PlainAt : Option Reader → Bool → List ℕ → Option ℕ → Type 0
PlainAt None over unread pending = Unit {0}
PlainAt (Some reader) true unread pending = Unit {0}
PlainAt (Some reader) false unread pending = PlainIn reader unread pending

abbrev pub EndIsPlain : World → WorldSocket → End → Type 0
EndIsPlain world socket e = PlainAt (reader_of world socket e) (is_over (end_of e socket)) (end_of e socket).unread (pending_of world.cells (end_of e socket).cell (end_of e socket).number)

-- ---- a world

-- Each cell is plain, and so is what is unread at each end, where what its opener may ask under the socket's name may be read.
pub record WorldIsPlain (journal : List Line) (world : World) : Type 0 where
  pub cells : (place : ℕ) (cell : Cell × ℕ) → slice_get world.cells place ≡ Some cell → CellIsPlain cell.0
  pub ends : (s : SockName) (socket : WorldSocket) (e : End) → find (is_socket_named s) world.sockets ≡ Some socket → MayAskWell journal world socket → EndIsPlain world socket e
