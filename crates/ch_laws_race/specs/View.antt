-- The pair that two nodes of a world are.
use Rattle.std.specs.Prelude.{ℕ, zero, suc, Bool, true, false, not, List, [], ◌∷◌, ◌++◌, length, drop, find, is_some, Option, Some, None, slice_get, if◌then◌else◌}
use Rattle.std.specs.List.{list_any}
use Rattle.std.specs.Str.{bytes_eq}
use Rattle.ch_wire.specs.declared.answer.Answer.{Answer}
use Rattle.ch_wire.specs.declared.answer.Answer.TheVariants as answers
use Rattle.ch_wire.specs.declared.frame.Frame.{Frame}
use Rattle.ch_wire.specs.declared.frame.Frame.TheVariants as frames
use Rattle.ch_reader.specs.declared.item.Expected.{Expected}
use Rattle.ch_reader.specs.declared.item.Expected.TheVariants as expected
use Rattle.ch_reader.specs.declared.item.Front.TheVariants.{Whole}
use Rattle.ch_reader.specs.declared.item.Item.{Item}
use Rattle.ch_reader.specs.declared.item.Item.TheVariants as items
use Rattle.ch_reader.specs.Reading.{reading}
use Rattle.ch_link.specs.declared.LinkState.{LinkState}
use Rattle.ch_link.specs.declared.LinkState.TheVariants.{Idle, Dialing, AwaitOther, Up}
use Rattle.ch_model.specs.Stages.{Stage, Pending, Open, Ended}
use Rattle.ch_model.specs.HostState.{Socket, HostState}
use Rattle.ch_model.specs.HostSteps.{is_socket, is_open_endpoint, link_with}
use Rattle.ch_model.specs.Same.{is_between}
use Rattle.ch_model.specs.WorldState.{WorldEnd, WorldSocket}
use Rattle.ch_model.specs.WorldSockets.{end_at}
use Rattle.ch_race.specs.Pair as pair
use Rattle.ch_race.specs.Pair.{Side, Lesser, Greater, other, OEnd, OPending, OAsking, OUp, OEnded, TEnd, TPending, TOpen, TUp, TEnded, Sock, Pair, dead}
use Rattle.ch_laws_race.specs.Scene.{Party, Scene, hosts_of}

-- ---- items

-- an item, as far as the race goes. No node answers that a request names its host falsely
abbrev pub answer_kind : Answer → pair.Item
answer_kind answers.Accepted = pair.Accepted
answer_kind answers.Crossed = pair.Crossed
answer_kind answers.Invalid = pair.Invalid
answer_kind answers.Mismatch = pair.Invalid

abbrev pub frame_kind : Frame → pair.Item
frame_kind frames.EndClosed = pair.EndClosed
frame_kind frames.Probe = pair.Probe
frame_kind frames.ProbeAck = pair.Ack
frame_kind frame = pair.Data

abbrev pub kind : Item → pair.Item
kind (items.Request request) = pair.Request
kind (items.Answer answer) = answer_kind answer
kind (items.Frame frame) = frame_kind frame

-- The whole items at the front of bytes, of which that kind comes first: as many as there are, up to a bound. What is a part
-- of an item is none yet, and a refusal hides what follows.
abbrev pub items_in : ℕ → Expected → List ℕ → List pair.Item
items_in zero e bytes = []
items_in (suc more) e bytes = elim (reading e bytes).0 [
  | Whole item ↦ kind item ∷ items_in more expected.Frame (drop (reading e bytes).1 bytes)
  | _ ↦ []
]

-- each item has a byte
abbrev pub whole_items : Expected → List ℕ → List pair.Item
whole_items e bytes = items_in (length bytes) e bytes

-- ---- ends

-- What a reader of an end has: which item it expects next, and the bytes since the last.
abbrev pub Reader : Type 0
Reader = Expected × List ℕ

abbrev pub reader_of : Expected → Option Socket → Reader
reader_of first None = (first, [])
reader_of first (Some socket) = (socket.expected, socket.since)

-- the host's record of an end, where its host has taken it
abbrev pub record_of : (ℕ → HostState) → Option ℕ → Option ℕ → Option Socket
record_of hosts (Some cell) (Some number) = find (is_socket number) (hosts cell).sockets
record_of hosts cell number = None

abbrev pub reader_at : (ℕ → HostState) → Expected → WorldEnd → Reader
reader_at hosts first end = reader_of first (record_of hosts end.cell end.number)

-- what is unread at an end: what its host has, and what the world has
abbrev pub unread_at : Reader → WorldEnd → List pair.Item
unread_at reader end = whole_items reader.0 (reader.1 ++ end.unread)

-- an opener's end that is open and has read its answer is up
abbrev pub opener_end : Stage → Expected → OEnd
opener_end Pending e = OPending
opener_end Open expected.Frame = OUp
opener_end Open e = OAsking
opener_end Ended e = OEnded

-- A target's end that is open and has read its request is up. One whose host isn't there never comes.
abbrev pub target_end : Bool → Stage → Expected → TEnd
target_end false stage e = TPending
target_end true Pending e = TPending
target_end true Open expected.Frame = TUp
target_end true Open e = TOpen
target_end true Ended e = TEnded

-- ---- sockets

abbrev pub opener_of : (Side → Party) → WorldSocket → Side
opener_of party socket = if bytes_eq socket.name.from (party Lesser).name then Lesser else Greater

-- a socket of the two, with its readers
abbrev pub sock_with : (Side → Party) → Reader → Reader → WorldSocket → Sock
sock_with party at_o at_t socket = record {
  opener = opener_of party socket;
  o = opener_end socket.o.stage at_o.0;
  t = target_end (is_some socket.t.cell) socket.t.stage at_t.0;
  cut_o = socket.o.is_cut;
  cut_t = socket.t.is_cut;
  in_o = unread_at at_o socket.o;
  in_t = unread_at at_t socket.t;
}

abbrev pub sock_of : (Side → Party) → (ℕ → HostState) → WorldSocket → Sock
sock_of party hosts socket = sock_with party (reader_at hosts expected.Answer socket.o) (reader_at hosts expected.Request socket.t) socket

-- a socket of others is dead to these two, and so is one that isn't opened yet
abbrev pub sock_seen : (Side → Party) → (ℕ → HostState) → Option WorldSocket → Sock
sock_seen party hosts None = dead
sock_seen party hosts (Some socket) = if is_between (party Lesser).name (party Greater).name socket.name then sock_of party hosts socket else dead

-- ---- links

-- the cell has an end of the socket under that number
abbrev pub has_end : ℕ → ℕ → WorldSocket → Bool
has_end cell number socket = is_some (end_at cell number socket)

-- the place among the world's sockets, in order of opening, of the one that a cell has under that number
abbrev pub place_of : ℕ → List WorldSocket → ℕ → ℕ
place_of cell [] number = 0
place_of cell (socket ∷ rest) number = if has_end cell number socket then 0 else suc (place_of cell rest number)

-- a link's state, with the places of its sockets for their numbers
abbrev pub with_places : (ℕ → ℕ) → LinkState → LinkState
with_places place Idle = Idle
with_places place (Dialing sock) = Dialing (place sock)
with_places place AwaitOther = AwaitOther
with_places place (Up sock probed) = Up (place sock) probed

-- ---- the pair

-- the endpoint of this number isn't open
abbrev pub is_shut : ℕ → HostState → Bool
is_shut end host = not (list_any (is_open_endpoint end) host.ends)

-- what is seen of hosts and sockets. Sockets are numbered by their places among all of the world's
abbrev pub seen : (Side → Party) → (ℕ → HostState) → List WorldSocket → Bool → Pair
seen party hosts sockets quiet = record {
  link = λ x. with_places (place_of (party x).place sockets) (link_with (hosts (party x).place) (party x).address.id (party (other x)).address).state;
  shut = λ x. is_shut (party x).address.id (hosts (party x).place);
  sock = λ i. sock_seen party hosts (slice_get sockets i);
  quiet = quiet;
}

-- what is seen of a scene
abbrev pub view : Scene → Pair
view scene = seen scene.party (hosts_of scene.world) scene.world.sockets scene.quiet
