-- Two nodes of a journal as a scene of a world: what is so of it there, whatever happens; and that it is reached as a pair is.
use Rattle.std.specs.Prelude.{◌≡◌, ◌⊎◌, ℕ, Bool, true, false, ◌&&◌, ◌==◌, List, [], ◌∷◌, ◌++◌, find, slice_get, Option, Some, None, is_some}
use Rattle.std.specs.List.{list_any}
use Rattle.std.specs.Str.{bytes_eq}
use Rattle.ch_base.specs.declared.address.Address.{Address}
use Rattle.ch_wire.specs.Spelling.{IsFrame}
use Rattle.ch_wire.specs.declared.answer.Answer.{Answer}
use Rattle.ch_wire.specs.declared.answer.Answer.TheVariants.{Mismatch}
use Rattle.ch_wire.specs.declared.frame.Frame.{Frame}
use Rattle.ch_wire.specs.declared.request.Request.{Request}
use Rattle.ch_reader.specs.Items.{spellings, MayFollow}
use Rattle.ch_reader.specs.declared.item.Expected.TheVariants as expected
use Rattle.ch_reader.specs.declared.item.Front.TheVariants.{Whole}
use Rattle.ch_reader.specs.declared.item.Item.{Item}
use Rattle.ch_reader.specs.declared.item.Item.TheVariants as items
use Rattle.ch_watch.specs.Same.{same_node}
use Rattle.ch_model.specs.declared.entry.Entry.{Entry}
use Rattle.ch_model.specs.declared.line.Line.{Line}
use Rattle.ch_model.specs.declared.name.End.{End}
use Rattle.ch_model.specs.declared.name.End.TheVariants.{O, T}
use Rattle.ch_model.specs.declared.name.SockName.{SockName}
use Rattle.ch_model.specs.Greater as greater
use Rattle.ch_model.specs.Host.{front_of}
use Rattle.ch_model.specs.HostItems.{is_mismatch}
use Rattle.ch_model.specs.HostLinks.{next_dial}
use Rattle.ch_model.specs.HostState.{Socket}
use Rattle.ch_model.specs.HostSteps.{is_socket, own_address}
use Rattle.ch_model.specs.Naming.{is_named, called}
use Rattle.ch_model.specs.Same.{is_between}
use Rattle.ch_model.specs.Stages.{is_ended}
use Rattle.ch_model.specs.World.{names_of, world_new}
use Rattle.ch_model.specs.WorldSockets as ends
use Rattle.ch_model.specs.WorldSockets.{end_of, is_end_of, cell_of, find_end, is_socket_named, next_name}
use Rattle.ch_model.specs.WorldState.{Cell, Named, WorldSocket, World}
use Rattle.ch_race.specs.Invariant.{IsReached}
use Rattle.ch_race.specs.Moves.{Move, AllAllowed, run}
use Rattle.ch_race.specs.Pair.{Side, Lesser, Greater, other, is_greater}
use Rattle.ch_laws_writes.specs.Dues.{Due, Asking, Answering, Framing, due_at}
use Rattle.ch_laws_race.specs.Others.{AreKnown, IsOthers, IsFree}
use Rattle.ch_laws_race.specs.Requests.{request_to}
use Rattle.ch_laws_race.specs.Scene.{Party, Scene, hosts_of, host_of, link_of}
use Rattle.ch_laws_race.specs.Sound.{Acts, HasEnd, AreFrames, TakesItem, TakesFrames, AreApart, first_of, opener_by}
use Rattle.ch_laws_race.specs.Reading.{IsUser}
use Rattle.ch_laws_race.specs.View.{opener_of, has_end, view}

-- The two parties are nodes of the journal: under their names, at their addresses, on the hosts of those, the greater address second.
pub record IsPairOf (journal : List Line) (party : Side → Party) : Type 0 where
  pub named : (x : Side) → (d : Named) × (find (is_named (party x).name) (names_of journal) ≡ Some d) × (d.name ≡ (party x).name) × (d.address ≡ (party x).address)
  pub placed : (x : Side) → cell_of (world_new journal) (party x).address ≡ Some (party x).place
  pub order : (x : Side) → greater.is_greater (party x).address (party (other x)).address ≡ is_greater x

-- the two in a world in which nothing was lost
abbrev pub scene_of : (Side → Party) → World → Scene
scene_of party world = record { party = party; world = world; quiet = true }

-- ---- what is so of a scene

-- an end of a socket between the two is of one of them, at the place of its host
pub record IsOfSide (party : Side → Party) (e : End) (socket : WorldSocket) : Type 0 where
  pub side : Side
  pub opener : opener_of party socket ≡ opener_by e side
  pub cell : (end_of e socket).cell ≡ Some (party side).place

-- the link of this endpoint with this peer is none of the two
abbrev pub IsOthersLink : (Side → Party) → ℕ → ℕ → Address → Type 0
IsOthersLink party place end peer = (z : Side) → (party z).place ≡ place → ((end == (party z).address.id) && same_node peer (party (other z)).address) ≡ false

-- What is so of the scene of two nodes, at any moment.
pub record SceneFacts (party : Side → Party) (world : World) : Type 0 where
  -- both hosts are there, and act
  pub there : (x : Side) → (cell : Cell × ℕ) × (slice_get world.cells (party x).place ≡ Some cell)
  pub acts : (x : Side) (cell : Cell × ℕ) → slice_get world.cells (party x).place ≡ Some cell → Acts (scene_of party world) x cell
  pub apart : AreApart world.sockets
  -- what a link names is there
  pub known : AreKnown (scene_of party world)
  -- the names are those of the two, which differ
  pub called_as : (x : Side) → called world.names (party x).address ≡ (party x).name
  pub names_differ : bytes_eq (party Greater).name (party Lesser).name ≡ false
  pub names_are : (x : Side) → (party x).name ≡ [] → ⊥
  -- an address that is called as one of the two is that one's
  pub is_called : (x : Side) (address : Address) → called world.names address ≡ (party x).name → address ≡ (party x).address
  -- the name of the next socket of any two is new
  pub new_name : (from to : List ℕ) → find (is_socket_named (next_name world from to)) world.sockets ≡ None
  -- each end of a socket between the two is of a side, and both are of hosts
  pub sides : (i : ℕ) (socket : WorldSocket) → slice_get world.sockets i ≡ Some socket → is_between (party Lesser).name (party Greater).name socket.name ≡ true → (e : End) → IsOfSide party e socket
  -- a host's record stands as the end does
  pub stands : (x : Side) (e : End) (i n : ℕ) (socket : WorldSocket) (known : Socket) → HasEnd (scene_of party world) x e i n socket → find (is_socket n) (host_of (scene_of party world) x).sockets ≡ Some known → known.stage ≡ (end_of e socket).stage
  pub kept : (x : Side) (e : End) (i n : ℕ) (socket : WorldSocket) → HasEnd (scene_of party world) x e i n socket → (known : Socket) × (find (is_socket n) (host_of (scene_of party world) x).sockets ≡ Some known)
  -- its user, where it has one, is the link of the two; that of an opener's end has one
  pub users : (x : Side) (e : End) (i n : ℕ) (socket : WorldSocket) (known : Socket) → HasEnd (scene_of party world) x e i n socket → find (is_socket n) (host_of (scene_of party world) x).sockets ≡ Some known → (known.user ≡ None) ⊎ IsUser (scene_of party world) x known
  -- what a host has under a number, for a link of the two or one that it names, is an end between the two
  pub between : (x : Side) (n : ℕ) (known : Socket) → find (is_socket n) (host_of (scene_of party world) x).sockets ≡ Some known → IsUser (scene_of party world) x known → (i : ℕ) × (socket : WorldSocket) × (e : End) × HasEnd (scene_of party world) x e i n socket
  -- a socket that is for another link than those of the two isn't between them, and nor is one that such a link dials
  pub others : (place n : ℕ) (cell : Cell × ℕ) (known : Socket) (end : ℕ) (peer : Address) → slice_get world.cells place ≡ Some cell → find (is_socket n) cell.0.host.sockets ≡ Some known → known.user ≡ Some (end, peer) → IsOthersLink party place end peer → IsFree (scene_of party world) place n
  pub other_names : (place : ℕ) (cell : Cell × ℕ) (end : ℕ) (peer : Address) → slice_get world.cells place ≡ Some cell → IsOthersLink party place end peer → IsOthers party (next_name world (called world.names (own_address cell.0.host end)) (called world.names peer))
  -- the number of a host's next dial is no end's
  pub next_free : (place : ℕ) (cell : Cell × ℕ) → slice_get world.cells place ≡ Some cell → list_any (has_end place (next_dial cell.0.host)) world.sockets ≡ false
  -- a request that a target of the two reads first is that of the other, and isn't a mismatch
  pub request : (x : Side) (i : ℕ) (socket : WorldSocket) (known : Socket) (r : Request) (more : List Item) → HasEnd (scene_of party world) x T i known.number socket → find (is_socket known.number) (host_of (scene_of party world) x).sockets ≡ Some known → is_ended socket.t.stage ≡ false → known.expected ≡ expected.Request
      → known.since ++ socket.t.unread ≡ spellings (items.Request r ∷ more) → MayFollow expected.Request (items.Request r ∷ more) → (r ≡ request_to (scene_of party world) x) × (is_mismatch (host_of (scene_of party world) x) known.peer_host (party x).address.id (party (other x)).address ≡ false)
  -- a request that stands at the front of a socket that isn't between the two asks none of their links
  pub other_request : (place n : ℕ) (cell : Cell × ℕ) (known : Socket) (r : Request) → slice_get world.cells place ≡ Some cell → find (is_socket n) cell.0.host.sockets ≡ Some known → IsFree (scene_of party world) place n → is_ended known.stage ≡ false → (front_of known).0 ≡ Whole (items.Request r) → IsOthersLink party place r.target r.from
  -- none is answered that its host text is false
  pub no_mismatch : (x : Side) (i : ℕ) (socket : WorldSocket) (known : Socket) (more : List Item) → HasEnd (scene_of party world) x O i known.number socket → find (is_socket known.number) (host_of (scene_of party world) x).sockets ≡ Some known → is_ended socket.o.stage ≡ false → known.expected ≡ expected.Answer
      → known.since ++ socket.o.unread ≡ spellings (items.Answer Mismatch ∷ more) → ⊥
  -- what is unread at an end of the two is whole items
  pub spelled : (x : Side) (e : End) (i : ℕ) (socket : WorldSocket) (known : Socket) → HasEnd (scene_of party world) x e i known.number socket → find (is_socket known.number) (host_of (scene_of party world) x).sockets ≡ Some known → is_ended (end_of e socket).stage ≡ false
      → (all : List Item) × (known.since ++ (end_of e socket).unread ≡ spellings all) × MayFollow known.expected all
  -- what is due at an end of the two may be written towards the other
  pub takes_request : (x : Side) (i n : ℕ) (socket : WorldSocket) → HasEnd (scene_of party world) x O i n socket → due_at (host_of (scene_of party world) x) n ≡ Some (Asking (party x).address.id (party (other x)).address) → TakesItem (hosts_of world) expected.Request socket.t (items.Request (record { target = (party (other x)).address.id; from = (party x).address }))
  pub takes_answer : (x : Side) (i n : ℕ) (socket : WorldSocket) (answer : Answer) → HasEnd (scene_of party world) x T i n socket → due_at (host_of (scene_of party world) x) n ≡ Some Answering → TakesItem (hosts_of world) expected.Answer socket.o (items.Answer answer)
  pub takes_frame : (x : Side) (e : End) (i n : ℕ) (socket : WorldSocket) (frame : Frame) → HasEnd (scene_of party world) x e i n socket → due_at (host_of (scene_of party world) x) n ≡ Some Framing → IsFrame frame → TakesItem (hosts_of world) (first_of (ends.other e)) (end_of (ends.other e) socket) (items.Frame frame)
  pub waits : (x : Side) → AreFrames (link_of (scene_of party world) x).waits

-- ---- what is seen of a pair

-- what is seen of the two after is some allowed moves of what is seen before
pub record IsMoved (party : Side → Party) (before after : World) : Type 0 where
  pub moves : List Move
  pub allowed : AllAllowed moves (view (scene_of party before))
  pub seen : view (scene_of party after) ≡ run moves (view (scene_of party before))

-- what is so of the scenes of all two nodes of the journal
abbrev pub Shown : List Line → List Entry → World → Type 0
Shown journal log world = (party : Side → Party) → IsPairOf journal party → SceneFacts party world

-- each two nodes of the journal are seen as a pair that comes about by moves that may happen
abbrev pub Raced : List Line → List Entry → World → Type 0
Raced journal log world = (party : Side → Party) → IsPairOf journal party → IsReached (view (scene_of party world))
