-- What a node has read of what another has written for it, what is under way between them, and what its connections are bound to.
use Rattle.std.specs.Prelude.{◌≡◌, ◌≤◌, ◌<◌, ◌-◌, ◌+◌, ℕ, suc, slice_get, Bool, true, false, ◌==◌, List, [], ◌∷◌, ◌++◌, length, take, drop, count_by, filter_map, find, map, Option, Some, None}
use Rattle.ch_base.specs.declared.address.Address.{Address}
use Rattle.ch_ident.specs.declared.identifier.Identifier.TheVariants as ends
use Rattle.ch_ident.specs.declared.identifier.ProcessId.{ProcessId}
use Rattle.ch_ident.specs.declared.node_message.NodeMessage.TheVariants.{Opening}
use Rattle.ch_ident.specs.Fits.{IsProcess}
use Rattle.ch_ident.specs.Spelling.{message}
use Rattle.ch_light.specs.declared.TheConstants.{FIRST_ID}
use Rattle.ch_light.specs.Ids.{id_of}
use Rattle.ch_link.specs.declared.LinkState.{LinkState}
use Rattle.ch_link.specs.declared.LinkState.TheVariants.{Up}
use Rattle.ch_reader.specs.Items.{item_spelling, spellings, MayFollow, expected_after}
use Rattle.ch_reader.specs.declared.item.Expected.{Expected}
use Rattle.ch_reader.specs.declared.item.Expected.TheVariants as expected
use Rattle.ch_reader.specs.declared.item.Front.TheVariants.{Whole}
use Rattle.ch_reader.specs.declared.item.Item.{Item}
use Rattle.ch_reader.specs.declared.item.Item.TheVariants as items
use Rattle.ch_wire.specs.declared.frame.Frame.{Frame}
use Rattle.ch_static.specs.declared.target.Target.TheVariants as targets
use Rattle.ch_watch.specs.Same.{same_node}
use Rattle.ch_model.specs.declared.entry.Entry.{Entry}
use Rattle.ch_model.specs.declared.line.Line.{Line}
use Rattle.ch_model.specs.declared.name.End.{End}
use Rattle.ch_model.specs.declared.name.ProcName.{ProcName}
use Rattle.ch_model.specs.declared.name.SockName.{SockName}
use Rattle.ch_model.specs.declared.name.TargetName.TheVariants as names
use Rattle.ch_model.specs.declared.step.Place.{Place}
use Rattle.ch_model.specs.AccountsFrames.{Saying, pair_opening}
use Rattle.ch_model.specs.AccountsItems.{first_payload}
use Rattle.ch_model.specs.Declarations.{process_id}
use Rattle.ch_model.specs.Delivery.{gets_in}
use Rattle.ch_model.specs.Host.{front_of, first_ready}
use Rattle.ch_model.specs.HostState.{Socket}
use Rattle.ch_model.specs.HostWrites.{is_up}
use Rattle.ch_model.specs.Naming.{Names, process_called}
use Rattle.ch_model.specs.NodeIds.{is_own, is_living, target_at}
use Rattle.ch_model.specs.NodeState.{NodeState, Bound, Unread, Void, ToTarget, Arrived}
use Rattle.ch_model.specs.Same.{across, is_end_of}
use Rattle.ch_model.specs.Sockets.{writings}
use Rattle.ch_model.specs.WorldSockets.{end_of, is_socket_named, find_end}
use Rattle.ch_model.specs.WorldState.{Cell, WorldSocket, World}
use Rattle.ch_model.specs.WorldSteps.{on_end, reads_item}
use Rattle.ch_race.specs.Pair.{Side, other}
use Rattle.ch_laws_bytes.specs.Streams.{Reader, reader_of, first_at, is_over}
use Rattle.ch_laws_race.specs.Scene.{Party, link_of}
use Rattle.ch_laws_calls.specs.Scenes.{IsPairOf, scene_of}
use Rattle.ch_laws_peers.specs.Words.{Placed, words_in, datas_in, placing, sayings}
use Rattle.ch_laws_peers.specs.Says.{towards, IsUpOn, node_of}

-- ---- what is under way

-- the world once the step by which a host reads an item of a socket is told
abbrev pub item_read : ℕ → ℕ → World → World
item_read place sock world = (on_end place sock reads_item world).1

-- the frames among items, each with its place
abbrev pub placed_in : List (Item × Option Place) → List Placed
placed_in [] = []
placed_in ((items.Frame frame, place) ∷ rest) = (frame, place) ∷ placed_in rest
placed_in (one ∷ rest) = placed_in rest

-- what is unread where something reads are items, of which these are the frames, and the places stand by them
pub record UnderWay (reader : Reader) (unread : List ℕ) (places : List (Option Place)) (frames : List Placed) : Type 0 where
  pub all : List (Item × Option Place)
  pub bytes : reader.1 ++ unread ≡ spellings (map (λ (one : Item × Option Place). one.0) all)
  pub may : MayFollow reader.0 (map (λ (one : Item × Option Place). one.0) all)
  pub stand : map (λ (one : Item × Option Place). one.1) all ≡ places
  pub framed : placed_in all ≡ frames

abbrev pub IsUnderWay : Option Reader → List ℕ → List (Option Place) → List Placed → Type 0
IsUnderWay None unread places frames = Unit {0}
IsUnderWay (Some reader) unread places frames = UnderWay reader unread places frames

-- an item, and the place of the message that it carries, if any
abbrev pub PlacedItem : Type 0
PlacedItem = Item × Option Place

abbrev pub items_in : List PlacedItem → List Item
items_in all = map (λ (one : PlacedItem). one.0) all

abbrev pub places_in : List PlacedItem → List (Option Place)
places_in all = map (λ (one : PlacedItem). one.1) all

-- each by its bytes
abbrev pub spelled_in : List PlacedItem → List (List ℕ)
spelled_in all = map (λ (one : PlacedItem). item_spelling one.0) all

abbrev pub frames_among : List Placed → List Frame
frames_among frames = map (λ (placed : Placed). placed.0) frames

-- these frames have the places that the sayings give them
abbrev pub AreTruly : List Saying → List Placed → Type 0
AreTruly said frames = placing said [] 0 (frames_among frames) ≡ frames

-- All that was written towards an end is items, the first of which is of that kind: some are read there, and the others are unread,
-- each with its place; and the frames have the places of what they carry.
pub record Way (reader : Reader) (first : Expected) (unread : List ℕ) (places : List (Option Place)) (wrote : List (List ℕ)) (said : List Saying) : Type 0 where
  pub gone : List PlacedItem
  pub all : List PlacedItem
  pub is : wrote ≡ spelled_in (gone ++ all)
  pub may : MayFollow first (items_in (gone ++ all))
  pub at : reader.0 ≡ expected_after first (items_in gone)
  pub bytes : reader.1 ++ unread ≡ spellings (items_in all)
  pub stand : places ≡ places_in all
  pub truly : AreTruly said (placed_in (gone ++ all))

-- so it is where something reads there
abbrev pub IsWay : Option Reader → Expected → List ℕ → List (Option Place) → List (List ℕ) → List Saying → Type 0
IsWay None first unread places wrote said = Unit {0}
IsWay (Some reader) first unread places wrote said = Way reader first unread places wrote said

-- How many of so many frames that were written towards an end are read there: all but those of which the places stand, once the reader
-- expects frames; before that none.
abbrev pub reads_expecting : Expected → List (Option Place) → ℕ → ℕ
reads_expecting expected.Frame places total = total - length places
reads_expecting e places total = 0

abbrev pub reads_with : Option Reader → List (Option Place) → ℕ → ℕ
reads_with None places total = 0
reads_with (Some reader) places total = reads_expecting reader.0 places total

abbrev pub reads_at : World → Option WorldSocket → End → ℕ → ℕ
reads_at world None e total = 0
reads_at world (Some socket) e total = reads_with (reader_of world socket e) (end_of e socket).places total

abbrev pub reads_across : World → Option (SockName × End) → ℕ → ℕ
reads_across world None total = 0
reads_across world (Some at) total = reads_at world (find (is_socket_named at.0) world.sockets) (across at.1) total

abbrev pub reads_from : World → ℕ → LinkState → ℕ → ℕ
reads_from world place (Up number probed) total = reads_across world (find_end place number world.sockets) total
reads_from world place state total = 0

-- how many of the frames that x has written towards the other node that has read
abbrev pub reads : (Side → Party) → World → Side → List Entry → ℕ
reads party world x log = reads_from world (party x).place (link_of (scene_of party world) x).state (length (towards (party x).name (party (other x)).name log))

-- The reading node has read so many of the frames that x has written, and the others are unread at its end of the socket that x is up
-- on. Before its own link is up it has read none; and where both are up, they are up on one socket.
pub record Comes (log : List Entry) (world : World) (party : Side → Party) (x : Side) : Type 0 where
  pub within : reads party world x log ≤ length (towards (party x).name (party (other x)).name log)
  pub way : (s : SockName) (e : End) (socket : WorldSocket) → IsUpOn party world x s e → find (is_socket_named s) world.sockets ≡ Some socket → is_over (end_of (across e) socket) ≡ false
      → IsUnderWay (reader_of world socket (across e)) (end_of (across e) socket).unread (end_of (across e) socket).places (drop (reads party world x log) (towards (party x).name (party (other x)).name log))
  pub before : is_up (link_of (scene_of party world) (other x)).state ≡ false → reads party world x log ≡ 0
  pub one : (s : SockName) (e : End) → IsUpOn party world x s e → is_up (link_of (scene_of party world) (other x)).state ≡ true → IsUpOn party world (other x) s (across e)
  -- so it is at each end of the other, whether x is up there or not; and nothing was written on a socket that isn't there
  pub ways : (s : SockName) (e : End) (socket : WorldSocket) → is_end_of (party x).name (party (other x)).name s e ≡ true → find (is_socket_named s) world.sockets ≡ Some socket → is_over (end_of (across e) socket) ≡ false
      → IsWay (reader_of world socket (across e)) (first_at (across e)) (end_of (across e) socket).unread (end_of (across e) socket).places (writings log s e) (sayings (party x).name (party (other x)).name log)
  pub unopened : (s : SockName) (e : End) → is_end_of (party x).name (party (other x)).name s e ≡ true → find (is_socket_named s) world.sockets ≡ None → writings log s e ≡ []

abbrev pub AllCome : List Line → List Entry → World → Type 0
AllCome journal log world = (party : Side → Party) → IsPairOf journal party → (x : Side) → Comes log world party x

-- The host of the node across is about to read a frame on the socket that its link with x is up on: it is the next of those that x has
-- written, with its place.
pub record ReadsNext (log : List Entry) (world : World) (party : Side → Party) (x : Side) (cell : Cell × ℕ) (frame : Frame) (place : Option Place) : Type 0 where
  pub at : slice_get world.cells (party (other x)).place ≡ Some cell
  pub sock : ℕ
  pub probed : Bool
  pub up : (link_of (scene_of party world) (other x)).state ≡ Up sock probed
  pub known : Socket
  pub ready : first_ready cell.0.host.sockets ≡ Some known
  pub number : known.number ≡ sock
  pub front : (front_of known).0 ≡ Whole (items.Frame frame)
  pub next : slice_get (towards (party x).name (party (other x)).name log) (reads party world x log) ≡ Some (frame, place)

-- What an item turn at a place reads of what x has written: the next frame, which is told first, so that its place is the last that was read; or
-- nothing.
pub record ReadsOne (log : List Entry) (world : World) (party : Side → Party) (x : Side) (place : ℕ) (cell : Cell × ℕ) (after_log : List Entry) (after : World) : Type 0 where
  pub here : (party (other x)).place ≡ place
  pub frame : Frame
  pub word : Option Place
  pub reads_next : ReadsNext log world party x cell frame word
  pub last : (item_read place reads_next.sock world).last ≡ word
  pub more : reads party after x after_log ≡ suc (reads party world x log)

abbrev pub ReadsNone : List Entry → World → (Side → Party) → Side → ℕ → Cell × ℕ → List Entry → World → Type 0
ReadsNone log world party x place cell after_log after =
    (reads party after x after_log ≡ reads party world x log) × ((party (other x)).place ≡ place → (sock : ℕ) (probed : Bool) (known : Socket) (frame : Frame) → (link_of (scene_of party world) (other x)).state ≡ Up sock probed → first_ready cell.0.host.sockets ≡ Some known → known.number ≡ sock → (front_of known).0 ≡ Whole (items.Frame frame) → ⊥)

-- ---- what connections are bound to

-- What a connection is bound to, by the first payload that was read under its id: nothing yet; to nobody, or from a process to a
-- process of the reading node, as the opening says.
abbrev pub IsBoundBy : Option (List ℕ) → Bound → Type 0
IsBoundBy None Unread = Unit {0}
IsBoundBy (Some opening) Void = Unit {0}
IsBoundBy (Some opening) (ToTarget from (targets.Process to)) = opening ≡ message (Opening (ends.Process from) (ends.Process to))
IsBoundBy opening bound = ⊥

-- what has arrived at the reading node from x is bound by what was read under its id
abbrev pub BindsAll : World → (Side → Party) → Side → List (ℕ × List ℕ) → Type 0
BindsAll world party x read = (node : NodeState) (arrived : Arrived) (id : ℕ) → node_of party world (other x) ≡ Some node → find (λ (known : Arrived). known.conn == arrived.conn) node.arrived ≡ Some arrived → same_node arrived.peer (party x).address ≡ true
    → id_of (link_of (scene_of party world) (other x)).created arrived.conn ≡ Some id → IsBoundBy (first_payload id read) arrived.bound

-- to whom a connection from x leads was made there
abbrev pub MakesAll : World → (Side → Party) → Side → Type 0
MakesAll world party x = (node : NodeState) (arrived : Arrived) (from to : ProcessId) → node_of party world (other x) ≡ Some node → find (λ (known : Arrived). known.conn == arrived.conn) node.arrived ≡ Some arrived → same_node arrived.peer (party x).address ≡ true
    → arrived.bound ≡ ToTarget from (targets.Process to) → (is_own node to ≡ true) × (to.counter < length node.mail)

-- ---- what was got

-- how many payloads under this id are among these, behind the first
abbrev pub after_first : ℕ → List (ℕ × List ℕ) → ℕ
after_first id datas = length (drop 1 (filter_map (λ (d : ℕ × List ℕ). elim (d.0 == id) [ true ↦ Some d.1 | false ↦ None ]) datas))

-- what was got of the pair
abbrev pub gets_of : ProcName → ProcName → List Entry → ℕ
gets_of p q log = count_by (gets_in p (names.Process q) 0) log

-- What was got of a pair is no more than what was read under the id that was opened for it; and all of that, where the connection leads
-- to a process that isn't over.
pub record GetsRead (journal : List Line) (log : List Entry) (world : World) (party : Side → Party) (x : Side) (read : List (ℕ × List ℕ)) : Type 0 where
  pub most : (p q : ProcName) (id : ℕ) (opening : List ℕ) → p.node ≡ (party x).name → q.node ≡ (party (other x)).name → pair_opening journal p (names.Process q) ≡ Some opening → first_payload id read ≡ Some opening → gets_of p q log ≤ after_first id read
  pub none : (p q : ProcName) → p.node ≡ (party x).name → q.node ≡ (party (other x)).name → ((id : ℕ) (opening : List ℕ) → pair_opening journal p (names.Process q) ≡ Some opening → first_payload id read ≡ Some opening → ⊥) → gets_of p q log ≡ 0
  pub all : (node : NodeState) (arrived : Arrived) (from to : ProcessId) (id : ℕ) → node_of party world (other x) ≡ Some node → find (λ (known : Arrived). known.conn == arrived.conn) node.arrived ≡ Some arrived → same_node arrived.peer (party x).address ≡ true → arrived.bound ≡ ToTarget from (targets.Process to)
      → is_living node to ≡ true → id_of (link_of (scene_of party world) (other x)).created arrived.conn ≡ Some id → gets_of (process_called world.names from) (process_called world.names to) log ≡ after_first id read

-- ---- one way between two nodes

-- the payloads among the first frames that x has written towards the other, as many as are read
abbrev pub read_of : (Side → Party) → World → Side → List Entry → List (ℕ × List ℕ)
read_of party world x log = datas_in (words_in (take (reads party world x log) (towards (party x).name (party (other x)).name log)))

-- the ids are those of two processes, of the first node and of the second, as they are called, with numbers of four bytes
pub record IsOfPair (journal : List Line) (known : Names) (a b : List ℕ) (from to : ProcessId) : Type 0 where
  pub from_is : process_id journal (process_called known from) ≡ Some from
  pub to_is : process_id journal (process_called known to) ≡ Some to
  pub from_node : (process_called known from).node ≡ a
  pub to_node : (process_called known to).node ≡ b
  pub from_fits : IsProcess from
  pub to_fits : IsProcess to

-- a connection that goes to a process or port goes to one at this address
abbrev pub LeadsHere : Address → Bound → Type 0
LeadsHere own (ToTarget from to) = same_node (target_at to) own ≡ true
LeadsHere own bound = Unit {0}

abbrev pub AllLeadHere : Address → List Arrived → Type 0
AllLeadHere own [] = Unit {0}
AllLeadHere own (arrived ∷ rest) = LeadsHere own arrived.bound × AllLeadHere own rest

-- Each connection from x leads from a process of x to one of the other node, and all that arrived there goes to it. An id under which
-- something was read is one of those that were created there.
pub record GetsPairs (journal : List Line) (world : World) (party : Side → Party) (x : Side) (read : List (ℕ × List ℕ)) : Type 0 where
  pub pairs : (node : NodeState) (arrived : Arrived) (from to : ProcessId) → node_of party world (other x) ≡ Some node → find (λ (known : Arrived). known.conn == arrived.conn) node.arrived ≡ Some arrived → same_node arrived.peer (party x).address ≡ true
      → arrived.bound ≡ ToTarget from (targets.Process to) → IsOfPair journal world.names (party x).name (party (other x)).name from to
  pub reached : (node : NodeState) → node_of party world (other x) ≡ Some node → AllLeadHere node.own node.arrived
  pub below : (id : ℕ) (opening : List ℕ) → first_payload id read ≡ Some opening → id < FIRST_ID + length (link_of (scene_of party world) (other x)).created

-- what has arrived from x is bound by what was read, and that was got
pub record Gets (journal : List Line) (log : List Entry) (world : World) (party : Side → Party) (x : Side) : Type 0 where
  pub binds : BindsAll world party x (read_of party world x log)
  pub made : MakesAll world party x
  pub gets : GetsRead journal log world party x (read_of party world x log)
  pub leads : GetsPairs journal world party x (read_of party world x log)

abbrev pub AllGet : List Line → List Entry → World → Type 0
AllGet journal log world = (party : Side → Party) → IsPairOf journal party → (x : Side) → Gets journal log world party x
