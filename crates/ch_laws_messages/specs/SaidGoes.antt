-- How what a node has written for another, and what waits, goes on.
use Rattle.std.specs.Prelude.{◌≡◌, ◌⊎◌, ◌≤◌, ◌<◌, ℕ, true, false, List, [], ◌∷◌, ◌++◌, length, find, map, Option, Some, None}
use Rattle.ch_ident.specs.declared.identifier.ProcessId.{ProcessId}
use Rattle.ch_ident.specs.Fits.{IsProcess}
use Rattle.ch_light.specs.Ids.{id_of}
use Rattle.ch_static.specs.declared.target.Target.TheVariants as targets
use Rattle.ch_wire.specs.declared.frame.Frame.{Frame}
use Rattle.ch_wire.specs.declared.frame.Frame.TheVariants as frames
use Rattle.ch_model.specs.declared.entry.Entry.{Entry}
use Rattle.ch_model.specs.declared.entry.Entry.TheVariants as entries
use Rattle.ch_model.specs.declared.line.Line.{Line}
use Rattle.ch_model.specs.declared.name.End.{End}
use Rattle.ch_model.specs.declared.name.ProcName.{ProcName}
use Rattle.ch_model.specs.declared.name.SockName.{SockName}
use Rattle.ch_model.specs.declared.name.TargetName.TheVariants as names
use Rattle.ch_model.specs.declared.step.Place.{Place}
use Rattle.ch_model.specs.declared.step.Weight.{Weight}
use Rattle.ch_model.specs.AccountsFrames.{Saying, pair_opening, payload_of}
use Rattle.ch_model.specs.AccountsItems.{frames_of, first_payload}
use Rattle.ch_model.specs.Declarations as declarations
use Rattle.ch_model.specs.HostWrites.{is_up}
use Rattle.ch_model.specs.Naming.{process_as, process_called}
use Rattle.ch_model.specs.NodeIds.{process_id, is_living}
use Rattle.ch_model.specs.NodePairs.{is_pair, pair_of}
use Rattle.ch_model.specs.NodeState.{NodeState, Pair, Mark, Unopened, Opened, Broken}
use Rattle.ch_model.specs.Same.{is_end_of}
use Rattle.ch_model.specs.WorldState.{World}
use Rattle.ch_race.specs.Pair.{Side, other}
use Rattle.ch_laws_race.specs.Scene.{Party, link_of}
use Rattle.ch_laws_calls.specs.Scenes.{scene_of}
use Rattle.ch_laws_peers.specs.Words.{Placed, words_in, datas_in, placing, waiting_as, sayings, opens_one}
use Rattle.ch_laws_peers.specs.Says.{frames_towards, all_towards, node_of, IsUpOn, ArePlaced, has_said}

-- A saying is by and to processes that have ids in their rule, so that what opens a connection for the two tells who they are.
abbrev pub IsWell : List Line → Entry → Type 0
IsWell journal (entries.Said by (names.Process to) epoch index mark body) = ((from : ProcessId) → declarations.process_id journal by ≡ Some from → IsProcess from) × ((at : ProcessId) → declarations.process_id journal to ≡ Some at → IsProcess at)
IsWell journal entry = Unit {0}

abbrev pub SaysWell : List Line → List Entry → Type 0
SaysWell journal [] = Unit {0}
SaysWell journal (entry ∷ rest) = IsWell journal entry × SaysWell journal rest

-- a pair whose ids are in their rule
pub record AreWell (journal : List Line) (p q : ProcName) : Type 0 where
  pub from : (id : ProcessId) → declarations.process_id journal p ≡ Some id → IsProcess id
  pub at : (id : ProcessId) → declarations.process_id journal q ≡ Some id → IsProcess id

-- the frames among these
abbrev pub bare : List Placed → List Frame
bare placed = map (λ (one : Placed). one.0) placed

-- all that was written so, where this was said, and all that waits
abbrev pub all_of : List Saying → List Frame → List (Frame × Weight) → List Placed
all_of said frames waits = placing said [] 0 frames ++ waiting_as waits

-- Something new goes behind what was written and what waits: it is written, where nothing waits; or it waits, where nothing was
-- written; or what waited is written, and that behind it.
abbrev pub Flows : List Frame → List (Frame × Weight) → List Frame → List (Frame × Weight) → List Placed → Type 0
Flows frames waits frames_now waits_now new =
    ((waits ≡ []) × (waits_now ≡ []) × (frames_now ≡ frames ++ bare new))
    ⊎ (((frames ≡ []) × (frames_now ≡ []) × (waiting_as waits_now ≡ waiting_as waits ++ new))
    ⊎ ((frames ≡ []) × (waits_now ≡ []) × (frames_now ≡ bare (waiting_as waits ++ new))))

-- ---- two nodes

-- what x has said to the other, the frames that it has written for it, and what waits
abbrev pub said_to : (Side → Party) → Side → List Entry → List Saying
said_to party x log = sayings (party x).name (party (other x)).name log

abbrev pub frames_to : (Side → Party) → Side → List Entry → List Frame
frames_to party x log = frames_towards (party x).name (party (other x)).name log

abbrev pub waits_for : (Side → Party) → World → Side → List (Frame × Weight)
waits_for party world x = (link_of (scene_of party world) x).waits

-- the id of a connection of x for the other
abbrev pub given_to : (Side → Party) → World → Side → ℕ → Option ℕ
given_to party world x conn = id_of (link_of (scene_of party world) x).given conn

abbrev pub mark_of : NodeState → ℕ → ProcessId → Mark
mark_of node by to = (pair_of node.pairs by (targets.Process to)).mark

-- the process is as it was declared
abbrev pub IsDeclared : World → ProcessId → Type 0
IsDeclared world to = to ≡ process_as world.names (process_called world.names to)

-- What x has written goes on one socket, on which x is up.
pub record IsOne (party : Side → Party) (x : Side) (log : List Entry) (world : World) : Type 0 where
  pub one : (s : SockName) (e : End) → is_end_of (party x).name (party (other x)).name s e ≡ true → (frames_of log s e ≡ []) ⊎ (IsUpOn party world x s e × (frames_of log s e ≡ frames_to party x log))
  pub down : is_up (link_of (scene_of party world) x).state ≡ false → frames_to party x log ≡ []

-- so many frames more go from x, written or kept, and it goes on one socket still
pub record Streams (party : Side → Party) (x : Side) (log : List Entry) (world : World) (after_log : List Entry) (after : World) (new : List Placed) : Type 0 where
  pub placed : ArePlaced new
  pub flows : Flows (frames_to party x log) (waits_for party world x) (frames_to party x after_log) (waits_for party after x) new
  pub is_one : IsOne party x after_log after

-- A node of x after which no pair of it with the other has changed: a connection has its id still; a pair has none where it had none, or its
-- process is new.
pub record NodeStays (party : Side → Party) (x : Side) (world after : World) (now : NodeState) : Type 0 where
  pub was : NodeState
  pub there : node_of party world x ≡ Some was
  pub own : now.own ≡ was.own
  pub made : length was.mail ≤ length now.mail
  pub declared : (pair : Pair) (to : ProcessId) → find (is_pair pair.by pair.to) now.pairs ≡ Some pair → pair.to ≡ targets.Process to → to.node ≡ (party (other x)).address → IsDeclared world to
  pub opened : (by : ℕ) (to : ProcessId) (conn : ℕ) → to.node ≡ (party (other x)).address → mark_of now by to ≡ Opened conn → (mark_of was by to ≡ Opened conn) × ((id : ℕ) → given_to party world x conn ≡ Some id → given_to party after x conn ≡ Some id)
  pub unopened : (by : ℕ) (to : ProcessId) → to.node ≡ (party (other x)).address → mark_of now by to ≡ Unopened → is_living now (process_id now by) ≡ true → ((mark_of was by to ≡ Unopened) × (is_living was (process_id was by) ≡ true)) ⊎ (length was.mail ≤ by)
  pub unbroken : (by : ℕ) (to : ProcessId) → to.node ≡ (party (other x)).address → mark_of now by to ≡ Broken → mark_of was by to ≡ Broken

-- Nothing is said from x to the other, and no payload goes.
pub record Stays (party : Side → Party) (x : Side) (log : List Entry) (world : World) (after_log : List Entry) (after : World) : Type 0 where
  pub named : after.names ≡ world.names
  pub said : said_to party x after_log ≡ said_to party x log
  pub new : List Placed
  pub silent : words_in new ≡ []
  pub streams : Streams party x log world after_log after new
  pub nodes : (now : NodeState) → node_of party after x ≡ Some now → NodeStays party x world after now

-- what goes for a message: its payload alone, or its connection is opened before
abbrev pub sent_next : ℕ → Saying → Place → List Placed
sent_next id s place = (frames.Data id (payload_of s), Some place) ∷ []

abbrev pub sent_first : ℕ → List ℕ → Saying → Place → List Placed
sent_first id opening s place = (frames.Created id, None) ∷ (frames.Data id opening, None) ∷ sent_next id s place

-- A process of x says a message to one of the other, and that goes on the connection of the two.
pub record Sent (journal : List Line) (party : Side → Party) (x : Side) (log : List Entry) (world : World) (after_log : List Entry) (after : World) : Type 0 where
  pub named : after.names ≡ world.names
  pub was : NodeState
  pub now : NodeState
  pub there : node_of party world x ≡ Some was
  pub there_now : node_of party after x ≡ Some now
  pub own : now.own ≡ was.own
  pub made : length was.mail ≤ length now.mail
  pub living : (by : ℕ) → is_living now (process_id now by) ≡ true → is_living was (process_id was by) ≡ true
  pub declared : (pair : Pair) (to : ProcessId) → find (is_pair pair.by pair.to) now.pairs ≡ Some pair → pair.to ≡ targets.Process to → to.node ≡ (party (other x)).address → IsDeclared world to
  pub by : ℕ
  pub to : ProcessId
  pub by_made : by < length was.mail
  pub to_declared : IsDeclared world to
  -- the saying, its place, its connection and the id of that
  pub s : Saying
  pub s_by : s.by ≡ process_called world.names (process_id was by)
  pub s_to : s.to ≡ names.Process (process_called world.names to)
  pub said : said_to party x after_log ≡ said_to party x log ++ s ∷ []
  pub opening : List ℕ
  pub opens : pair_opening journal s.by s.to ≡ Some opening
  pub only : opens_one journal (said_to party x log) opening ≡ true → has_said s.by (process_called world.names to) (said_to party x log) ≡ true
  pub conn : ℕ
  pub id : ℕ
  pub given : given_to party after x conn ≡ Some id
  pub kept : (c n : ℕ) → given_to party world x c ≡ Some n → given_to party after x c ≡ Some n
  pub marked : mark_of now by to ≡ Opened conn
  pub others : (b : ℕ) (t : ProcessId) → ((b ≡ by) × (t ≡ to)) ⊎ (mark_of now b t ≡ mark_of was b t)
  pub new : List Placed
  pub streams : Streams party x log world after_log after new
  pub goes : ((new ≡ sent_next id s (record { epoch = s.epoch; index = s.index })) × (first_payload id (datas_in (words_in (all_towards party world x log))) ≡ Some opening))
      ⊎ ((new ≡ sent_first id opening s (record { epoch = s.epoch; index = s.index })) × (first_payload id (datas_in (words_in (all_towards party world x log))) ≡ None) × (has_said s.by (process_called world.names to) (said_to party x log) ≡ false))
