-- What a node has said to another, and what it has written for it or keeps until their link is up.
use Rattle.std.specs.List.{list_any}
use Rattle.std.specs.Prelude.{◌≡◌, ◌⊎◌, ◌≤◌, ℕ, Bool, true, false, ◌==◌, not, ◌&&◌, List, [], ◌∷◌, ◌++◌, length, find, slice_get, Option, Some, None}
use Rattle.ch_ident.specs.declared.identifier.ProcessId.{ProcessId}
use Rattle.ch_light.specs.Ids.{id_of}
use Rattle.ch_link.specs.declared.LinkState.TheVariants.{Up}
use Rattle.ch_static.specs.declared.target.Target.TheVariants as targets
use Rattle.ch_wire.specs.declared.frame.Frame.{Frame}
use Rattle.ch_wire.specs.declared.frame.Frame.TheVariants as frames
use Rattle.ch_model.specs.declared.entry.Entry.{Entry}
use Rattle.ch_model.specs.declared.entry.Entry.TheVariants as entries
use Rattle.ch_model.specs.declared.line.Line.{Line}
use Rattle.ch_model.specs.declared.name.End.{End}
use Rattle.ch_model.specs.declared.name.ProcName.{ProcName}
use Rattle.ch_model.specs.declared.name.SockName.{SockName}
use Rattle.ch_model.specs.declared.name.TargetName.TheVariants as names
use Rattle.ch_model.specs.AccountsFrames.{Saying, pair_opening}
use Rattle.ch_model.specs.AccountsItems.{frame_of, frames_of, first_payload}
use Rattle.ch_model.specs.CellSteps.{is_at}
use Rattle.ch_model.specs.HostWrites.{is_up}
use Rattle.ch_model.specs.Logs.{collected, never}
use Rattle.ch_model.specs.Naming.{process_as, process_called}
use Rattle.ch_model.specs.NodeIds.{process_id, is_living}
use Rattle.ch_model.specs.NodePairs.{is_pair, pair_of}
use Rattle.ch_model.specs.NodeState.{NodeState, Pair, Unopened, Opened, Broken}
use Rattle.ch_model.specs.Same.{is_end_of, same_process, same_target}
use Rattle.ch_model.specs.Sockets.{writings}
use Rattle.ch_model.specs.WorldSockets.{find_end}
use Rattle.ch_model.specs.WorldState.{Cell, World}
use Rattle.ch_race.specs.Pair.{Side, other}
use Rattle.ch_laws_race.specs.Scene.{Party, link_of}
use Rattle.ch_laws_calls.specs.Scenes.{IsPairOf, scene_of}
use Rattle.ch_laws_peers.specs.Words.{Placed, words_in, datas_in, waiting_as, sayings, placing, TrueWords}

-- the frame from x towards y that is written by this entry, behind the first item of its end
abbrev pub written_by : List ℕ → List ℕ → List Entry → Entry → Option Frame
written_by x y log (entries.Wrote sock end bytes) = elim (is_end_of x y sock end && not (length (writings log sock end) == 0)) [
  | true ↦ frame_of bytes
  | false ↦ None
]
written_by x y log entry = None

-- all frames that ends of x have written towards y, in order, whichever socket of the two they went on
abbrev pub frames_towards : List ℕ → List ℕ → List Entry → List Frame
frames_towards x y log = collected never (written_by x y) log

-- the same with the places of the messages that they carry
abbrev pub towards : List ℕ → List ℕ → List Entry → List Placed
towards x y log = placing (sayings x y log) [] 0 (frames_towards x y log)

-- with what waits for the link of x with the other
abbrev pub all_towards : (Side → Party) → World → Side → List Entry → List Placed
all_towards party world x log = towards (party x).name (party (other x)).name log ++ waiting_as (link_of (scene_of party world) x).waits

-- the node of a party, where its host has it
abbrev pub node_in : Option (Cell × ℕ) → ℕ → Option NodeState
node_in None end = None
node_in (Some cell) end = elim (find (is_at end) cell.0.nodes) [
  | None ↦ None
  | Some there ↦ Some there.1
]

abbrev pub node_of : (Side → Party) → World → Side → Option NodeState
node_of party world x = node_in (slice_get world.cells (party x).place) (party x).address.id

-- x is up on this end of a socket
pub record IsUpOn (party : Side → Party) (world : World) (x : Side) (s : SockName) (e : End) : Type 0 where
  pub number : ℕ
  pub probed : Bool
  pub up : (link_of (scene_of party world) x).state ≡ Up number probed
  pub found : find_end (party x).place number world.sockets ≡ Some (s, e)

-- a frame that is no payload has no place
abbrev pub IsPlaced : Placed → Type 0
IsPlaced (frames.Data id payload, place) = Unit {0}
IsPlaced (frame, place) = place ≡ None

abbrev pub ArePlaced : List Placed → Type 0
ArePlaced [] = Unit {0}
ArePlaced (placed ∷ rest) = IsPlaced placed × ArePlaced rest

-- a pair of a process of the node and a process of the other has its connection under an id, and that was opened for it
pub record HasOpened (journal : List Line) (party : Side → Party) (log : List Entry) (world : World) (x : Side) (node : NodeState) (by : ℕ) (to : ProcessId) (conn : ℕ) : Type 0 where
  pub id : ℕ
  pub given : id_of (link_of (scene_of party world) x).given conn ≡ Some id
  pub opening : List ℕ
  pub opens : pair_opening journal (process_called world.names (process_id node by)) (names.Process (process_called world.names to)) ≡ Some opening
  pub opened : first_payload id (datas_in (words_in (all_towards party world x log))) ≡ Some opening

-- the pair has said something
abbrev pub has_said : ProcName → ProcName → List Saying → Bool
has_said p q said = list_any (λ (s : Saying). same_process s.by p && same_target s.to (names.Process q)) said

-- What x has said to y: all of it is carried by what x has written towards y and by what waits, in order.
pub record Says (journal : List Line) (log : List Entry) (world : World) (party : Side → Party) (x : Side) : Type 0 where
  pub placed : ArePlaced (waiting_as (link_of (scene_of party world) x).waits)
  pub words : TrueWords journal (sayings (party x).name (party (other x)).name log) [] 0 (words_in (all_towards party world x log)) (length (sayings (party x).name (party (other x)).name log))
  -- it goes on one socket, on which x is up; while x isn't up, nothing was written
  pub one : (s : SockName) (e : End) → is_end_of (party x).name (party (other x)).name s e ≡ true → (frames_of log s e ≡ []) ⊎ (IsUpOn party world x s e × (frames_of log s e ≡ frames_towards (party x).name (party (other x)).name log))
  pub down : is_up (link_of (scene_of party world) x).state ≡ false → frames_towards (party x).name (party (other x)).name log ≡ []
  -- each pair is of processes as they were declared; one with a connection has an id for it, opened for that pair; one without, whose
  -- process isn't over, has said nothing; and no two ids were opened for one pair
  pub declared : (node : NodeState) (pair : Pair) (to : ProcessId) → node_of party world x ≡ Some node → find (is_pair pair.by pair.to) node.pairs ≡ Some pair → pair.to ≡ targets.Process to → to.node ≡ (party (other x)).address → to ≡ process_as world.names (process_called world.names to)
  pub opened : (node : NodeState) (by : ℕ) (to : ProcessId) (conn : ℕ) → node_of party world x ≡ Some node → to.node ≡ (party (other x)).address → (pair_of node.pairs by (targets.Process to)).mark ≡ Opened conn → HasOpened journal party log world x node by to conn
  pub unopened : (node : NodeState) (by : ℕ) (to : ProcessId) → node_of party world x ≡ Some node → to.node ≡ (party (other x)).address → to ≡ process_as world.names (process_called world.names to) → (pair_of node.pairs by (targets.Process to)).mark ≡ Unopened → is_living node (process_id node by) ≡ true
      → has_said (process_called world.names (process_id node by)) (process_called world.names to) (sayings (party x).name (party (other x)).name log) ≡ false
  -- no pair is broken, and a process that isn't made yet has said nothing
  pub unbroken : (node : NodeState) (by : ℕ) (to : ProcessId) → node_of party world x ≡ Some node → to.node ≡ (party (other x)).address → (pair_of node.pairs by (targets.Process to)).mark ≡ Broken → ⊥
  pub unmade : (node : NodeState) (by : ℕ) (q : ProcName) → node_of party world x ≡ Some node → length node.mail ≤ by → has_said (process_called world.names (process_id node by)) q (sayings (party x).name (party (other x)).name log) ≡ false
  pub alone : (i j : ℕ) (opening : List ℕ) → first_payload i (datas_in (words_in (all_towards party world x log))) ≡ Some opening → first_payload j (datas_in (words_in (all_towards party world x log))) ≡ Some opening → i ≡ j

-- so it is of each two nodes of the journal, both ways
abbrev pub AllSay : List Line → List Entry → World → Type 0
AllSay journal log world = (party : Side → Party) → IsPairOf journal party → (x : Side) → Says journal log world party x
