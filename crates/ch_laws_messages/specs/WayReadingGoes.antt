-- How reading goes on in a turn: an item turn reads one frame of what x has written towards the other node, or none, and every other turn none.
use Rattle.std.specs.Prelude.{◌≡◌, ◌⊎◌, ℕ, ◌+◌, ◌*◌, true, List, [], ◌∷◌, ◌++◌, length, take, find, slice_get, Some, Ok}
use Rattle.ch_static.specs.declared.command.Command.{Command}
use Rattle.ch_model.specs.declared.act.Act.{Act}
use Rattle.ch_model.specs.declared.entry.Entry.{Entry}
use Rattle.ch_model.specs.declared.entry.Entry.TheVariants as entries
use Rattle.ch_model.specs.declared.entry.Verdict.{Verdict}
use Rattle.ch_model.specs.declared.line.Line.{Line}
use Rattle.ch_model.specs.declared.line.What.{What}
use Rattle.ch_model.specs.declared.local.LocalEntry.{LocalEntry}
use Rattle.ch_model.specs.declared.name.End.{End}
use Rattle.ch_model.specs.declared.name.ProcName.{ProcName}
use Rattle.ch_model.specs.declared.step.SocketEvent.TheVariants as sockets
use Rattle.ch_model.specs.declared.step.Step.{Step}
use Rattle.ch_model.specs.Cell.{room_for}
use Rattle.ch_model.specs.CellSteps.{is_at, with_node, acts_on, steps_on}
use Rattle.ch_model.specs.Host.{host_next}
use Rattle.ch_model.specs.HostState.{HostState}
use Rattle.ch_model.specs.Marks.{line_numbered}
use Rattle.ch_model.specs.Node.{node_make, node_command, target_node}
use Rattle.ch_model.specs.NodeState.{NodeState}
use Rattle.ch_model.specs.World.{names_of}
use Rattle.ch_model.specs.WorldLines.{can_join, can_come, can_feed}
use Rattle.ch_model.specs.WorldSockets.{end_of}
use Rattle.ch_model.specs.WorldState.{Cell, WorldSocket, World}
use Rattle.ch_race.specs.Pair.{Side, other}
use Rattle.ch_laws_many.specs.ManyLines.{is_of_many}
use Rattle.ch_laws_race.specs.Scene.{Party}
use Rattle.ch_laws_calls.specs.Calls.{Claim, Both, with_host, done_at, IsCalled, IsHeldBy, IsIn, AllRead, joined_in, come_in, fed_in}
use Rattle.ch_laws_calls.specs.Scenes.{IsPairOf}
use Rattle.ch_laws_calls.specs.Turns.{told_on, IsAsked, end_in}
use Rattle.ch_laws_peers.specs.Words.{Placed}
use Rattle.ch_laws_peers.specs.Says.{towards, AllSay}
use Rattle.ch_laws_peers.specs.Reads.{reads, ReadsOne, ReadsNone, AllCome}
use Rattle.ch_laws_peers.specs.Standing.{Standing}

-- what is so before and after each turn: hosts, sockets and nodes agree, all that was said is carried, and what isn't read is under way
abbrev pub Known : List Line → Claim
Known journal = Both (Standing journal) (Both (AllSay journal) (AllCome journal))

-- what x has written towards the other node only grows, at its end
pub record Grown (party : Side → Party) (x : Side) (log after_log : List Entry) : Type 0 where
  pub more : List Placed
  pub is : towards (party x).name (party (other x)).name after_log ≡ towards (party x).name (party (other x)).name log ++ more

-- so it is of each two nodes, both ways, and nothing of it is read
abbrev pub NoneRead : List Line → List Entry → World → List Entry → World → Type 0
NoneRead journal log world after_log after = (party : Side → Party) → IsPairOf journal party → (x : Side) → Grown party x log after_log × (reads party after x after_log ≡ reads party world x log)

-- so it is, and at most the next frame is read, at this place
abbrev pub OneRead : List Line → ℕ → Cell × ℕ → List Entry → World → List Entry → World → Type 0
OneRead journal place cell log world after_log after = (party : Side → Party) → IsPairOf journal party → (x : Side) → Grown party x log after_log × (ReadsOne log world party x place cell after_log after ⊎ ReadsNone log world party x place cell after_log after)

-- So reading goes on in each turn.
pub record ReadingGoes (journal : List Line) : Type 0 where
  pub marked : (log : List Entry) (world : World) (number : ℕ) (what : What) (answer : Verdict) → line_numbered journal number ≡ Some what → is_of_many (names_of journal) what ≡ true → Known journal log world
      → Known journal (log ++ entries.Line number answer ∷ []) world → NoneRead journal log world (log ++ entries.Line number answer ∷ []) world
  pub made : (log : List Entry) (world : World) (place : ℕ) (cell : Cell × ℕ) (end number : ℕ) (node : NodeState) (acts : List Act) (next : NodeState) (told : List LocalEntry) (after : Cell) → slice_get world.cells place ≡ Some cell
      → find (is_at end) cell.0.nodes ≡ Some (number, node) → node_make node ≡ Ok (acts, next) → acts_on end acts (with_node end next cell.0) ≡ Ok (told, after) → Known journal log world
      → let done = told_on place cell after told world in Known journal (log ++ done.0) done.1 → NoneRead journal log world (log ++ done.0) done.1
  pub asked : (log : List Entry) (world : World) (what : What) (by : ProcName) (command : Command) (place : ℕ) (cell : Cell × ℕ) (number : ℕ) (node : NodeState) (acts : List Act) (next : NodeState) (told : List LocalEntry) (after : Cell) → IsAsked journal world what by command place
      → slice_get world.cells place ≡ Some cell → find (is_at (end_in world by)) cell.0.nodes ≡ Some (number, node) → node_command node by.counter command (room_for cell.0.host (end_in world by) node.own (target_node node by.counter command)) ≡ Ok (acts, next)
      → acts_on (end_in world by) acts (with_node (end_in world by) next cell.0) ≡ Ok (told, after) → Known journal log world
      → let done = told_on place cell after told world in Known journal (log ++ done.0) done.1 → NoneRead journal log world (log ++ done.0) done.1
  pub joined : (log : List Entry) (world : World) (socket : WorldSocket) (place n : ℕ) (cell : Cell × ℕ) (steps : List Step) (host : HostState) → IsIn socket world → can_join socket ≡ true → IsHeldBy place n socket.o → IsCalled world place cell (sockets.Joined n) steps host → AllRead world → Known journal log world
      → let done = done_at place cell steps host (joined_in socket world) in Known journal (log ++ entries.Joined socket.name ∷ done.0) done.1 → NoneRead journal log world (log ++ entries.Joined socket.name ∷ done.0) done.1
  pub came : (log : List Entry) (world : World) (socket : WorldSocket) (place : ℕ) (cell : Cell × ℕ) (steps : List Step) (host : HostState) → IsIn socket world → can_come socket ≡ true → socket.t.cell ≡ Some place → IsCalled world place cell (sockets.Came (2 * cell.1 + 1) socket.from_host) steps host → AllRead world → Known journal log world
      → let done = done_at place (cell.0, cell.1 + 1) steps host (come_in place cell socket world) in Known journal (log ++ entries.Came socket.name ∷ done.0) done.1 → NoneRead journal log world (log ++ entries.Came socket.name ∷ done.0) done.1
  pub fed : (log : List Entry) (world : World) (socket : WorldSocket) (which : End) (count b : ℕ) (bytes : List ℕ) (place n : ℕ) (cell : Cell × ℕ) (steps : List Step) (host : HostState) → IsIn socket world → can_feed which socket ≡ true → take count (end_of which socket).unread ≡ b ∷ bytes → IsHeldBy place n (end_of which socket)
      → IsCalled world place cell (sockets.Fed n (b ∷ bytes)) steps host → AllRead world → Known journal log world
      → let done = done_at place cell steps host (fed_in which count socket world) in Known journal (log ++ entries.Fed socket.name which (length (b ∷ bytes)) ∷ done.0) done.1 → NoneRead journal log world (log ++ entries.Fed socket.name which (length (b ∷ bytes)) ∷ done.0) done.1
  pub ended : (log : List Entry) (world : World) (socket : WorldSocket) (which : End) (place n : ℕ) (cell : Cell × ℕ) (steps : List Step) (host : HostState) (told : List LocalEntry) (after : Cell) → IsIn socket world → can_feed which socket ≡ true → (end_of which socket).unread ≡ [] → IsHeldBy place n (end_of which socket)
      → IsCalled world place cell (sockets.Ended n) steps host → steps_on steps (with_host cell host) ≡ Ok (told, after) → AllRead world → Known journal log world
      → let done = told_on place cell after told world in Known journal (log ++ entries.Fed socket.name which 0 ∷ done.0) done.1 → NoneRead journal log world (log ++ entries.Fed socket.name which 0 ∷ done.0) done.1
  pub item : (log : List Entry) (world : World) (place : ℕ) (cell : Cell × ℕ) (steps : List Step) (host : HostState) (told : List LocalEntry) (after : Cell) → slice_get world.cells place ≡ Some cell → host_next cell.0.host ≡ Ok (Some steps, host) → steps_on steps (with_host cell host) ≡ Ok (told, after) → Known journal log world
      → let done = told_on place cell after told world in Known journal (log ++ done.0) done.1 → OneRead journal place cell log world (log ++ done.0) done.1
