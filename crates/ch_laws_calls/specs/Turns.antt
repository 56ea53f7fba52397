-- What happens in a journal of many nodes, as turns, one after another: a node's call with all its acts, an item with all that its posts bring.
use Rattle.std.specs.Prelude.{◌≡◌, ℕ, ◌+◌, ◌*◌, true, List, [], ◌∷◌, ◌++◌, length, take, find, slice_get, Some, Ok}
use Rattle.ch_static.specs.declared.command.Command.{Command}
use Rattle.ch_model.specs.declared.act.Act.{Act}
use Rattle.ch_model.specs.declared.entry.Entry.{Entry}
use Rattle.ch_model.specs.declared.entry.Entry.TheVariants as entries
use Rattle.ch_model.specs.declared.entry.Verdict.{Verdict}
use Rattle.ch_model.specs.declared.line.Line.{Line}
use Rattle.ch_model.specs.declared.line.What.{What}
use Rattle.ch_model.specs.declared.local.LocalEntry.{LocalEntry}
use Rattle.ch_model.specs.declared.name.End.{End}
use Rattle.ch_model.specs.declared.name.ProcName.{ProcName}
use Rattle.ch_model.specs.declared.step.SocketEvent.TheVariants as sockets
use Rattle.ch_model.specs.declared.step.Step.{Step}
use Rattle.ch_model.specs.Cell.{room_for}
use Rattle.ch_model.specs.CellSteps.{is_at, with_node, acts_on, steps_on}
use Rattle.ch_model.specs.Host.{host_next}
use Rattle.ch_model.specs.HostState.{HostState}
use Rattle.ch_model.specs.Marks.{line_numbered}
use Rattle.ch_model.specs.Naming.{address_as}
use Rattle.ch_model.specs.Node.{node_make, node_command, target_node}
use Rattle.ch_model.specs.NodeState.{NodeState}
use Rattle.ch_model.specs.World.{names_of}
use Rattle.ch_model.specs.WorldHappenings.{with_cell}
use Rattle.ch_model.specs.WorldLines.{command_as, can_join, can_come, can_feed}
use Rattle.ch_model.specs.WorldSockets.{end_of, cell_of}
use Rattle.ch_model.specs.WorldState.{Cell, WorldSocket, World}
use Rattle.ch_model.specs.WorldSteps.{all_told}
use Rattle.ch_laws_many.specs.ManyLines.{is_of_many}
use Rattle.ch_laws_calls.specs.Calls.{Claim, with_host, done_at, IsCalled, IsHeldBy, IsIn, AllRead, joined_in, come_in, fed_in}

-- ---- a turn

-- what is told of a turn, and the world after it: the cell is kept as it is in the end, and all that was told is done
abbrev pub told_on : ℕ → Cell × ℕ → Cell → List LocalEntry → World → List Entry × World
told_on place cell after told world = all_told place after told (with_cell place (after, cell.1) world)

-- the line of the journal asks a command of a process, whose node is of the cell at this place
pub record IsAsked (journal : List Line) (world : World) (what : What) (by : ProcName) (command : Command) (place : ℕ) : Type 0 where
  pub of : is_of_many (names_of journal) what ≡ true
  pub asks : command_as world.names what ≡ Some (by, command)
  pub cell : cell_of world (address_as world.names by.node) ≡ Some place

-- the endpoint of a process's node
abbrev pub end_in : World → ProcName → ℕ
end_in world by = (address_as world.names by.node).id

-- ---- what is kept

-- Each turn keeps J, where P holds before it and Q after it:
--   marked: the answer of a line of the journal is told.   made: a node makes a process.   asked: a process asks something of its node.
--   joined, came, fed: an end is joined, has come, is handed bytes.   ended: an end is handed the end of its input.   item: a host reads an item.
pub record KeepsTurns (journal : List Line) (P Q J : Claim) : Type 0 where
  pub marked : (log : List Entry) (world : World) (number : ℕ) (what : What) (answer : Verdict) → line_numbered journal number ≡ Some what → is_of_many (names_of journal) what ≡ true → P log world → J log world
      → Q (log ++ entries.Line number answer ∷ []) world → J (log ++ entries.Line number answer ∷ []) world
  pub made : (log : List Entry) (world : World) (place : ℕ) (cell : Cell × ℕ) (end number : ℕ) (node : NodeState) (acts : List Act) (next : NodeState) (told : List LocalEntry) (after : Cell) → slice_get world.cells place ≡ Some cell
      → find (is_at end) cell.0.nodes ≡ Some (number, node) → node_make node ≡ Ok (acts, next) → acts_on end acts (with_node end next cell.0) ≡ Ok (told, after) → P log world → J log world
      → let done = told_on place cell after told world in Q (log ++ done.0) done.1 → J (log ++ done.0) done.1
  pub asked : (log : List Entry) (world : World) (what : What) (by : ProcName) (command : Command) (place : ℕ) (cell : Cell × ℕ) (number : ℕ) (node : NodeState) (acts : List Act) (next : NodeState) (told : List LocalEntry) (after : Cell) → IsAsked journal world what by command place
      → slice_get world.cells place ≡ Some cell → find (is_at (end_in world by)) cell.0.nodes ≡ Some (number, node) → node_command node by.counter command (room_for cell.0.host (end_in world by) node.own (target_node node by.counter command)) ≡ Ok (acts, next)
      → acts_on (end_in world by) acts (with_node (end_in world by) next cell.0) ≡ Ok (told, after) → P log world → J log world
      → let done = told_on place cell after told world in Q (log ++ done.0) done.1 → J (log ++ done.0) done.1
  pub joined : (log : List Entry) (world : World) (socket : WorldSocket) (place n : ℕ) (cell : Cell × ℕ) (steps : List Step) (host : HostState) → IsIn socket world → can_join socket ≡ true → IsHeldBy place n socket.o → IsCalled world place cell (sockets.Joined n) steps host → AllRead world → P log world → J log world
      → let done = done_at place cell steps host (joined_in socket world) in Q (log ++ entries.Joined socket.name ∷ done.0) done.1 → J (log ++ entries.Joined socket.name ∷ done.0) done.1
  pub came : (log : List Entry) (world : World) (socket : WorldSocket) (place : ℕ) (cell : Cell × ℕ) (steps : List Step) (host : HostState) → IsIn socket world → can_come socket ≡ true → socket.t.cell ≡ Some place → IsCalled world place cell (sockets.Came (2 * cell.1 + 1) socket.from_host) steps host → AllRead world → P log world → J log world
      → let done = done_at place (cell.0, cell.1 + 1) steps host (come_in place cell socket world) in Q (log ++ entries.Came socket.name ∷ done.0) done.1 → J (log ++ entries.Came socket.name ∷ done.0) done.1
  pub fed : (log : List Entry) (world : World) (socket : WorldSocket) (which : End) (count b : ℕ) (bytes : List ℕ) (place n : ℕ) (cell : Cell × ℕ) (steps : List Step) (host : HostState) → IsIn socket world → can_feed which socket ≡ true → take count (end_of which socket).unread ≡ b ∷ bytes → IsHeldBy place n (end_of which socket)
      → IsCalled world place cell (sockets.Fed n (b ∷ bytes)) steps host → AllRead world → P log world → J log world
      → let done = done_at place cell steps host (fed_in which count socket world) in Q (log ++ entries.Fed socket.name which (length (b ∷ bytes)) ∷ done.0) done.1 → J (log ++ entries.Fed socket.name which (length (b ∷ bytes)) ∷ done.0) done.1
  pub ended : (log : List Entry) (world : World) (socket : WorldSocket) (which : End) (place n : ℕ) (cell : Cell × ℕ) (steps : List Step) (host : HostState) (told : List LocalEntry) (after : Cell) → IsIn socket world → can_feed which socket ≡ true → (end_of which socket).unread ≡ [] → IsHeldBy place n (end_of which socket)
      → IsCalled world place cell (sockets.Ended n) steps host → steps_on steps (with_host cell host) ≡ Ok (told, after) → AllRead world → P log world → J log world
      → let done = told_on place cell after told world in Q (log ++ entries.Fed socket.name which 0 ∷ done.0) done.1 → J (log ++ entries.Fed socket.name which 0 ∷ done.0) done.1
  pub item : (log : List Entry) (world : World) (place : ℕ) (cell : Cell × ℕ) (steps : List Step) (host : HostState) (told : List LocalEntry) (after : Cell) → slice_get world.cells place ≡ Some cell → host_next cell.0.host ≡ Ok (Some steps, host) → steps_on steps (with_host cell host) ≡ Ok (told, after) → P log world → J log world
      → let done = told_on place cell after told world in Q (log ++ done.0) done.1 → J (log ++ done.0) done.1
