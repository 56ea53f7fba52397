-- What happens in a journal of many nodes, as calls of hosts, one after another: and what each of them keeps.
use Rattle.std.specs.Prelude.{◌≡◌, ◌+◌, ◌*◌, ℕ, true, List, [], ◌∷◌, ◌++◌, length, take, drop, find, slice_get, Some, None, Ok}
use Rattle.ch_base.specs.declared.address.Address.{Address}
use Rattle.ch_model.specs.declared.entry.Entry.{Entry}
use Rattle.ch_model.specs.declared.entry.Entry.TheVariants as entries
use Rattle.ch_model.specs.declared.entry.Verdict.{Verdict}
use Rattle.ch_model.specs.declared.line.Line.{Line}
use Rattle.ch_model.specs.declared.name.End.{End}
use Rattle.ch_model.specs.declared.name.End.TheVariants.{O, T}
use Rattle.ch_model.specs.declared.note.Note.{Note}
use Rattle.ch_model.specs.declared.step.SocketEvent.{SocketEvent}
use Rattle.ch_model.specs.declared.step.SocketEvent.TheVariants as sockets
use Rattle.ch_model.specs.declared.step.Step.{Step}
use Rattle.ch_model.specs.declared.step.Weight.{Weight}
use Rattle.ch_model.specs.CellSteps.{told_steps}
use Rattle.ch_model.specs.Host.{host_on, host_next, first_ready}
use Rattle.ch_model.specs.HostCalls.{host_connect, host_send, host_close}
use Rattle.ch_model.specs.HostState.{HostState}
use Rattle.ch_model.specs.NodeState.{NodeState}
use Rattle.ch_model.specs.WorldHappenings.{with_cell}
use Rattle.ch_model.specs.WorldLines.{can_join, can_come, can_feed}
use Rattle.ch_model.specs.WorldSockets.{end_of, opened, is_socket_named, with_end_of}
use Rattle.ch_model.specs.WorldState.{Cell, WorldEnd, WorldSocket, World}
use Rattle.ch_model.specs.WorldSteps.{note_entry, place_after, all_told}
use Rattle.ch_laws_items.specs.Stays.{seats_of}

-- what may be said of a log and the world after it
abbrev pub Claim : Type 1
Claim = List Entry → World → Type 0

-- nothing is said
abbrev pub Anything : Claim
Anything log world = Unit {0}

-- both are said
abbrev pub Both : Claim → Claim → Claim
Both P Q log world = P log world × Q log world

-- ---- a call

-- the cell with its host after a call
abbrev pub with_host : Cell × ℕ → HostState → Cell
with_host cell host = record (cell.0) { host = host }

-- what is told of a call, and the world after it: the cell is kept with its host after the call, and each step is done
abbrev pub done_at : ℕ → Cell × ℕ → List Step → HostState → World → List Entry × World
done_at place cell steps host world = all_told place (with_host cell host) (told_steps steps) (with_cell place (with_host cell host, cell.1) world)

-- the cell at this place is called, and its host makes these steps
pub record IsCalled (world : World) (place : ℕ) (cell : Cell × ℕ) (event : SocketEvent) (steps : List Step) (host : HostState) : Type 0 where
  pub at : slice_get world.cells place ≡ Some cell
  pub does : host_on cell.0.host event ≡ Ok (steps, host)

-- ---- what happens to a socket

-- an end is of the cell at this place, under this number
pub record IsHeldBy (place n : ℕ) (end : WorldEnd) : Type 0 where
  pub cell : end.cell ≡ Some place
  pub number : end.number ≡ Some n

-- the socket stands at its name in the world
abbrev pub IsIn : WorldSocket → World → Type 0
IsIn socket world = find (is_socket_named socket.name) world.sockets ≡ Some socket

-- no host of the world has a whole item to read
abbrev pub AllRead : World → Type 0
AllRead world = (place : ℕ) (cell : Cell × ℕ) → slice_get world.cells place ≡ Some cell → first_ready cell.0.host.sockets ≡ None

-- the world once the opener's end has joined, once the target's has come to the cell at a place, and once so many bytes were handed to an end
abbrev pub joined_in : WorldSocket → World → World
joined_in socket world = with_end_of socket.name O opened world

abbrev pub come_in : ℕ → Cell × ℕ → WorldSocket → World → World
come_in place cell socket world = with_end_of socket.name T (λ end. record (opened end) { number = Some (2 * cell.1 + 1) }) (with_cell place (cell.0, cell.1 + 1) world)

abbrev pub fed_in : End → ℕ → WorldSocket → World → World
fed_in which count socket world = with_end_of socket.name which (λ end. record end { unread = drop count end.unread }) world

-- ---- what is kept

-- Each thing that happens keeps J, where P holds before it and Q after it:
--   marked, noted: a line's answer and a node's note are told.   seated: nodes of a cell are others, in their seats.
--   connected, sent, closed: a host is called by an endpoint.
--   joined, came, fed, ended: an end is joined, has come, is handed bytes, or the end of its input.   item: a host reads an item.
pub record KeepsCalls (journal : List Line) (P Q J : Claim) : Type 0 where
  pub marked : (log : List Entry) (world : World) (number : ℕ) (answer : Verdict) → P log world → J log world
      → Q (log ++ entries.Line number answer ∷ []) world → J (log ++ entries.Line number answer ∷ []) world
  pub noted : (log : List Entry) (world : World) (note : Note) → P log world → J log world
      → let after = record world { last = place_after world.last note } in Q (log ++ note_entry world.names world.last note ∷ []) after → J (log ++ note_entry world.names world.last note ∷ []) after
  pub seated : (log : List Entry) (world : World) (place : ℕ) (cell : Cell × ℕ) (nodes : List (ℕ × NodeState)) → slice_get world.cells place ≡ Some cell → seats_of nodes ≡ seats_of (cell.0).nodes → P log world → J log world
      → let after = with_cell place (record (cell.0) { nodes = nodes }, cell.1) world in Q log after → J log after
  pub connected : (log : List Entry) (world : World) (place : ℕ) (cell : Cell × ℕ) (end : ℕ) (peer : Address) (conn : ℕ) (steps : List Step) (host : HostState) → slice_get world.cells place ≡ Some cell → host_connect cell.0.host end peer conn ≡ Ok (steps, host) → P log world → J log world
      → let done = done_at place cell steps host world in Q (log ++ done.0) done.1 → J (log ++ done.0) done.1
  pub sent : (log : List Entry) (world : World) (place : ℕ) (cell : Cell × ℕ) (end conn : ℕ) (payload : List ℕ) (weight : Weight) (steps : List Step) (host : HostState) → slice_get world.cells place ≡ Some cell → host_send cell.0.host end conn payload weight ≡ Ok (steps, host) → P log world → J log world
      → let done = done_at place cell steps host world in Q (log ++ done.0) done.1 → J (log ++ done.0) done.1
  pub closed : (log : List Entry) (world : World) (place : ℕ) (cell : Cell × ℕ) (end conn : ℕ) (steps : List Step) (host : HostState) → slice_get world.cells place ≡ Some cell → host_close cell.0.host end conn ≡ Ok (steps, host) → P log world → J log world
      → let done = done_at place cell steps host world in Q (log ++ done.0) done.1 → J (log ++ done.0) done.1
  pub joined : (log : List Entry) (world : World) (socket : WorldSocket) (place n : ℕ) (cell : Cell × ℕ) (steps : List Step) (host : HostState) → IsIn socket world → can_join socket ≡ true → IsHeldBy place n socket.o → IsCalled world place cell (sockets.Joined n) steps host → AllRead world → P log world → J log world
      → let done = done_at place cell steps host (joined_in socket world) in Q (log ++ entries.Joined socket.name ∷ done.0) done.1 → J (log ++ entries.Joined socket.name ∷ done.0) done.1
  pub came : (log : List Entry) (world : World) (socket : WorldSocket) (place : ℕ) (cell : Cell × ℕ) (steps : List Step) (host : HostState) → IsIn socket world → can_come socket ≡ true → socket.t.cell ≡ Some place → IsCalled world place cell (sockets.Came (2 * cell.1 + 1) socket.from_host) steps host → AllRead world → P log world → J log world
      → let done = done_at place (cell.0, cell.1 + 1) steps host (come_in place cell socket world) in Q (log ++ entries.Came socket.name ∷ done.0) done.1 → J (log ++ entries.Came socket.name ∷ done.0) done.1
  pub fed : (log : List Entry) (world : World) (socket : WorldSocket) (which : End) (count b : ℕ) (bytes : List ℕ) (place n : ℕ) (cell : Cell × ℕ) (steps : List Step) (host : HostState) → IsIn socket world → can_feed which socket ≡ true → take count (end_of which socket).unread ≡ b ∷ bytes → IsHeldBy place n (end_of which socket)
      → IsCalled world place cell (sockets.Fed n (b ∷ bytes)) steps host → AllRead world → P log world → J log world
      → let done = done_at place cell steps host (fed_in which count socket world) in Q (log ++ entries.Fed socket.name which (length (b ∷ bytes)) ∷ done.0) done.1 → J (log ++ entries.Fed socket.name which (length (b ∷ bytes)) ∷ done.0) done.1
  pub ended : (log : List Entry) (world : World) (socket : WorldSocket) (which : End) (place n : ℕ) (cell : Cell × ℕ) (steps : List Step) (host : HostState) → IsIn socket world → can_feed which socket ≡ true → (end_of which socket).unread ≡ [] → IsHeldBy place n (end_of which socket)
      → IsCalled world place cell (sockets.Ended n) steps host → AllRead world → P log world → J log world
      → let done = done_at place cell steps host world in Q (log ++ entries.Fed socket.name which 0 ∷ done.0) done.1 → J (log ++ entries.Fed socket.name which 0 ∷ done.0) done.1
  pub item : (log : List Entry) (world : World) (place : ℕ) (cell : Cell × ℕ) (steps : List Step) (host : HostState) → slice_get world.cells place ≡ Some cell → host_next cell.0.host ≡ Ok (Some steps, host) → P log world → J log world
      → let done = done_at place cell steps host world in Q (log ++ done.0) done.1 → J (log ++ done.0) done.1
