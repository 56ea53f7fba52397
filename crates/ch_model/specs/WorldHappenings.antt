-- What the network does to a socket or a timer, with all that follows: the same by a line as in settling.
use Rattle.std.specs.Prelude.{ℕ, ◌+◌, ◌*◌, ◌/◌, List, [], ◌∷◌, length, take, drop, Some, None, Result, Ok, Err, slice_get, slice_set}
use Rattle.ch_base.specs.declared.memory.Stop.{Stop}
use Rattle.ch_model.specs.declared.entry.Entry.{Entry}
use Rattle.ch_model.specs.declared.entry.Entry.TheVariants as entries
use Rattle.ch_model.specs.declared.entry.Verdict.{Verdict}
use Rattle.ch_model.specs.declared.entry.Verdict.TheVariants as verdicts
use Rattle.ch_model.specs.declared.local.LocalEvent.{LocalEvent}
use Rattle.ch_model.specs.declared.local.LocalEvent.TheVariants as events
use Rattle.ch_model.specs.declared.name.End.{End}
use Rattle.ch_model.specs.declared.name.End.TheVariants.{O, T}
use Rattle.ch_model.specs.declared.step.SocketEvent.{SocketEvent}
use Rattle.ch_model.specs.declared.step.SocketEvent.TheVariants as sockets
use Rattle.ch_model.specs.WorldState.{Cell, WorldEnd, WorldSocket, World}
use Rattle.ch_model.specs.Cell.{Celled, cell_step}
use Rattle.ch_model.specs.Naming.{named_as}
use Rattle.ch_model.specs.WorldSockets.{end_of, opened, with_end_of, cell_of}
use Rattle.ch_model.specs.WorldSteps.{all_told}

-- the answer, the entries of what followed, and the world after it; or a count stands at its type's last value
abbrev pub Answered : Type 0
Answered = Result ((Verdict × List Entry) × World) Stop

-- an answer after which nothing follows
abbrev pub answers : Verdict → World → Answered
answers verdict world = Ok ((verdict, []), world)

-- nothing could happen
abbrev pub nothing : World → Answered
nothing world = answers verdicts.Nothing world

-- an entry of the world's own, and nothing more
abbrev pub tells : Entry → World → Answered
tells entry world = Ok ((verdicts.Ok, entry ∷ []), world)

-- an entry of the world's own before what followed
abbrev pub after_entry : Entry → Answered → Answered
after_entry entry (Ok done) = Ok ((done.0.0, entry ∷ done.0.1), done.1)
after_entry entry (Err stop) = Err stop

-- ---- events of a cell

-- the world with a cell kept in its place
abbrev pub with_cell : ℕ → Cell × ℕ → World → World
with_cell place cell world = record world { cells = slice_set world.cells place cell }

-- what a cell made of an event, told in the journal's names
abbrev pub cell_told : ℕ → Cell × ℕ → World → Celled → Answered
cell_told place cell world (Err stop) = Err stop
cell_told place cell world (Ok done) =
    let told = all_told place done.1 done.0.1 (with_cell place (done.1, cell.1) world) in
    Ok ((done.0.0, told.0), told.1)

-- the cell at a place hears an event
abbrev pub cell_hears : ℕ → LocalEvent → World → Answered
cell_hears place event world = elim (slice_get world.cells place) [
  | None ↦ nothing world
  | Some cell ↦ cell_told place cell world (cell_step cell.0 event)
]

-- the host of an end hears an event, under its number for the socket
abbrev pub end_hears : WorldEnd → (ℕ → SocketEvent) → World → Answered
end_hears end event world = elim end.cell [
  | None ↦ nothing world
  | Some place ↦ elim end.number [
    | None ↦ nothing world
    | Some number ↦ cell_hears place (events.Socket (event number)) world
  ]
]

-- ---- happenings

-- the opener's end is joined
abbrev pub joins : WorldSocket → World → Answered
joins socket world = after_entry (entries.Joined socket.name) (end_hears socket.o (λ sock. sockets.Joined sock) (with_end_of socket.name O opened world))

-- the dial has failed
abbrev pub refuses : WorldSocket → World → Answered
refuses socket world = after_entry (entries.Refused socket.name) (end_hears socket.o (λ sock. sockets.Refused sock) world)

-- the mark that an opener sends ahead of its socket: the place of its host times 2^32 plus the number of its dial from 1 on; 0 for a stranger's
abbrev pub mark_of : WorldEnd → ℕ
mark_of end = elim end.cell [
  | None ↦ 0
  | Some place ↦ elim end.number [
    | None ↦ 0
    | Some number ↦ 4294967296 * place + number / 2 + 1
  ]
]

-- the target's end has come: its host's k-th accepted socket, from 0, has the number 2k + 1
abbrev pub comes_at : ℕ → WorldSocket → World → Answered
comes_at place socket world = elim (slice_get world.cells place) [
  | None ↦ nothing world
  | Some cell ↦ cell_hears place (events.Came (mark_of socket.o) (2 * cell.1 + 1) socket.from_host)
      (with_end_of socket.name T (λ end. record (opened end) { number = Some (2 * cell.1 + 1) }) (with_cell place (cell.0, cell.1 + 1) world))
]

-- the target's end has come
abbrev pub comes : WorldSocket → World → Answered
comes socket world = elim socket.t.cell [
  | None ↦ nothing world
  | Some place ↦ after_entry (entries.Came socket.name) (comes_at place socket world)
]

-- bytes are handed to an end, or the end of its input where there are none
abbrev pub hands : List ℕ → WorldEnd → World → Answered
hands [] end world = end_hears end (λ sock. sockets.Ended sock) world
hands (b ∷ bytes) end world = end_hears end (λ sock. sockets.Fed sock (b ∷ bytes)) world

-- at most so many unread bytes are handed to an end
abbrev pub feeds : End → ℕ → WorldSocket → World → Answered
feeds which count socket world =
    let bytes = take count (end_of which socket).unread in
    after_entry (entries.Fed socket.name which (length bytes))
    (hands bytes (end_of which socket) (with_end_of socket.name which (λ end. record end { unread = drop count end.unread }) world))

-- an end loses its socket
abbrev pub loses : End → WorldSocket → World → Answered
loses which socket world = after_entry (entries.Lost socket.name which) (end_hears (end_of which socket) (λ sock. sockets.Lost sock) world)

-- the timer of a node for a peer is due
abbrev pub times_out : List ℕ → List ℕ → World → Answered
times_out node peer world =
    let own = (named_as world.names node).address in
    elim (cell_of world own) [
      | None ↦ nothing world
      | Some place ↦ after_entry (entries.Timed node peer) (cell_hears place (events.Socket (sockets.Late own.id (named_as world.names peer).address)) world)
    ]
