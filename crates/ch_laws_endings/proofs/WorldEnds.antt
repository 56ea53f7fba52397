-- What each line of a journal of many nodes tells of ends, in the journal's names.
use Rattle.std.proofs.Common.{◌≡◌, ℕ, ◌+◌, ◌*◌, Bool, true, false, cond, List, [], ◌∷◌, ◌++◌, length, take, drop, Ok, Err, refl, ap, subst}
use Rattle.std.specs.Option.{option_map}
use Rattle.std.specs.Prelude.{find, slice_get, Option, Some, None}
use Rattle.ch_ident.specs.declared.identifier.ProcessId.{ProcessId}
use Rattle.ch_static.specs.declared.command.Command.TheVariants as commands
use Rattle.ch_model.specs.declared.entry.Entry.{Entry}
use Rattle.ch_model.specs.declared.entry.Entry.TheVariants as entries
use Rattle.ch_model.specs.declared.entry.Verdict.TheVariants as verdicts
use Rattle.ch_model.specs.declared.line.What.{What}
use Rattle.ch_model.specs.declared.line.What.TheVariants as lines
use Rattle.ch_model.specs.declared.local.LocalEntry.{LocalEntry}
use Rattle.ch_model.specs.declared.local.LocalEntry.TheVariants as local
use Rattle.ch_model.specs.declared.local.LocalEvent.{LocalEvent}
use Rattle.ch_model.specs.declared.local.LocalEvent.TheVariants as events
use Rattle.ch_model.specs.declared.name.End.{End}
use Rattle.ch_model.specs.declared.name.End.TheVariants.{O, T}
use Rattle.ch_model.specs.declared.name.ProcName.{ProcName}
use Rattle.ch_model.specs.declared.name.SockName.{SockName}
use Rattle.ch_model.specs.declared.note.Note.{Note}
use Rattle.ch_model.specs.declared.note.Note.TheVariants as notes
use Rattle.ch_model.specs.declared.step.Place.{Place}
use Rattle.ch_model.specs.declared.step.SocketEvent.{SocketEvent}
use Rattle.ch_model.specs.declared.step.SocketEvent.TheVariants as sockets
use Rattle.ch_model.specs.declared.step.Step.{Step}
use Rattle.ch_model.specs.declared.step.Step.TheVariants as steps
use Rattle.ch_model.specs.Cell.{Celled, cell_step}
use Rattle.ch_model.specs.LifeRules.{unlabelled}
use Rattle.ch_model.specs.Naming.{Names, address_as, process_called, target_as}
use Rattle.ch_model.specs.WorldHappenings.{Answered, after_entry, with_cell, cell_told, cell_hears, end_hears, joins, comes_at, comes, hands, feeds, mark_of}
use Rattle.ch_model.specs.WorldLines.{node_hears, on_socket, can_join, can_come, can_feed, line_done}
use Rattle.ch_model.specs.WorldSockets.{end_of, other, opened, item_arrives, is_socket_named, with_end_of, find_end, cell_of}
use Rattle.ch_model.specs.WorldState.{Cell, Named, WorldEnd, WorldSocket, World}
use Rattle.ch_model.specs.WorldSteps.{note_entry, on_end, reads_item, end_closes, stepped, local_told, all_told}
use Rattle.ch_laws_many.specs.ManyLines.{is_of_many}
use Rattle.ch_laws_endings.specs.Causes.{spawned_by, HasCause}
use Rattle.ch_laws_endings.specs.Told.{AllCaused}
use Rattle.ch_laws_endings.proofs.CellEnds.{CelledCaused, cell_caused, TellsRest, CelledRest, end_rest}

-- ---- entries

-- the process that is made for a spawn by the entry
abbrev pub makes_for : Entry → Option ProcName
makes_for (entries.Made process (Some spawn) (Some label)) = Some process
makes_for entry = None

-- a process is over only if it is the one just made for a spawn, and for the reason of those whose label isn't known
abbrev pub Caused : Option ProcName → Entry → Type 0
Caused made (entries.Over process reason) = (made ≡ Some process) × (reason ≡ unlabelled)
Caused made entry = Unit {0}

abbrev pub AreCaused : Option ProcName → List Entry → Type 0
AreCaused made [] = Unit {0}
AreCaused made (entry ∷ rest) = Caused made entry × AreCaused (makes_for entry) rest

-- all but the first
abbrev pub RestCaused : List Entry → Type 0
RestCaused [] = Unit {0}
RestCaused (entry ∷ rest) = AreCaused (makes_for entry) rest

rest_of : (all : List Entry) → AreCaused None all → RestCaused all
rest_of [] c = tt
rest_of (entry ∷ rest) c = c.1

weaker_one : (made : Option ProcName) (entry : Entry) → Caused None entry → Caused made entry
weaker_one made (entries.Over process reason) c = let e : None ≡ Some process = c.0 in absurd cc
weaker_one made entry c = tt

weaker : (made : Option ProcName) (all : List Entry) → AreCaused None all → AreCaused made all
weaker made [] c = tt
weaker made (entry ∷ rest) c = (weaker_one made entry c.0, c.1)

both : (made : Option ProcName) (xs ys : List Entry) → AreCaused made xs → AreCaused None ys → AreCaused made (xs ++ ys)
both made [] ys a b = weaker made ys b
both made (x ∷ xs) ys a b = (a.0, both (makes_for x) xs ys a.1 b)

-- the name of a process that was made for a spawn, if any was
abbrev in_names : Names → Option ProcessId → Option ProcName
in_names known made = option_map (process_called known) made

note_caused : (known : Names) (last : Option Place) (made : Option ProcessId) (note : Note) → HasCause made note → Caused (in_names known made) (note_entry known last note)
note_caused known last made (notes.Over process reason) c = (ap (in_names known) c.0, c.1)
note_caused known last made (notes.Made process origin) c = tt
note_caused known last made note c = tt

note_makes : (known : Names) (last : Option Place) (note : Note) → in_names known (spawned_by note) ≡ makes_for (note_entry known last note)
note_makes known last (notes.Made process None) = refl
note_makes known last (notes.Made process (Some origin)) = refl
note_makes known last note = refl

end_caused : (place sock : ℕ) (f : SockName × End → World → List Entry × World) (world : World) → ((at : SockName × End) → AreCaused None (f at world).0) → AreCaused None (on_end place sock f world).0
end_caused place sock f world each = by_end (find_end place sock world.sockets) where
  by_end : (o : Option (SockName × End)) → AreCaused None (elim o as (λ o. List Entry × World) [
    | None ↦ ([], world)
    | Some at ↦ f at world
  ]).0
  by_end None = tt
  by_end (Some at) = each at

step_caused : (place : ℕ) (cell : Cell) (step : Step) (world : World) → AreCaused None (stepped place cell step world).0
step_caused place cell (steps.Dial sock end peer) world = (tt, tt)
step_caused place cell (steps.Read sock) world = end_caused place sock reads_item world (λ at. tt)
step_caused place cell (steps.Write sock bytes said) world = end_caused place sock (λ at now. (entries.Wrote at.0 at.1 bytes ∷ [], with_end_of at.0 (other at.1) (item_arrives bytes said) now)) world (λ at. (tt, tt))
step_caused place cell (steps.Up sock) world = end_caused place sock (λ at now. (entries.Up at.0 at.1 ∷ [], now)) world (λ at. (tt, tt))
step_caused place cell (steps.Down sock) world = end_caused place sock (λ at now. (entries.Down at.0 at.1 ∷ [], end_closes at now)) world (λ at. (tt, tt))
step_caused place cell (steps.Left sock) world = end_caused place sock (λ at now. (entries.Left at.0 at.1 ∷ [], end_closes at now)) world (λ at. (tt, tt))
step_caused place cell (steps.Broke end peer why) world = (tt, tt)
step_caused place cell (steps.Post end event) world = tt

all_caused : (place : ℕ) (cell : Cell) (made : Option ProcessId) (told : List LocalEntry) (world : World) → AllCaused made told → AreCaused (in_names world.names made) (all_told place cell told world).0
all_caused place cell made [] world c = tt
all_caused place cell made (local.Note note ∷ rest) world c = (
  note_caused world.names world.last made note c.0,
  subst (λ (m : Option ProcName). AreCaused m (all_told place cell rest (local_told place cell (local.Note note) world).1).0) (note_makes world.names world.last note) (all_caused place cell (spawned_by note) rest (local_told place cell (local.Note note) world).1 c.1),
)
all_caused place cell made (local.Step step ∷ rest) world c = weaker (in_names world.names made) ((stepped place cell step world).0 ++ (all_told place cell rest (stepped place cell step world).1).0)
    (both None (stepped place cell step world).0 (all_told place cell rest (stepped place cell step world).1).0 (step_caused place cell step world) (all_caused place cell None rest (stepped place cell step world).1 c))

all_rest : (place : ℕ) (cell : Cell) (told : List LocalEntry) (world : World) → TellsRest told → RestCaused (all_told place cell told world).0
all_rest place cell [] world c = tt
all_rest place cell (local.Note note ∷ rest) world c = subst (λ (m : Option ProcName). AreCaused m (all_told place cell rest (local_told place cell (local.Note note) world).1).0) (note_makes world.names world.last note) (all_caused place cell (spawned_by note) rest (local_told place cell (local.Note note) world).1 c)
all_rest place cell (local.Step step ∷ rest) world c = rest_of ((stepped place cell step world).0 ++ (all_told place cell rest (stepped place cell step world).1).0)
    (both None (stepped place cell step world).0 (all_told place cell rest (stepped place cell step world).1).0 (step_caused place cell step world) (all_caused place cell None rest (stepped place cell step world).1 c))

-- ---- what happens

abbrev pub AnsweredCaused : Answered → Type 0
AnsweredCaused (Ok done) = AreCaused None done.0.1
AnsweredCaused (Err stop) = Unit {0}

abbrev pub AnsweredRest : Answered → Type 0
AnsweredRest (Ok done) = RestCaused done.0.1
AnsweredRest (Err stop) = Unit {0}

told_caused : (place : ℕ) (cell : Cell × ℕ) (world : World) (done : Celled) → CelledCaused done → AnsweredCaused (cell_told place cell world done)
told_caused place cell world (Ok done) c = all_caused place done.1 None done.0.1 (with_cell place (done.1, cell.1) world) c
told_caused place cell world (Err stop) c = tt

told_rest : (place : ℕ) (cell : Cell × ℕ) (world : World) (done : Celled) → CelledRest done → AnsweredRest (cell_told place cell world done)
told_rest place cell world (Ok done) c = all_rest place done.1 done.0.1 (with_cell place (done.1, cell.1) world) c
told_rest place cell world (Err stop) c = tt

hears : (P : Answered → Type 0) (place : ℕ) (event : LocalEvent) (world : World) → P (Ok ((verdicts.Nothing, []), world)) → ((cell : Cell × ℕ) → P (cell_told place cell world (cell_step cell.0 event))) → P (cell_hears place event world)
hears P place event world none each = by_cell (slice_get world.cells place) where
  by_cell : (o : Option (Cell × ℕ)) → P (elim o as (λ o. Answered) [
    | None ↦ Ok ((verdicts.Nothing, []), world)
    | Some cell ↦ cell_told place cell world (cell_step cell.0 event)
  ])
  by_cell None = none
  by_cell (Some cell) = each cell

hears_caused : (place : ℕ) (event : LocalEvent) (world : World) → ((cell : Cell) → CelledCaused (cell_step cell event)) → AnsweredCaused (cell_hears place event world)
hears_caused place event world each = hears AnsweredCaused place event world tt (λ cell. told_caused place cell world (cell_step cell.0 event) (each cell.0))

hears_rest : (place : ℕ) (event : LocalEvent) (world : World) → ((cell : Cell) → CelledRest (cell_step cell event)) → AnsweredRest (cell_hears place event world)
hears_rest place event world each = hears AnsweredRest place event world tt (λ cell. told_rest place cell world (cell_step cell.0 event) (each cell.0))

end_hears_caused : (end : WorldEnd) (event : ℕ → SocketEvent) (world : World) → AnsweredCaused (end_hears end event world)
end_hears_caused end event world = by_cell end.cell end.number where
  by_cell : (o n : Option ℕ) → AnsweredCaused (elim o as (λ o. Answered) [
    | None ↦ Ok ((verdicts.Nothing, []), world)
    | Some place ↦ elim n [
      | None ↦ Ok ((verdicts.Nothing, []), world)
      | Some number ↦ cell_hears place (events.Socket (event number)) world
    ]
  ])
  by_cell None n = tt
  by_cell (Some place) None = tt
  by_cell (Some place) (Some number) = hears_caused place (events.Socket (event number)) world (λ cell. cell_caused cell (events.Socket (event number)) tt)

entry_caused : (entry : Entry) (done : Answered) → Caused None entry → makes_for entry ≡ None → AnsweredCaused done → AnsweredCaused (after_entry entry done)
entry_caused entry (Ok done) c m s = (c, weaker (makes_for entry) done.0.1 s)
entry_caused entry (Err stop) c m s = tt

comes_caused : (socket : WorldSocket) (world : World) → AnsweredCaused (comes socket world)
comes_caused socket world = by_place socket.t.cell where
  by_cell : (place : ℕ) (o : Option (Cell × ℕ)) → AnsweredCaused (elim o as (λ o. Answered) [
    | None ↦ Ok ((verdicts.Nothing, []), world)
    | Some cell ↦ cell_hears place (events.Came (mark_of socket.o) (2 * cell.1 + 1) socket.from_host)
        (with_end_of socket.name T (λ end. record (opened end) { number = Some (2 * cell.1 + 1) }) (with_cell place (cell.0, cell.1 + 1) world))
  ])
  by_cell place None = tt
  by_cell place (Some cell) = hears_caused place (events.Came (mark_of socket.o) (2 * cell.1 + 1) socket.from_host) (with_end_of socket.name T (λ end. record (opened end) { number = Some (2 * cell.1 + 1) }) (with_cell place (cell.0, cell.1 + 1) world))
      (λ c. cell_caused c (events.Came (mark_of socket.o) (2 * cell.1 + 1) socket.from_host) tt)

  by_place : (o : Option ℕ) → AnsweredCaused (elim o as (λ o. Answered) [
    | None ↦ Ok ((verdicts.Nothing, []), world)
    | Some place ↦ after_entry (entries.Came socket.name) (comes_at place socket world)
  ])
  by_place None = tt
  by_place (Some place) = entry_caused (entries.Came socket.name) (comes_at place socket world) tt refl (by_cell place (slice_get world.cells place))

hands_caused : (bytes : List ℕ) (end : WorldEnd) (world : World) → AnsweredCaused (hands bytes end world)
hands_caused [] end world = end_hears_caused end (λ sock. sockets.Ended sock) world
hands_caused (b ∷ bytes) end world = end_hears_caused end (λ sock. sockets.Fed sock (b ∷ bytes)) world

socket_caused : (sock : SockName) (test : WorldSocket → Bool) (f : WorldSocket → World → Answered) (world : World) → ((socket : WorldSocket) → AnsweredCaused (f socket world)) → AnsweredCaused (on_socket sock test f world)
socket_caused sock test f world each = by_socket (find (is_socket_named sock) world.sockets) where
  by_test : (s : WorldSocket) (b : Bool) → AnsweredCaused (cond b (f s world) (Ok ((verdicts.Nothing, []), world)))
  by_test s true = each s
  by_test s false = tt

  by_socket : (o : Option WorldSocket) → AnsweredCaused (elim o as (λ o. Answered) [
    | None ↦ Ok ((verdicts.Nothing, []), world)
    | Some socket ↦ cond (test socket) (f socket world) (Ok ((verdicts.Nothing, []), world))
  ])
  by_socket None = tt
  by_socket (Some s) = by_test s (test s)

named : (P : Answered → Type 0) (name : List ℕ) (event : ℕ → LocalEvent) (world : World) → P (Ok ((verdicts.Nothing, []), world)) → ((place end : ℕ) → P (cell_hears place (event end) world)) → P (node_hears name event world)
named P name event world none each = by_cell (cell_of world (address_as world.names name)) where
  by_cell : (o : Option ℕ) → P (elim o as (λ o. Answered) [
    | None ↦ Ok ((verdicts.Nothing, []), world)
    | Some place ↦ cell_hears place (event (address_as world.names name).id) world
  ])
  by_cell None = none
  by_cell (Some place) = each place (address_as world.names name).id

named_caused : (name : List ℕ) (event : ℕ → LocalEvent) (world : World) → ((end : ℕ) (cell : Cell) → CelledCaused (cell_step cell (event end))) → AnsweredCaused (node_hears name event world)
named_caused name event world each = named AnsweredCaused name event world tt (λ place end. hears_caused place (event end) world (each end))

-- ---- lines

-- a line by which no process ends: no end is told but of a process just made for a spawn; else that holds of all but the first
abbrev pub IsCaused : What → Answered → Type 0
IsCaused (lines.End by) done = AnsweredRest done
IsCaused what done = AnsweredCaused done

pub line_caused : (known : List Named) (what : What) (world : World) → is_of_many known what ≡ true → IsCaused what (line_done what world)
line_caused known (lines.Node name address unique) world of = tt
line_caused known (lines.Proc node) world of = named_caused node (λ end. events.Make end) world (λ end cell. cell_caused cell (events.Make end) tt)
line_caused known (lines.Send by to mark body) world of = named_caused by.node (λ end. events.Command end by.counter (commands.Send (target_as world.names to) (record { mark = mark; body = body }))) world (λ end cell. cell_caused cell (events.Command end by.counter (commands.Send (target_as world.names to) (record { mark = mark; body = body }))) tt)
line_caused known (lines.Recv by mark) world of = named_caused by.node (λ end. events.Command end by.counter (commands.Receive mark)) world (λ end cell. cell_caused cell (events.Command end by.counter (commands.Receive mark)) tt)
line_caused known (lines.End by) world of = named AnsweredRest by.node (λ end. events.Command end by.counter commands.End) world tt (λ place end. hears_rest place (events.Command end by.counter commands.End) world (end_rest end by.counter))
line_caused known (lines.Join sock) world of = socket_caused sock can_join joins world (λ s. entry_caused (entries.Joined s.name) (end_hears s.o (λ n. sockets.Joined n) (with_end_of s.name O opened world)) tt refl (end_hears_caused s.o (λ n. sockets.Joined n) (with_end_of s.name O opened world)))
line_caused known (lines.Come sock) world of = socket_caused sock can_come comes world (λ s. comes_caused s world)
line_caused known (lines.Feed sock end count) world of = socket_caused sock (can_feed end) (feeds end count) world (λ s. entry_caused (entries.Fed s.name end (length (take count (end_of end s).unread))) (hands (take count (end_of end s).unread) (end_of end s) (with_end_of s.name end (λ e. record e { unread = drop count e.unread }) world)) tt refl
    (hands_caused (take count (end_of end s).unread) (end_of end s) (with_end_of s.name end (λ e. record e { unread = drop count e.unread }) world)))
line_caused known what world of = absurd cc
