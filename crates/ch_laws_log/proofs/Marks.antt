-- What a line's entries are marked with: no step, no note and no happening is told as a mark.
use Rattle.std.proofs.Common.{◌≡◌, ℕ, zero, suc, ◌+◌, ◌*◌, Bool, true, false, cond, List, [], ◌∷◌, ◌++◌, length, Ok, Err, refl, sym, ap, ◌∙◌, subst}
use Rattle.std.proofs.lemmas.List.Elements.{filter_map-append}
use Rattle.std.proofs.lemmas.Slice.Eq.{bytes_eq-Decides}
use Rattle.std.specs.Prelude.{filter_map, find, take, is_some, slice_get, Option, Some, None, IsTrue}
use Rattle.ch_static.specs.declared.command.Command.{Command}
use Rattle.ch_model.specs.declared.entry.Entry.{Entry}
use Rattle.ch_model.specs.declared.entry.Entry.TheVariants as entries
use Rattle.ch_model.specs.declared.entry.Verdict.TheVariants as verdicts
use Rattle.ch_model.specs.declared.line.Line.{Line}
use Rattle.ch_model.specs.declared.line.What.{What}
use Rattle.ch_model.specs.declared.line.What.TheVariants as lines
use Rattle.ch_model.specs.declared.local.LocalEntry.{LocalEntry}
use Rattle.ch_model.specs.declared.local.LocalEntry.TheVariants as local
use Rattle.ch_model.specs.declared.local.LocalEvent.{LocalEvent}
use Rattle.ch_model.specs.declared.local.LocalEvent.TheVariants as events
use Rattle.ch_model.specs.declared.name.End.{End}
use Rattle.ch_model.specs.declared.name.End.TheVariants.{O, T}
use Rattle.ch_model.specs.declared.name.ProcName.{ProcName}
use Rattle.ch_model.specs.declared.name.SockName.{SockName}
use Rattle.ch_model.specs.declared.note.Note.{Note}
use Rattle.ch_model.specs.declared.note.Note.TheVariants as notes
use Rattle.ch_model.specs.declared.step.Place.{Place}
use Rattle.ch_model.specs.declared.step.SocketEvent.{SocketEvent}
use Rattle.ch_model.specs.declared.step.SocketEvent.TheVariants as sockets
use Rattle.ch_model.specs.declared.step.Step.{Step}
use Rattle.ch_model.specs.declared.step.Step.TheVariants as steps
use Rattle.ch_model.specs.HasAnswers.{event_number, mark_number, marks_all}
use Rattle.ch_model.specs.Naming.{Names, address_as, named_as}
use Rattle.ch_model.specs.Settle.{Happened, Visit, Pass, happened, opens, visits, after_happened, then_happens, timer_due, timers_due, some_timer_runs, next_visit, see, before_rest, settled_in, settles, from_start, weight_of, after_visit}
use Rattle.ch_model.specs.Stages.{Stage, Pending, Open, Ended}
use Rattle.ch_model.specs.Timers.{timer_runs_for, all_links}
use Rattle.ch_model.specs.Cell.{Celled, cell_step}
use Rattle.ch_model.specs.World.{◌>>=◌, event_step, world_step, world_new, line_answered, line_settled, log_from, log_of}
use Rattle.ch_model.specs.WorldHappenings.{Answered, after_entry, cell_told, cell_hears, end_hears, with_cell, joins, refuses, comes_at, comes, hands, feeds, loses, times_out, mark_of}
use Rattle.ch_model.specs.WorldLines.{command_as, node_hears, on_socket, can_join, can_come, can_refuse, can_feed, can_cut, is_at_work, cuts, is_strangers, pokes, quits, other_line, line_done}
use Rattle.ch_model.specs.WorldSockets.{end_of, other, find_end, is_socket_named, cell_of, opened, item_arrives, with_end_of}
use Rattle.ch_model.specs.WorldState.{Cell, WorldEnd, WorldSocket, World}
use Rattle.ch_model.specs.WorldSteps.{note_entry, on_end, reads_item, end_closes, stepped, local_told, all_told}

-- no entry is a mark
abbrev pub Unmarked : List Entry → Type 0
Unmarked told = filter_map mark_number told ≡ []

abbrev pub AnsweredUnmarked : Answered → Type 0
AnsweredUnmarked (Ok done) = Unmarked done.0.1
AnsweredUnmarked (Err stop) = Unit {0}

abbrev pub HappenedUnmarked : Happened → Type 0
HappenedUnmarked (Ok done) = Unmarked done.0
HappenedUnmarked (Err stop) = Unit {0}

pub both : (xs ys : List Entry) → Unmarked xs → Unmarked ys → Unmarked (xs ++ ys)
both xs ys a b = filter_map-append mark_number xs ys ∙ ap (λ l. l ++ filter_map mark_number ys) a ∙ b

-- ---- what followed at a cell

note_unmarked : (known : Names) (last : Option Place) (note : Note) → Unmarked (note_entry known last note ∷ [])
note_unmarked known last (notes.Made process origin) = refl
note_unmarked known last note = refl

on_end_unmarked : (place sock : ℕ) (f : SockName × End → World → List Entry × World) (world : World) → ((at : SockName × End) → Unmarked (f at world).0) → Unmarked (on_end place sock f world).0
on_end_unmarked place sock f world each = by_end (find_end place sock world.sockets) where
  by_end : (o : Option (SockName × End)) → Unmarked (elim o as (λ o. List Entry × World) [
    | None ↦ ([], world)
    | Some at ↦ f at world
  ]).0
  by_end None = refl
  by_end (Some at) = each at

step_unmarked : (place : ℕ) (cell : Cell) (step : Step) (world : World) → Unmarked (stepped place cell step world).0
step_unmarked place cell (steps.Dial sock end peer) world = refl
step_unmarked place cell (steps.Read sock) world = on_end_unmarked place sock reads_item world (λ at. refl)
step_unmarked place cell (steps.Write sock bytes said) world = on_end_unmarked place sock (λ at now. (entries.Wrote at.0 at.1 bytes ∷ [], with_end_of at.0 (other at.1) (item_arrives bytes said) now)) world (λ at. refl)
step_unmarked place cell (steps.Up sock) world = on_end_unmarked place sock (λ at now. (entries.Up at.0 at.1 ∷ [], now)) world (λ at. refl)
step_unmarked place cell (steps.Down sock) world = on_end_unmarked place sock (λ at now. (entries.Down at.0 at.1 ∷ [], end_closes at now)) world (λ at. refl)
step_unmarked place cell (steps.Left sock) world = on_end_unmarked place sock (λ at now. (entries.Left at.0 at.1 ∷ [], end_closes at now)) world (λ at. refl)
step_unmarked place cell (steps.Broke end peer why) world = refl
step_unmarked place cell (steps.Post end event) world = refl

local_unmarked : (place : ℕ) (cell : Cell) (entry : LocalEntry) (world : World) → Unmarked (local_told place cell entry world).0
local_unmarked place cell (local.Step step) world = step_unmarked place cell step world
local_unmarked place cell (local.Note note) world = note_unmarked world.names world.last note

told_unmarked : (place : ℕ) (cell : Cell) (told : List LocalEntry) (world : World) → Unmarked (all_told place cell told world).0
told_unmarked place cell [] world = refl
told_unmarked place cell (entry ∷ rest) world =
    both (local_told place cell entry world).0 (all_told place cell rest (local_told place cell entry world).1).0
    (local_unmarked place cell entry world) (told_unmarked place cell rest (local_told place cell entry world).1)

cell_unmarked : (place : ℕ) (cell : Cell × ℕ) (world : World) (done : Celled) → AnsweredUnmarked (cell_told place cell world done)
cell_unmarked place cell world (Err stop) = tt
cell_unmarked place cell world (Ok done) = told_unmarked place done.1 done.0.1 (with_cell place (done.1, cell.1) world)

pub hears_unmarked : (place : ℕ) (event : LocalEvent) (world : World) → AnsweredUnmarked (cell_hears place event world)
hears_unmarked place event world = by_cell (slice_get world.cells place) where
  by_cell : (o : Option (Cell × ℕ)) → AnsweredUnmarked (elim o as (λ o. Answered) [
    | None ↦ Ok ((verdicts.Nothing, []), world)
    | Some cell ↦ cell_told place cell world (cell_step cell.0 event)
  ])
  by_cell None = refl
  by_cell (Some cell) = cell_unmarked place cell world (cell_step cell.0 event)

end_unmarked : (end : WorldEnd) (event : ℕ → SocketEvent) (world : World) → AnsweredUnmarked (end_hears end event world)
end_unmarked end event world = by_cell end.cell end.number where
  by_cell : (o n : Option ℕ) → AnsweredUnmarked (elim o as (λ o. Answered) [
    | None ↦ Ok ((verdicts.Nothing, []), world)
    | Some place ↦ elim n [
      | None ↦ Ok ((verdicts.Nothing, []), world)
      | Some number ↦ cell_hears place (events.Socket (event number)) world
    ]
  ])
  by_cell None n = refl
  by_cell (Some place) None = refl
  by_cell (Some place) (Some number) = hears_unmarked place (events.Socket (event number)) world

-- ---- happenings

entry_unmarked : (entry : Entry) (done : Answered) → Unmarked (entry ∷ []) → AnsweredUnmarked done → AnsweredUnmarked (after_entry entry done)
entry_unmarked entry (Ok done) a b = both (entry ∷ []) done.0.1 a b
entry_unmarked entry (Err stop) a b = tt

joins_unmarked : (socket : WorldSocket) (world : World) → AnsweredUnmarked (joins socket world)
joins_unmarked socket world = entry_unmarked _ _ refl (end_unmarked socket.o _ _)

refuses_unmarked : (socket : WorldSocket) (world : World) → AnsweredUnmarked (refuses socket world)
refuses_unmarked socket world = entry_unmarked _ _ refl (end_unmarked socket.o _ _)

comes_at_unmarked : (place : ℕ) (socket : WorldSocket) (world : World) → AnsweredUnmarked (comes_at place socket world)
comes_at_unmarked place socket world = by_cell (slice_get world.cells place) where
  by_cell : (o : Option (Cell × ℕ)) → AnsweredUnmarked (elim o as (λ o. Answered) [
    | None ↦ Ok ((verdicts.Nothing, []), world)
    | Some cell ↦ cell_hears place (events.Came (mark_of socket.o) (2 * cell.1 + 1) socket.from_host)
        (with_end_of socket.name T (λ end. record (opened end) { number = Some (2 * cell.1 + 1) }) (with_cell place (cell.0, cell.1 + 1) world))
  ])
  by_cell None = refl
  by_cell (Some cell) = hears_unmarked place (events.Came (mark_of socket.o) (2 * cell.1 + 1) socket.from_host) (with_end_of socket.name T (λ end. record (opened end) { number = Some (2 * cell.1 + 1) }) (with_cell place (cell.0, cell.1 + 1) world))

comes_unmarked : (socket : WorldSocket) (world : World) → AnsweredUnmarked (comes socket world)
comes_unmarked socket world = by_cell socket.t.cell where
  by_cell : (o : Option ℕ) → AnsweredUnmarked (elim o as (λ o. Answered) [
    | None ↦ Ok ((verdicts.Nothing, []), world)
    | Some place ↦ after_entry (entries.Came socket.name) (comes_at place socket world)
  ])
  by_cell None = refl
  by_cell (Some place) = entry_unmarked (entries.Came socket.name) (comes_at place socket world) refl (comes_at_unmarked place socket world)

hands_unmarked : (bytes : List ℕ) (end : WorldEnd) (world : World) → AnsweredUnmarked (hands bytes end world)
hands_unmarked [] end world = end_unmarked end _ world
hands_unmarked (b ∷ bytes) end world = end_unmarked end _ world

feeds_unmarked : (which : End) (count : ℕ) (socket : WorldSocket) (world : World) → AnsweredUnmarked (feeds which count socket world)
feeds_unmarked which count socket world = entry_unmarked _ _ refl (hands_unmarked (take count (end_of which socket).unread) _ _)

loses_unmarked : (which : End) (socket : WorldSocket) (world : World) → AnsweredUnmarked (loses which socket world)
loses_unmarked which socket world = entry_unmarked _ _ refl (end_unmarked (end_of which socket) _ world)

times_unmarked : (node peer : List ℕ) (world : World) → AnsweredUnmarked (times_out node peer world)
times_unmarked node peer world = by_cell (cell_of world (named_as world.names node).address) where
  late_event : LocalEvent
  late_event = events.Socket (sockets.Late (named_as world.names node).address.id (named_as world.names peer).address)

  by_cell : (o : Option ℕ) → AnsweredUnmarked (elim o as (λ o. Answered) [
    | None ↦ Ok ((verdicts.Nothing, []), world)
    | Some place ↦ after_entry (entries.Timed node peer) (cell_hears place (events.Socket (sockets.Late (named_as world.names node).address.id (named_as world.names peer).address)) world)
  ])
  by_cell None = refl
  by_cell (Some place) = entry_unmarked (entries.Timed node peer) (cell_hears place late_event world) refl (hears_unmarked place late_event world)

-- ---- settling

happened_unmarked : (done : Answered) → AnsweredUnmarked done → HappenedUnmarked (happened done)
happened_unmarked (Ok done) a = a
happened_unmarked (Err stop) a = tt

after_unmarked : (told : List Entry) (more : Happened) → Unmarked told → HappenedUnmarked more → HappenedUnmarked (after_happened told more)
after_unmarked told (Ok more) a b = both told more.0 a b
after_unmarked told (Err stop) a b = tt

opens_unmarked : (which : End) (socket : WorldSocket) (world : World) → AnsweredUnmarked (opens which socket world)
opens_unmarked T socket world = comes_unmarked socket world
opens_unmarked O socket world = by_host (is_some socket.t.cell) where
  by_host : (b : Bool) → AnsweredUnmarked (cond b (joins socket world) (refuses socket world))
  by_host true = joins_unmarked socket world
  by_host false = refuses_unmarked socket world

visits_unmarked : (which : End) (socket : WorldSocket) (world : World) → AnsweredUnmarked (visits which socket world)
visits_unmarked which socket world = by_stage (end_of which socket).stage where
  by_stage : (stage : Stage) → AnsweredUnmarked (elim stage as (λ s. Answered) [
    | Pending ↦ opens which socket world
    | Open ↦ feeds which (length (end_of which socket).unread) socket world
    | Ended ↦ feeds which 0 socket world
  ])
  by_stage Pending = opens_unmarked which socket world
  by_stage Open = feeds_unmarked which (length (end_of which socket).unread) socket world
  by_stage Ended = feeds_unmarked which 0 socket world

timer_unmarked : (link : List ℕ × List ℕ) (world : World) → HappenedUnmarked (timer_due link world)
timer_unmarked link world = by_test (timer_runs_for world link.0 link.1) where
  by_test : (b : Bool) → HappenedUnmarked (cond b (happened (times_out link.0 link.1 world)) (Ok ([], world)))
  by_test true = happened_unmarked _ (times_unmarked link.0 link.1 world)
  by_test false = refl

then_unmarked : (one : Happened) (f : World → Happened) → HappenedUnmarked one → ((w : World) → HappenedUnmarked (f w)) → HappenedUnmarked (then_happens one f)
then_unmarked (Ok done) f a b = after_unmarked done.0 (f done.1) a (b done.1)
then_unmarked (Err stop) f a b = tt

timers_unmarked : (links : List (List ℕ × List ℕ)) (world : World) → HappenedUnmarked (timers_due links world)
timers_unmarked [] world = refl
timers_unmarked (link ∷ rest) world = then_unmarked (timer_due link world) (timers_due rest) (timer_unmarked link world) (timers_unmarked rest)

-- one thing that is left to happen
abbrev SeenUnmarked : Option (Happened × Pass) → Type 0
SeenUnmarked None = Unit {0}
SeenUnmarked (Some seen) = HappenedUnmarked seen.0

see_unmarked : (pass : Pass) (world : World) → SeenUnmarked (see pass world)
see_unmarked pass world = by_visit (next_visit pass world) where
  by_test : (b : Bool) → SeenUnmarked (cond b (Some (timers_due (all_links world) world, from_start)) None)
  by_test true = timers_unmarked (all_links world) world
  by_test false = tt

  by_visit : (o : Option Visit) → SeenUnmarked (elim o as (λ o. Option (Happened × Pass)) [
    | Some visit ↦ Some (happened (visits visit.which visit.socket world), after_visit visit)
    | None ↦ cond (some_timer_runs world) (Some (timers_due (all_links world) world, from_start)) None
  ])
  by_visit None = by_test (some_timer_runs world)
  by_visit (Some visit) = happened_unmarked _ (visits_unmarked visit.which visit.socket world)

abbrev pub SettledUnmarked : Option Happened → Type 0
SettledUnmarked None = Unit {0}
SettledUnmarked (Some done) = HappenedUnmarked done

rest_unmarked : (told : List Entry) (more : Option Happened) → Unmarked told → SettledUnmarked more → SettledUnmarked (before_rest told more)
rest_unmarked told None a b = tt
rest_unmarked told (Some more) a b = after_unmarked told more a b

pub settled_unmarked : (fuel : ℕ) (pass : Pass) (world : World) → SettledUnmarked (settled_in fuel pass world)
settled_unmarked zero pass world = by_seen (see pass world) where
  by_seen : (o : Option (Happened × Pass)) → SettledUnmarked (elim o as (λ o. Option Happened) [
    | None ↦ Some (Ok ([], world))
    | Some done ↦ None
  ])
  by_seen None = refl
  by_seen (Some done) = tt
settled_unmarked (suc fuel) pass world = by_seen (see pass world) (see_unmarked pass world) (settled_unmarked fuel) where
  by_done : (p : Pass) (one : Happened) → HappenedUnmarked one → ((p : Pass) (w : World) → SettledUnmarked (settled_in fuel p w)) → SettledUnmarked (elim one as (λ o. Option Happened) [
    | Err stop ↦ Some (Err stop)
    | Ok one ↦ before_rest one.0 (settled_in fuel p one.1)
  ])
  by_done p (Err stop) a more = tt
  by_done p (Ok one) a more = rest_unmarked one.0 (settled_in fuel p one.1) a (more p one.1)

  by_seen : (o : Option (Happened × Pass)) → SeenUnmarked o → ((p : Pass) (w : World) → SettledUnmarked (settled_in fuel p w)) → SettledUnmarked (elim o as (λ o. Option Happened) [
    | None ↦ Some (Ok ([], world))
    | Some done ↦ elim done.0 [
      | Err stop ↦ Some (Err stop)
      | Ok one ↦ before_rest one.0 (settled_in fuel done.1 one.1)
    ]
  ])
  by_seen None a more = refl
  by_seen (Some done) a more = by_done done.1 done.0 a more

-- ---- lines

hearing_unmarked : (name : List ℕ) (event : ℕ → LocalEvent) (world : World) → AnsweredUnmarked (node_hears name event world)
hearing_unmarked name event world = by_cell (cell_of world (address_as world.names name)) where
  by_cell : (o : Option ℕ) → AnsweredUnmarked (elim o as (λ o. Answered) [
    | None ↦ Ok ((verdicts.Nothing, []), world)
    | Some place ↦ cell_hears place (event (address_as world.names name).id) world
  ])
  by_cell None = refl
  by_cell (Some place) = hears_unmarked place (event (address_as world.names name).id) world

socket_unmarked : (sock : SockName) (test : WorldSocket → Bool) (f : WorldSocket → World → Answered) (world : World) → ((s : WorldSocket) (w : World) → AnsweredUnmarked (f s w)) → AnsweredUnmarked (on_socket sock test f world)
socket_unmarked sock test f world each = by_socket (find (is_socket_named sock) world.sockets) where
  by_test : (s : WorldSocket) (b : Bool) → AnsweredUnmarked (cond b (f s world) (Ok ((verdicts.Nothing, []), world)))
  by_test s true = each s world
  by_test s false = refl

  by_socket : (o : Option WorldSocket) → AnsweredUnmarked (elim o as (λ o. Answered) [
    | None ↦ Ok ((verdicts.Nothing, []), world)
    | Some socket ↦ cond (test socket) (f socket world) (Ok ((verdicts.Nothing, []), world))
  ])
  by_socket None = refl
  by_socket (Some s) = by_test s (test s)

late_unmarked : (node peer : List ℕ) (world : World) (b : Bool) → AnsweredUnmarked (cond b (times_out node peer world) (Ok ((verdicts.Nothing, []), world)))
late_unmarked node peer world true = times_unmarked node peer world
late_unmarked node peer world false = refl

other_unmarked : (what : What) (world : World) → AnsweredUnmarked (other_line what world)
other_unmarked (lines.Proc node) world = hearing_unmarked node (λ end. events.Make end) world
other_unmarked (lines.Shut node) world = hearing_unmarked node (λ end. events.Shut end) world
other_unmarked (lines.Join sock) world = socket_unmarked sock can_join joins world joins_unmarked
other_unmarked (lines.Come sock) world = socket_unmarked sock can_come comes world comes_unmarked
other_unmarked (lines.Refuse sock) world = socket_unmarked sock can_refuse refuses world refuses_unmarked
other_unmarked (lines.Feed sock end count) world = socket_unmarked sock (can_feed end) (feeds end count) world (feeds_unmarked end count)
other_unmarked (lines.Cut sock end) world = socket_unmarked sock (can_cut end) (cuts end) world (λ s w. refl)
other_unmarked (lines.Lose sock end) world = socket_unmarked sock (is_at_work end) (loses end) world (loses_unmarked end)
other_unmarked (lines.Late node peer) world = late_unmarked node peer world (timer_runs_for world node peer)
other_unmarked (lines.Knock stranger node) world = refl
other_unmarked (lines.Poke sock bytes) world = socket_unmarked sock is_strangers (pokes bytes) world (λ s w. refl)
other_unmarked (lines.Quit sock) world = socket_unmarked sock is_strangers quits world (λ s w. refl)
other_unmarked what world = refl

pub done_unmarked : (what : What) (world : World) → AnsweredUnmarked (line_done what world)
done_unmarked what world = by_command (command_as world.names what) where
  by_command : (o : Option (ProcName × Command)) → AnsweredUnmarked (elim o as (λ o. Answered) [
    | None ↦ other_line what world
    | Some asked ↦ node_hears asked.0.node (λ end. events.Command end asked.0.counter asked.1) world
  ])
  by_command None = other_unmarked what world
  by_command (Some asked) = hearing_unmarked asked.0.node (λ end. events.Command end asked.0.counter asked.1) world

-- ---- marks

-- these are the marks of what happened
abbrev Marks : List ℕ → Happened → Type 0
Marks numbers (Ok done) = filter_map mark_number done.0 ≡ numbers
Marks numbers (Err stop) = Unit {0}

answered_marks : (number : ℕ) (done : Answered) → AnsweredUnmarked done → Marks (number ∷ []) (line_answered number done)
answered_marks number (Ok done) a = ap (λ l. number ∷ l) a
answered_marks number (Err stop) a = tt

settled_marks : (number : ℕ) (world : World) (done : Option Happened) → SettledUnmarked done → Marks (number ∷ []) (line_settled number world done)
settled_marks number world None a = refl
settled_marks number world (Some (Ok done)) a = ap (λ l. number ∷ l) (both done.0 (entries.Settled ∷ []) a refl)
settled_marks number world (Some (Err stop)) a = tt

event_marks : (number : ℕ) (what : What) (world : World) → Marks (number ∷ []) (event_step number what world)
event_marks number lines.Settle world = settled_marks number world (settles world) (settled_unmarked (weight_of world) from_start world)
event_marks number what world = answered_marks number (line_done what world) (done_unmarked what world)

step_marks : (world : World) (number : ℕ) (what : What) → Marks (filter_map event_number (record { number = number; what = what } ∷ [])) (world_step world (record { number = number; what = what }))
step_marks world number (lines.Node name address unique) = refl
step_marks world number (lines.Away name address unique) = refl
step_marks world number (lines.Label node label) = refl
step_marks world number (lines.Stranger name host) = refl
step_marks world number what = event_marks number what world

abbrev MarksAll : List Line → Happened → Type 0
MarksAll journal done = Marks (filter_map event_number journal) done

all_marks : (world : World) (journal : List Line) → MarksAll journal (log_from world journal)
all_marks world [] = refl
all_marks world (line ∷ rest) = by_step (world_step world line) (step_marks world line.number line.what) (λ w. all_marks w rest) where
  by_rest : (told : List Entry) (more : Happened) → filter_map mark_number told ≡ filter_map event_number (line ∷ []) → MarksAll rest more → MarksAll (line ∷ rest) (more >>= λ more. Ok (told ++ more.0, more.1))
  by_rest told (Ok more) a b = filter_map-append mark_number told more.0 ∙ ap (λ l. l ++ filter_map mark_number more.0) a ∙ ap (λ l. filter_map event_number (line ∷ []) ++ l) b ∙ sym (filter_map-append event_number (line ∷ []) rest)
  by_rest told (Err stop) a b = tt

  by_step : (one : Happened) → Marks (filter_map event_number (line ∷ [])) one → ((w : World) → MarksAll rest (log_from w rest)) → MarksAll (line ∷ rest) (one >>= λ done. log_from done.1 rest >>= λ more. Ok (done.0 ++ more.0, more.1))
  by_step (Ok done) a more = by_rest done.0 (log_from done.1 rest) a (more done.1)
  by_step (Err stop) a more = tt

pub all_marked : (journal : List Line) (log : List Entry) → log_of journal ≡ Ok log → IsTrue (marks_all journal log)
all_marked journal log is = by_log (log_from (world_new journal) journal) (all_marks (world_new journal) journal) is where
  by_log : (done : Happened) → MarksAll journal done → (done >>= λ done. Ok done.0) ≡ Ok log → IsTrue (marks_all journal log)
  by_log (Ok done) a e = let same : done.0 ≡ log = cc in (bytes_eq-Decides _ _).1 (subst (λ l. filter_map mark_number l ≡ filter_map event_number journal) same a)
  by_log (Err stop) a e = absurd cc
