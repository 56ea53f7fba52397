-- No more is fed than was unread by the log: where each target's end is placed, whatever was refused.
use Rattle.std.proofs.Common.{◌≡◌, ◌≤◌, ℕ, zero, suc, ◌+◌, ◌*◌, Bool, true, false, cond, not, ◌&&◌, ◌||◌, List, [], ◌∷◌, ◌++◌, length, take, drop, Ok, Err, refl, sym, ap, ◌∙◌, subst, append_assoc, arith, le-leb}
use Rattle.std.proofs.lemmas.Bool.{and_parts}
use Rattle.std.proofs.lemmas.List.{append-nil}
use Rattle.std.proofs.lemmas.List.Folds.{list_any-append}
use Rattle.std.specs.List.{list_any}
use Rattle.std.specs.Prelude.{find, is_some, slice_get, nat_le, Option, Some, None, nat_lt, ◌==◌}
use Rattle.ch_static.specs.declared.command.Command.{Command}
use Rattle.ch_model.specs.declared.entry.Entry.{Entry}
use Rattle.ch_model.specs.declared.entry.Entry.TheVariants as entries
use Rattle.ch_model.specs.declared.entry.Verdict.{Verdict}
use Rattle.ch_model.specs.declared.entry.Verdict.TheVariants as verdicts
use Rattle.ch_model.specs.declared.line.Line.{Line}
use Rattle.ch_model.specs.declared.line.What.{What}
use Rattle.ch_model.specs.declared.line.What.TheVariants as lines
use Rattle.ch_model.specs.declared.local.LocalEntry.{LocalEntry}
use Rattle.ch_model.specs.declared.local.LocalEntry.TheVariants as local
use Rattle.ch_model.specs.declared.local.LocalEvent.{LocalEvent}
use Rattle.ch_model.specs.declared.local.LocalEvent.TheVariants as events
use Rattle.ch_model.specs.declared.name.End.{End}
use Rattle.ch_model.specs.declared.name.End.TheVariants.{O, T}
use Rattle.ch_model.specs.declared.name.ProcName.{ProcName}
use Rattle.ch_model.specs.declared.name.SockName.{SockName}
use Rattle.ch_model.specs.declared.note.Note.{Note}
use Rattle.ch_model.specs.declared.note.Note.TheVariants as notes
use Rattle.ch_model.specs.declared.step.Place.{Place}
use Rattle.ch_model.specs.declared.step.SocketEvent.{SocketEvent}
use Rattle.ch_model.specs.declared.step.SocketEvent.TheVariants as sockets
use Rattle.ch_model.specs.declared.step.Step.TheVariants as steps
use Rattle.ch_model.specs.AccountsBytes.{feeds_the_unread, feeds_the_end}
use Rattle.ch_model.specs.AnswersEntries.{refuses as refuses_it}
use Rattle.ch_model.specs.Cell.{Celled, cell_step}
use Rattle.ch_model.specs.Logs.{some_and, each_after}
use Rattle.ch_model.specs.Naming.{Names, address_as, named_as}
use Rattle.ch_model.specs.Settle.{Happened, Visit, Pass, happened, opens, visits, after_happened, then_happens, timer_due, timers_due, some_timer_runs, next_visit, see, before_rest, settled_in, settles, from_start, weight_of, after_visit, is_due}
use Rattle.ch_model.specs.Sockets.{unread, is_cut, has_ended_input}
use Rattle.ch_model.specs.Stages.{Stage, Pending, Open, Ended, is_pending, is_open, is_ended}
use Rattle.ch_model.specs.Timers.{timer_runs_for, all_links}
use Rattle.ch_model.specs.World.{◌>>=◌, world_new, event_step, world_step, line_answered, line_settled, log_from}
use Rattle.ch_model.specs.WorldHappenings.{Answered, after_entry, cell_told, cell_hears, end_hears, with_cell, joins, refuses, mark_of, comes_at, comes, hands, feeds, loses, times_out}
use Rattle.ch_model.specs.WorldLines.{command_as, node_hears, on_socket, can_join, can_come, can_refuse, can_feed, can_cut, is_at_work, cuts, is_strangers, knocks, pokes, quits, other_line, line_done}
use Rattle.ch_model.specs.WorldSockets.{end_of, other, opened, item_arrives, is_of_host, has_input, is_socket_named, with_end_of, find_end, cell_of}
use Rattle.ch_model.specs.WorldState.{Cell, WorldEnd, WorldSocket, World}
use Rattle.ch_model.specs.WorldSteps.{note_entry, on_end, reads_item, end_closes, local_told, all_told}
use Rattle.ch_laws_world.specs.Grows.{Numbered}
use Rattle.ch_laws_world.proofs.Happenings as grows
use Rattle.ch_laws_world.proofs.Sockets.{AllGrow}
use Rattle.ch_laws_log.specs.Agrees.{AllPlaced, IsAsTold}
use Rattle.ch_laws_log.specs.Lines.{AllLines, feeds_some}
use Rattle.ch_laws_log.proofs.Agreeing.{AnyCount}
use Rattle.ch_laws_log.proofs.Blocks.{each_append}
use Rattle.ch_laws_log.proofs.Kept.{IsIn, Led, LedOn, Allowed, AllAllowed}
use Rattle.ch_laws_log.proofs.Stored.{find_name, number_is}
use Rattle.ch_laws_log.proofs.Told.{opener_as_told, target_as_told, any_allowed}
use Rattle.ch_laws_ends.proofs.Alone.{both_hold}
use Rattle.ch_laws_ends.proofs.Happen.{joins_sure, comes_sure, refuses_sure, feeds_sure, times_sure}
use Rattle.ch_laws_ends.proofs.Lines.{mark_sure, settled_sure, line_sure, fresh_sure}
use Rattle.ch_laws_ends.proofs.Mirrored.{opener_stands}
use Rattle.ch_laws_ends.proofs.SocketLines.{placed_before}
use Rattle.ch_laws_ends.proofs.Told.{Sure}
use Rattle.ch_laws_ends.proofs.Visits.{AreVisits, next_is}

-- ---- what feeds nothing

is_feeding : Entry → Bool
is_feeding (entries.Fed sock end count) = true
is_feeding entry = false

abbrev Unfed : List Entry → Type 0
Unfed told = list_any is_feeding told ≡ false

abbrev AnsweredUnfed : Answered → Type 0
AnsweredUnfed (Ok done) = Unfed done.0.1
AnsweredUnfed (Err stop) = Unit {0}

at_end_unfed : (place sock : ℕ) (f : SockName × End → World → List Entry × World) (world : World) → ((at : SockName × End) → Unfed (f at world).0) → Unfed (on_end place sock f world).0
at_end_unfed place sock f world each = by_end (find_end place sock world.sockets) where
  by_end : (o : Option (SockName × End)) → Unfed (elim o as (λ o. List Entry × World) [
    | None ↦ ([], world)
    | Some at ↦ f at world
  ]).0
  by_end None = refl
  by_end (Some at) = each at

note_unfed : (known : Names) (last : Option Place) (note : Note) → Unfed (note_entry known last note ∷ [])
unfolding is_feeding
note_unfed known last (notes.Made process origin) = refl
note_unfed known last note = refl

one_unfed : (place : ℕ) (cell : Cell) (entry : LocalEntry) (world : World) → Unfed (local_told place cell entry world).0
unfolding is_feeding
one_unfed place cell (local.Note note) world = note_unfed world.names world.last note
one_unfed place cell (local.Step (steps.Dial sock end peer)) world = refl
one_unfed place cell (local.Step (steps.Read sock)) world = at_end_unfed place sock reads_item world (λ at. refl)
one_unfed place cell (local.Step (steps.Write sock bytes said)) world = at_end_unfed place sock (λ at now. (entries.Wrote at.0 at.1 bytes ∷ [], with_end_of at.0 (other at.1) (item_arrives bytes said) now)) world (λ at. refl)
one_unfed place cell (local.Step (steps.Up sock)) world = at_end_unfed place sock (λ at now. (entries.Up at.0 at.1 ∷ [], now)) world (λ at. refl)
one_unfed place cell (local.Step (steps.Down sock)) world = at_end_unfed place sock (λ at now. (entries.Down at.0 at.1 ∷ [], end_closes at now)) world (λ at. refl)
one_unfed place cell (local.Step (steps.Left sock)) world = at_end_unfed place sock (λ at now. (entries.Left at.0 at.1 ∷ [], end_closes at now)) world (λ at. refl)
one_unfed place cell (local.Step (steps.Broke end peer why)) world = refl
one_unfed place cell (local.Step (steps.Post end event)) world = refl

told_unfed : (place : ℕ) (cell : Cell) (told : List LocalEntry) (world : World) → Unfed (all_told place cell told world).0
told_unfed place cell [] world = refl
told_unfed place cell (entry ∷ rest) world = list_any-append is_feeding (local_told place cell entry world).0 (all_told place cell rest (local_told place cell entry world).1).0
    ∙ ap (λ b. b || list_any is_feeding (all_told place cell rest (local_told place cell entry world).1).0) (one_unfed place cell entry world) ∙ told_unfed place cell rest (local_told place cell entry world).1

hears_unfed : (place : ℕ) (event : LocalEvent) (world : World) → AnsweredUnfed (cell_hears place event world)
hears_unfed place event world = by_cell (slice_get world.cells place) where
  by_done : (cell : Cell × ℕ) (done : Celled) → AnsweredUnfed (cell_told place cell world done)
  by_done cell (Err stop) = tt
  by_done cell (Ok done) = told_unfed place done.1 done.0.1 (with_cell place (done.1, cell.1) world)

  by_cell : (o : Option (Cell × ℕ)) → AnsweredUnfed (elim o as (λ o. Answered) [
    | None ↦ Ok ((verdicts.Nothing, []), world)
    | Some cell ↦ cell_told place cell world (cell_step cell.0 event)
  ])
  by_cell None = refl
  by_cell (Some cell) = by_done cell (cell_step cell.0 event)

end_hears_unfed : (end : WorldEnd) (event : ℕ → SocketEvent) (world : World) → AnsweredUnfed (end_hears end event world)
end_hears_unfed end event world = by_end end.cell end.number where
  by_end : (c n : Option ℕ) → AnsweredUnfed (elim c as (λ o. Answered) [
    | None ↦ Ok ((verdicts.Nothing, []), world)
    | Some place ↦ elim n [
      | None ↦ Ok ((verdicts.Nothing, []), world)
      | Some number ↦ cell_hears place (events.Socket (event number)) world
    ]
  ])
  by_end None n = refl
  by_end (Some place) None = refl
  by_end (Some place) (Some number) = hears_unfed place (events.Socket (event number)) world

entry_unfed : (entry : Entry) (done : Answered) → is_feeding entry ≡ false → AnsweredUnfed done → AnsweredUnfed (after_entry entry done)
entry_unfed entry (Ok done) e u = ap (λ b. b || list_any is_feeding done.0.1) e ∙ u
entry_unfed entry (Err stop) e u = tt

joins_unfed : (socket : WorldSocket) (world : World) → AnsweredUnfed (joins socket world)
unfolding is_feeding
joins_unfed socket world = entry_unfed (entries.Joined socket.name) (end_hears socket.o (λ sock. sockets.Joined sock) (with_end_of socket.name O opened world)) refl (end_hears_unfed socket.o (λ sock. sockets.Joined sock) (with_end_of socket.name O opened world))

refuses_unfed : (socket : WorldSocket) (world : World) → AnsweredUnfed (refuses socket world)
unfolding is_feeding
refuses_unfed socket world = entry_unfed (entries.Refused socket.name) (end_hears socket.o (λ sock. sockets.Refused sock) world) refl (end_hears_unfed socket.o (λ sock. sockets.Refused sock) world)

loses_unfed : (which : End) (socket : WorldSocket) (world : World) → AnsweredUnfed (loses which socket world)
unfolding is_feeding
loses_unfed which socket world = entry_unfed (entries.Lost socket.name which) (end_hears (end_of which socket) (λ sock. sockets.Lost sock) world) refl (end_hears_unfed (end_of which socket) (λ sock. sockets.Lost sock) world)

comes_unfed : (socket : WorldSocket) (world : World) → AnsweredUnfed (comes socket world)
unfolding is_feeding
comes_unfed socket world = by_place socket.t.cell where
  by_cell : (place : ℕ) (o : Option (Cell × ℕ)) → AnsweredUnfed (elim o as (λ o. Answered) [
    | None ↦ Ok ((verdicts.Nothing, []), world)
    | Some cell ↦ cell_hears place (events.Came (mark_of socket.o) (2 * cell.1 + 1) socket.from_host) (with_end_of socket.name T (λ end. record (opened end) { number = Some (2 * cell.1 + 1) }) (with_cell place (cell.0, cell.1 + 1) world))
  ])
  by_cell place None = refl
  by_cell place (Some cell) = hears_unfed place (events.Came (mark_of socket.o) (2 * cell.1 + 1) socket.from_host) (with_end_of socket.name T (λ end. record (opened end) { number = Some (2 * cell.1 + 1) }) (with_cell place (cell.0, cell.1 + 1) world))

  by_place : (o : Option ℕ) → AnsweredUnfed (elim o as (λ o. Answered) [
    | None ↦ Ok ((verdicts.Nothing, []), world)
    | Some place ↦ after_entry (entries.Came socket.name) (comes_at place socket world)
  ])
  by_place None = refl
  by_place (Some place) = entry_unfed (entries.Came socket.name) (comes_at place socket world) refl (by_cell place (slice_get world.cells place))

times_unfed : (node peer : List ℕ) (world : World) → AnsweredUnfed (times_out node peer world)
unfolding is_feeding
times_unfed node peer world = by_cell (cell_of world (named_as world.names node).address) where
  late_event : LocalEvent
  late_event = events.Socket (sockets.Late (named_as world.names node).address.id (named_as world.names peer).address)

  by_cell : (o : Option ℕ) → AnsweredUnfed (elim o as (λ o. Answered) [
    | None ↦ Ok ((verdicts.Nothing, []), world)
    | Some place ↦ after_entry (entries.Timed node peer) (cell_hears place late_event world)
  ])
  by_cell None = refl
  by_cell (Some place) = entry_unfed (entries.Timed node peer) (cell_hears place late_event world) refl (hears_unfed place late_event world)

hands_unfed : (bytes : List ℕ) (end : WorldEnd) (world : World) → AnsweredUnfed (hands bytes end world)
hands_unfed [] end world = end_hears_unfed end (λ sock. sockets.Ended sock) world
hands_unfed (b ∷ bytes) end world = end_hears_unfed end (λ sock. sockets.Fed sock (b ∷ bytes)) world

node_unfed : (name : List ℕ) (event : ℕ → LocalEvent) (world : World) → AnsweredUnfed (node_hears name event world)
node_unfed name event world = by_cell (cell_of world (address_as world.names name)) where
  by_cell : (o : Option ℕ) → AnsweredUnfed (elim o as (λ o. Answered) [
    | None ↦ Ok ((verdicts.Nothing, []), world)
    | Some place ↦ cell_hears place (event (address_as world.names name).id) world
  ])
  by_cell None = refl
  by_cell (Some place) = hears_unfed place (event (address_as world.names name).id) world

cuts_unfed : (which : End) (socket : WorldSocket) (world : World) → AnsweredUnfed (cuts which socket world)
unfolding is_feeding
cuts_unfed which socket world = refl

pokes_unfed : (bytes : List ℕ) (socket : WorldSocket) (world : World) → AnsweredUnfed (pokes bytes socket world)
unfolding is_feeding
pokes_unfed bytes socket world = refl

quits_unfed : (socket : WorldSocket) (world : World) → AnsweredUnfed (quits socket world)
unfolding is_feeding
quits_unfed socket world = refl

knocks_unfed : (stranger node : List ℕ) (world : World) → AnsweredUnfed (knocks stranger node world)
unfolding is_feeding
knocks_unfed stranger node world = refl

-- ---- what is fed

taken_within : (count : ℕ) (left : List ℕ) → length (take count left) ≤ length left
taken_within zero left = none (length left) where
  none : (n : ℕ) → 0 ≤ n
  none n = omega arith
taken_within (suc count) [] = omega arith
taken_within (suc count) (b ∷ left) = more (length (take count left)) (length left) (taken_within count left) where
  more : (n m : ℕ) → n ≤ m → suc n ≤ suc m
  more n m h = omega arith

-- an open end is as the log tells: an opener's whose dial was refused isn't open
open_told : (journal : List Line) (log : List Entry) (world : World) (socket : WorldSocket) (which : End) → Sure journal log world → IsIn socket world → is_open (end_of which socket).stage ≡ true → AllPlaced journal world → IsAsTold journal log socket.name which (end_of which socket)
open_told journal log world socket O s is stands placed = by_refused (list_any (refuses_it socket.name) log) refl where
  not_ended : (stage : Stage) → is_open stage ≡ true → is_ended stage ≡ true → ⊥
  not_ended Open o e = absurd cc
  not_ended stage o e = absurd cc

  by_refused : (b : Bool) → list_any (refuses_it socket.name) log ≡ b → IsAsTold journal log socket.name O socket.o
  by_refused false e = opener_as_told journal log world socket.name socket s.ends.sorted.0 is e
  by_refused true e = absurd (not_ended socket.o.stage stands (s.over.have_ended socket.name socket e is))
open_told journal log world socket T s is stands placed = target_as_told journal log world socket.name socket s.ends.sorted.0 is (placed socket.name socket is)

fed_passes : (journal : List Line) (log : List Entry) (world : World) (socket : WorldSocket) (which : End) (count : ℕ) → Sure journal log world → IsIn socket world → is_open (end_of which socket).stage ≡ true → AllPlaced journal world → feeds_the_unread journal log (entries.Fed socket.name which (length (take count (end_of which socket).unread))) ≡ true
fed_passes journal log world socket which count s is stands placed = ap (λ (l : List ℕ). nat_le (length (take count (end_of which socket).unread)) (length l)) (open_told journal log world socket which s is stands placed).unread
    ∙ le-leb (length (take count (end_of which socket).unread)) (length (end_of which socket).unread) (taken_within count (end_of which socket).unread)

-- A test that all entries pass that feed nothing, and where the ends are placed all that feed an open end what it may be
-- fed: as many bytes as W has it, as it has all that are unread.
record IsTest (journal : List Line) (W : ℕ → List ℕ → Type 0) (test : List Entry → Entry → Bool) : Type 0 where
  whole : (left : List ℕ) → W (length left) left
  plain : (log : List Entry) (x : Entry) → is_feeding x ≡ false → test log x ≡ true
  fed : (log : List Entry) (world : World) (socket : WorldSocket) (which : End) (count : ℕ) → Sure journal log world → IsIn socket world → is_open (end_of which socket).stage ≡ true → has_input which socket ≡ true → W count (end_of which socket).unread → AllPlaced journal world
      → test log (entries.Fed socket.name which (length (take count (end_of which socket).unread))) ≡ true

unfed_passes : {W : ℕ → List ℕ → Type 0} {test : List Entry → Entry → Bool} (journal : List Line) (t : IsTest journal W test) (log told : List Entry) → Unfed told → each_after test log told ≡ true
unfed_passes {test = test} journal t log [] u = refl
unfed_passes {test = test} journal t log (x ∷ told) u = both_hold (test log x) (each_after test (log ++ x ∷ []) told) (t.plain log x (first (is_feeding x) u)) (unfed_passes journal t (log ++ x ∷ []) told (later (is_feeding x) u)) where
  first : (b : Bool) → (b || list_any is_feeding told) ≡ false → b ≡ false
  first false e = refl
  first true e = absurd cc

  later : (b : Bool) → (b || list_any is_feeding told) ≡ false → list_any is_feeding told ≡ false
  later false e = e
  later true e = absurd cc

-- ---- what is kept

-- the world is as before, and where its ends are placed, no more was fed than was unread
record Fine (journal : List Line) (test : List Entry → Entry → Bool) (log : List Entry) (world : World) : Type 0 where
  sure : Sure journal log world
  numbered : Numbered world.sockets
  fed : AllPlaced journal world → each_after test [] log ≡ true

abbrev Passes : List Line → (List Entry → Entry → Bool) → List Entry → World → Answered → Type 0
Passes journal test log world (Ok done) = AllPlaced journal world → each_after test log done.0.1 ≡ true
Passes journal test log world (Err stop) = Unit {0}

unfed_so : {W : ℕ → List ℕ → Type 0} {test : List Entry → Entry → Bool} (journal : List Line) (t : IsTest journal W test) (log : List Entry) (world : World) (done : Answered) → AnsweredUnfed done → Passes journal test log world done
unfed_so {test = test} journal t log world (Ok done) u = λ placed. unfed_passes journal t log done.0.1 u
unfed_so {test = test} journal t log world (Err stop) u = tt

fine_after : {W : ℕ → List ℕ → Type 0} {test : List Entry → Entry → Bool} (journal : List Line) (t : IsTest journal W test) (log : List Entry) (world : World) (done : Answered) → Fine journal test log world → Led (Sure journal) log done → AllGrow world done → Passes journal test log world done → Led (Fine journal test) log done
fine_after {test = test} journal t log world (Ok done) f s g p = record {
  sure = s;
  numbered = g.numbered;
  fed = λ placed. let before = placed_before journal world done.1 g placed in each_append test [] log done.0.1 (f.fed before) (p before);
}
fine_after {test = test} journal t log world (Err stop) f s g p = tt

feeds_so : {W : ℕ → List ℕ → Type 0} {test : List Entry → Entry → Bool} (journal : List Line) (t : IsTest journal W test) (log : List Entry) (which : End) (count : ℕ) (socket : WorldSocket) (world : World) → Sure journal log world → IsIn socket world → is_open (end_of which socket).stage ≡ true → has_input which socket ≡ true → W count (end_of which socket).unread → Passes journal test log world (feeds which count socket world)
feeds_so {test = test} journal t log which count socket world s is stands input w = by_done (hands (take count (end_of which socket).unread) (end_of which socket) rest) (hands_unfed (take count (end_of which socket).unread) (end_of which socket) rest) where
  rest : World
  rest = with_end_of socket.name which (λ end. record end { unread = drop count end.unread }) world

  fed_entry : Entry
  fed_entry = entries.Fed socket.name which (length (take count (end_of which socket).unread))

  by_done : (done : Answered) → AnsweredUnfed done → Passes journal test log world (after_entry fed_entry done)
  by_done (Ok done) u = λ placed. both_hold (test log fed_entry) (each_after test (log ++ fed_entry ∷ []) done.0.1) (t.fed log world socket which count s is stands input w placed) (unfed_passes journal t (log ++ fed_entry ∷ []) done.0.1 u)
  by_done (Err stop) u = tt

at_rest : {W : ℕ → List ℕ → Type 0} {test : List Entry → Entry → Bool} (journal : List Line) (t : IsTest journal W test) (log : List Entry) (world : World) → Fine journal test log world → Fine journal test (log ++ []) world
at_rest {test = test} journal t log world f = subst (λ (l : List Entry). Fine journal test l world) (sym (append-nil log)) f

onward : {W : ℕ → List ℕ → Type 0} {test : List Entry → Entry → Bool} (journal : List Line) (t : IsTest journal W test) (log one two : List Entry) (world : World) → Fine journal test ((log ++ one) ++ two) world → Fine journal test (log ++ (one ++ two)) world
onward {test = test} journal t log one two world f = subst (λ (l : List Entry). Fine journal test l world) (append_assoc log one two) f

times_fine : {W : ℕ → List ℕ → Type 0} {test : List Entry → Entry → Bool} (journal : List Line) (t : IsTest journal W test) (log : List Entry) (node peer : List ℕ) (world : World) → Fine journal test log world → Led (Fine journal test) log (times_out node peer world)
times_fine {test = test} journal t log node peer world f = fine_after journal t log world (times_out node peer world) f (times_sure journal log node peer world f.sure) (grows.timed_out node peer world f.numbered) (unfed_so journal t log world (times_out node peer world) (times_unfed node peer world))

-- ---- settling

abbrev LedAll : List Line → (List Entry → Entry → Bool) → List Entry → Option Happened → Type 0
LedAll journal test log None = Unit {0}
LedAll journal test log (Some done) = LedOn (Fine journal test) log done

opening : {W : ℕ → List ℕ → Type 0} {test : List Entry → Entry → Bool} (journal : List Line) (t : IsTest journal W test) (log : List Entry) (which : End) (socket : WorldSocket) (world : World) → IsIn socket world → is_pending (end_of which socket).stage ≡ true → Fine journal test log world → Led (Fine journal test) log (opens which socket world)
opening {test = test} journal t log T socket world is p f = fine_after journal t log world (comes socket world) f (comes_sure journal log socket world is p f.sure) (grows.came socket world f.numbered is p) (unfed_so journal t log world (comes socket world) (comes_unfed socket world))
opening {test = test} journal t log O socket world is p f = by_host (is_some socket.t.cell) where
  by_host : (b : Bool) → Led (Fine journal test) log (cond b (joins socket world) (refuses socket world))
  by_host true = fine_after journal t log world (joins socket world) f (joins_sure journal log socket world is p f.sure) (grows.joined socket world f.numbered is p) (unfed_so journal t log world (joins socket world) (joins_unfed socket world))
  by_host false = fine_after journal t log world (refuses socket world) f (refuses_sure journal log socket world is p f.sure) (grows.refused socket world f.numbered) (unfed_so journal t log world (refuses socket world) (refuses_unfed socket world))

visiting : {W : ℕ → List ℕ → Type 0} {test : List Entry → Entry → Bool} (journal : List Line) (t : IsTest journal W test) (log : List Entry) (which : End) (socket : WorldSocket) (world : World) → IsIn socket world → is_due which socket ≡ true → Fine journal test log world → Led (Fine journal test) log (visits which socket world)
visiting {test = test} journal t log which socket world is due f = by_stage (end_of which socket).stage refl due where
  by_stage : (stage : Stage) → (end_of which socket).stage ≡ stage → (elim stage as (λ s. Bool) [
    | Pending ↦ is_of_host (end_of which socket)
    | Open ↦ (is_of_host (end_of which socket) && has_input which socket)
    | Ended ↦ false
  ]) ≡ true → Led (Fine journal test) log (elim stage as (λ s. Answered) [
    | Pending ↦ opens which socket world
    | Open ↦ feeds which (length (end_of which socket).unread) socket world
    | Ended ↦ feeds which 0 socket world
  ])
  by_stage Pending e h = opening journal t log which socket world is (ap is_pending e) f
  by_stage Open e h = fine_after journal t log world (feeds which (length (end_of which socket).unread) socket world) f
      (feeds_sure journal log which (length (end_of which socket).unread) socket world is (ap is_open e) (and_parts (is_of_host (end_of which socket)) (has_input which socket) h).1 f.sure)
      (grows.fed which (length (end_of which socket).unread) socket world f.numbered) (feeds_so journal t log which (length (end_of which socket).unread) socket world f.sure is (ap is_open e) (and_parts (is_of_host (end_of which socket)) (has_input which socket) h).1 (t.whole (end_of which socket).unread))
  by_stage Ended e h = absurd cc

told_on : {W : ℕ → List ℕ → Type 0} {test : List Entry → Entry → Bool} (journal : List Line) (t : IsTest journal W test) (log : List Entry) (done : Answered) → Led (Fine journal test) log done → LedOn (Fine journal test) log (happened done)
told_on {test = test} journal t log (Ok done) l = l
told_on {test = test} journal t log (Err stop) l = tt

after_on : {W : ℕ → List ℕ → Type 0} {test : List Entry → Entry → Bool} (journal : List Line) (t : IsTest journal W test) (log told : List Entry) (more : Happened) → LedOn (Fine journal test) (log ++ told) more → LedOn (Fine journal test) log (after_happened told more)
after_on {test = test} journal t log told (Ok more) l = onward journal t log told more.0 more.1 l
after_on {test = test} journal t log told (Err stop) l = tt

then_on : {W : ℕ → List ℕ → Type 0} {test : List Entry → Entry → Bool} (journal : List Line) (t : IsTest journal W test) (log : List Entry) (one : Happened) (f : World → Happened) → LedOn (Fine journal test) log one → ((l : List Entry) (w : World) → Fine journal test l w → LedOn (Fine journal test) l (f w)) → LedOn (Fine journal test) log (then_happens one f)
then_on {test = test} journal t log (Ok done) f a more = after_on journal t log done.0 (f done.1) (more (log ++ done.0) done.1 a)
then_on {test = test} journal t log (Err stop) f a more = tt

one_due : {W : ℕ → List ℕ → Type 0} {test : List Entry → Entry → Bool} (journal : List Line) (t : IsTest journal W test) (log : List Entry) (link : List ℕ × List ℕ) (world : World) → Fine journal test log world → LedOn (Fine journal test) log (timer_due link world)
one_due {test = test} journal t log link world i = by_test (timer_runs_for world link.0 link.1) where
  by_test : (b : Bool) → LedOn (Fine journal test) log (cond b (happened (times_out link.0 link.1 world)) (Ok ([], world)))
  by_test true = told_on journal t log (times_out link.0 link.1 world) (times_fine journal t log link.0 link.1 world i)
  by_test false = at_rest journal t log world i

all_due : {W : ℕ → List ℕ → Type 0} {test : List Entry → Entry → Bool} (journal : List Line) (t : IsTest journal W test) (links : List (List ℕ × List ℕ)) (log : List Entry) (world : World) → Fine journal test log world → LedOn (Fine journal test) log (timers_due links world)
all_due {test = test} journal t [] log world i = at_rest journal t log world i
all_due {test = test} journal t (link ∷ rest) log world i = then_on journal t log (timer_due link world) (timers_due rest) (one_due journal t log link world i) (all_due journal t rest)

abbrev LedSeen : List Line → (List Entry → Entry → Bool) → List Entry → Option (Happened × Pass) → Type 0
LedSeen journal test log None = Unit {0}
LedSeen journal test log (Some seen) = LedOn (Fine journal test) log seen.0

seeing : {W : ℕ → List ℕ → Type 0} {test : List Entry → Entry → Bool} (journal : List Line) (t : IsTest journal W test) (log : List Entry) (pass : Pass) (world : World) → Fine journal test log world → LedSeen journal test log (see pass world)
seeing {test = test} journal t log pass world i = by_visit (next_visit pass world) (next_is pass world i.sure.ends.sorted.0.apart) where
  by_test : (b : Bool) → LedSeen journal test log (cond b (Some (timers_due (all_links world) world, from_start)) None)
  by_test true = all_due journal t (all_links world) log world i
  by_test false = tt

  by_visit : (o : Option Visit) → AreVisits world.sockets o → LedSeen journal test log (elim o as (λ o. Option (Happened × Pass)) [
    | Some visit ↦ Some (happened (visits visit.which visit.socket world), after_visit visit)
    | None ↦ cond (some_timer_runs world) (Some (timers_due (all_links world) world, from_start)) None
  ])
  by_visit None v = by_test (some_timer_runs world)
  by_visit (Some visit) v = told_on journal t log (visits visit.which visit.socket world) (visiting journal t log visit.which visit.socket world v.is v.due i)

rest_on : {W : ℕ → List ℕ → Type 0} {test : List Entry → Entry → Bool} (journal : List Line) (t : IsTest journal W test) (log told : List Entry) (more : Option Happened) → LedAll journal test (log ++ told) more → LedAll journal test log (before_rest told more)
rest_on {test = test} journal t log told None l = tt
rest_on {test = test} journal t log told (Some more) l = after_on journal t log told more l

settling : {W : ℕ → List ℕ → Type 0} {test : List Entry → Entry → Bool} (journal : List Line) (t : IsTest journal W test) (fuel : ℕ) (log : List Entry) (pass : Pass) (world : World) → Fine journal test log world → LedAll journal test log (settled_in fuel pass world)
settling {test = test} journal t zero log pass world i = by_seen (see pass world) where
  by_seen : (o : Option (Happened × Pass)) → LedAll journal test log (elim o as (λ o. Option Happened) [
    | None ↦ Some (Ok ([], world))
    | Some done ↦ None
  ])
  by_seen None = at_rest journal t log world i
  by_seen (Some done) = tt
settling {test = test} journal t (suc fuel) log pass world i = by_seen (see pass world) (seeing journal t log pass world i) (settling journal t fuel) where
  More : Type 0
  More = (l : List Entry) (p : Pass) (w : World) → Fine journal test l w → LedAll journal test l (settled_in fuel p w)

  by_done : (p : Pass) (one : Happened) → LedOn (Fine journal test) log one → More → LedAll journal test log (elim one as (λ o. Option Happened) [
    | Err stop ↦ Some (Err stop)
    | Ok one ↦ before_rest one.0 (settled_in fuel p one.1)
  ])
  by_done p (Err stop) a more = tt
  by_done p (Ok one) a more = rest_on journal t log one.0 (settled_in fuel p one.1) (more (log ++ one.0) p one.1 a)

  by_seen : (o : Option (Happened × Pass)) → LedSeen journal test log o → More → LedAll journal test log (elim o as (λ o. Option Happened) [
    | None ↦ Some (Ok ([], world))
    | Some done ↦ elim done.0 [
      | Err stop ↦ Some (Err stop)
      | Ok one ↦ before_rest one.0 (settled_in fuel done.1 one.1)
    ]
  ])
  by_seen None a more = at_rest journal t log world i
  by_seen (Some done) a more = by_done done.1 done.0 a more

-- ---- lines

-- what is done to a socket that stands as the test asks
at_socket : {W : ℕ → List ℕ → Type 0} {test : List Entry → Entry → Bool} (journal : List Line) (t : IsTest journal W test) (log : List Entry) (sock : SockName) (asks : WorldSocket → Bool) (f : WorldSocket → World → Answered) (world : World) → ((socket : WorldSocket) → IsIn socket world → asks socket ≡ true → Passes journal test log world (f socket world)) → Passes journal test log world (on_socket sock asks f world)
at_socket {test = test} journal t log sock asks f world each = by_socket (find (is_socket_named sock) world.sockets) refl where
  by_test : (s : WorldSocket) → IsIn s world → (b : Bool) → asks s ≡ b → Passes journal test log world (cond b (f s world) (Ok ((verdicts.Nothing, []), world)))
  by_test s is true e = each s is e
  by_test s is false e = λ placed. refl

  by_socket : (o : Option WorldSocket) → find (is_socket_named sock) world.sockets ≡ o → Passes journal test log world (elim o as (λ o. Answered) [
    | None ↦ Ok ((verdicts.Nothing, []), world)
    | Some socket ↦ cond (asks socket) (f socket world) (Ok ((verdicts.Nothing, []), world))
  ])
  by_socket None e = λ placed. refl
  by_socket (Some s) e = by_test s (subst (λ (n : SockName). find (is_socket_named n) world.sockets ≡ Some s) (sym (find_name sock world.sockets s e)) e) (asks s) refl

late_so : {W : ℕ → List ℕ → Type 0} {test : List Entry → Entry → Bool} (journal : List Line) (t : IsTest journal W test) (log : List Entry) (node peer : List ℕ) (world : World) (b : Bool) → Passes journal test log world (cond b (times_out node peer world) (Ok ((verdicts.Nothing, []), world)))
late_so {test = test} journal t log node peer world true = unfed_so journal t log world (times_out node peer world) (times_unfed node peer world)
late_so {test = test} journal t log node peer world false = λ placed. refl

other_so : {W : ℕ → List ℕ → Type 0} {test : List Entry → Entry → Bool} (journal : List Line) (t : IsTest journal W test) (log : List Entry) (what : What) (world : World) → Allowed (Unit {0}) W what → Sure journal log world → Passes journal test log world (other_line what world)
other_so {test = test} journal t log (lines.Proc node) world a s = unfed_so journal t log world (node_hears node (λ end. events.Make end) world) (node_unfed node (λ end. events.Make end) world)
other_so {test = test} journal t log (lines.Shut node) world a s = unfed_so journal t log world (node_hears node (λ end. events.Shut end) world) (node_unfed node (λ end. events.Shut end) world)
other_so {test = test} journal t log (lines.Join sock) world a s = at_socket journal t log sock can_join joins world (λ w is e. unfed_so journal t log world (joins w world) (joins_unfed w world))
other_so {test = test} journal t log (lines.Come sock) world a s = at_socket journal t log sock can_come comes world (λ w is e. unfed_so journal t log world (comes w world) (comes_unfed w world))
other_so {test = test} journal t log (lines.Refuse sock) world a s = at_socket journal t log sock can_refuse refuses world (λ w is e. unfed_so journal t log world (refuses w world) (refuses_unfed w world))
other_so {test = test} journal t log (lines.Feed sock end count) world a s = at_socket journal t log sock (can_feed end) (feeds end count) world (λ w is e. feeds_so journal t log end count w world s is (and_parts (is_open (end_of end w).stage) (is_of_host (end_of end w)) (and_parts (is_at_work end w) (has_input end w) e).0).0 (and_parts (is_at_work end w) (has_input end w) e).1 (a (end_of end w).unread))
other_so {test = test} journal t log (lines.Cut sock end) world a s = at_socket journal t log sock (can_cut end) (cuts end) world (λ w is e. unfed_so journal t log world (cuts end w world) (cuts_unfed end w world))
other_so {test = test} journal t log (lines.Lose sock end) world a s = at_socket journal t log sock (is_at_work end) (loses end) world (λ w is e. unfed_so journal t log world (loses end w world) (loses_unfed end w world))
other_so {test = test} journal t log (lines.Late node peer) world a s = late_so journal t log node peer world (timer_runs_for world node peer)
other_so {test = test} journal t log (lines.Knock stranger node) world a s = unfed_so journal t log world (knocks stranger node world) (knocks_unfed stranger node world)
other_so {test = test} journal t log (lines.Poke sock bytes) world a s = at_socket journal t log sock is_strangers (pokes bytes) world (λ w is e. unfed_so journal t log world (pokes bytes w world) (pokes_unfed bytes w world))
other_so {test = test} journal t log (lines.Quit sock) world a s = at_socket journal t log sock is_strangers quits world (λ w is e. unfed_so journal t log world (quits w world) (quits_unfed w world))
other_so {test = test} journal t log what world a s = λ placed. refl

line_so : {W : ℕ → List ℕ → Type 0} {test : List Entry → Entry → Bool} (journal : List Line) (t : IsTest journal W test) (log : List Entry) (what : What) (world : World) → Allowed (Unit {0}) W what → Sure journal log world → Passes journal test log world (line_done what world)
line_so {test = test} journal t log what world a s = by_command (command_as world.names what) where
  by_command : (o : Option (ProcName × Command)) → Passes journal test log world (elim o as (λ o. Answered) [
    | None ↦ other_line what world
    | Some asked ↦ node_hears asked.0.node (λ end. events.Command end asked.0.counter asked.1) world
  ])
  by_command None = other_so journal t log what world a s
  by_command (Some asked) = unfed_so journal t log world (node_hears asked.0.node (λ end. events.Command end asked.0.counter asked.1) world) (node_unfed asked.0.node (λ end. events.Command end asked.0.counter asked.1) world)

-- an entry that feeds nothing
marked_fine : {W : ℕ → List ℕ → Type 0} {test : List Entry → Entry → Bool} (journal : List Line) (t : IsTest journal W test) (log : List Entry) (x : Entry) (world : World) → is_feeding x ≡ false → Sure journal (log ++ x ∷ []) world → Fine journal test log world → Fine journal test (log ++ x ∷ []) world
marked_fine {test = test} journal t log x world e s f = record {
  sure = s;
  numbered = f.numbered;
  fed = λ placed. each_append test [] log (x ∷ []) (f.fed placed) (both_hold (test log x) true (t.plain log x e) refl);
}

mark_fine : {W : ℕ → List ℕ → Type 0} {test : List Entry → Entry → Bool} (journal : List Line) (t : IsTest journal W test) (log : List Entry) (world : World) (number : ℕ) (answer : Verdict) → Fine journal test log world → Fine journal test (log ++ entries.Line number answer ∷ []) world
unfolding is_feeding
mark_fine {test = test} journal t log world number answer f = marked_fine journal t log (entries.Line number answer) world refl (mark_sure journal log world number answer f.sure) f

settled_fine : {W : ℕ → List ℕ → Type 0} {test : List Entry → Entry → Bool} (journal : List Line) (t : IsTest journal W test) (log : List Entry) (world : World) → Fine journal test log world → Fine journal test (log ++ entries.Settled ∷ []) world
unfolding is_feeding
settled_fine {test = test} journal t log world f = marked_fine journal t log entries.Settled world refl (settled_sure journal log world f.sure) f

line_fine : {W : ℕ → List ℕ → Type 0} {test : List Entry → Entry → Bool} (journal : List Line) (t : IsTest journal W test) (log : List Entry) (what : What) (world : World) → Allowed (Unit {0}) W what → Fine journal test log world → Led (Fine journal test) log (line_done what world)
line_fine {test = test} journal t log what world a f = fine_after journal t log world (line_done what world) f (line_sure journal log what world f.sure) (grows.line_grows what world f.numbered) (line_so journal t log what world a f.sure)

marked : {W : ℕ → List ℕ → Type 0} {test : List Entry → Entry → Bool} (journal : List Line) (t : IsTest journal W test) (log : List Entry) (number : ℕ) (done : Answered) → ((answer : Verdict) → Led (Fine journal test) (log ++ entries.Line number answer ∷ []) done) → LedOn (Fine journal test) log (line_answered number done)
marked {test = test} journal t log number (Ok done) l = onward journal t log (entries.Line number done.0.0 ∷ []) done.0.1 done.1 (l done.0.0)
marked {test = test} journal t log number (Err stop) l = tt

settled_last : {W : ℕ → List ℕ → Type 0} {test : List Entry → Entry → Bool} (journal : List Line) (t : IsTest journal W test) (log : List Entry) (number : ℕ) (world : World) (done : Option Happened) → Fine journal test (log ++ entries.Line number verdicts.Ok ∷ []) world → LedAll journal test (log ++ entries.Line number verdicts.Ok ∷ []) done → LedOn (Fine journal test) log (line_settled number world done)
settled_last {test = test} journal t log number world None i l = i
settled_last {test = test} journal t log number world (Some (Ok done)) i l = onward journal t log (entries.Line number verdicts.Ok ∷ []) (done.0 ++ entries.Settled ∷ []) done.1
    (onward journal t (log ++ entries.Line number verdicts.Ok ∷ []) done.0 (entries.Settled ∷ []) done.1 (settled_fine journal t ((log ++ entries.Line number verdicts.Ok ∷ []) ++ done.0) done.1 l))
settled_last {test = test} journal t log number world (Some (Err stop)) i l = tt

event_fine : {W : ℕ → List ℕ → Type 0} {test : List Entry → Entry → Bool} (journal : List Line) (t : IsTest journal W test) (log : List Entry) (number : ℕ) (what : What) (world : World) → Allowed (Unit {0}) W what → Fine journal test log world → LedOn (Fine journal test) log (event_step number what world)
event_fine {test = test} journal t log number lines.Settle world a i = settled_last journal t log number world (settles world) (mark_fine journal t log world number verdicts.Ok i)
    (settling journal t (weight_of world) (log ++ entries.Line number verdicts.Ok ∷ []) from_start world (mark_fine journal t log world number verdicts.Ok i))
event_fine {test = test} journal t log number what world a i = marked journal t log number (line_done what world) (λ answer. line_fine journal t (log ++ entries.Line number answer ∷ []) what world a (mark_fine journal t log world number answer i))

step_fine : {W : ℕ → List ℕ → Type 0} {test : List Entry → Entry → Bool} (journal : List Line) (t : IsTest journal W test) (log : List Entry) (world : World) (number : ℕ) (what : What) → Allowed (Unit {0}) W what → Fine journal test log world → LedOn (Fine journal test) log (world_step world (record { number = number; what = what }))
step_fine {test = test} journal t log world number (lines.Node name address unique) a i = at_rest journal t log world i
step_fine {test = test} journal t log world number (lines.Away name address unique) a i = at_rest journal t log world i
step_fine {test = test} journal t log world number (lines.Label node label) a i = at_rest journal t log world i
step_fine {test = test} journal t log world number (lines.Stranger name host) a i = at_rest journal t log world i
step_fine {test = test} journal t log world number what a i = event_fine journal t log number what world a i

-- after some lines
all_fine : {W : ℕ → List ℕ → Type 0} {test : List Entry → Entry → Bool} (journal : List Line) (t : IsTest journal W test) (rest : List Line) (log : List Entry) (world : World) → AllAllowed (Unit {0}) W rest → Fine journal test log world → LedOn (Fine journal test) log (log_from world rest)
all_fine {test = test} journal t [] log world a i = at_rest journal t log world i
all_fine {test = test} journal t (line ∷ rest) log world a i = by_step (world_step world line) (step_fine journal t log world line.number line.what a.0 i) (λ l w f. all_fine journal t rest l w a.1 f) where
  by_rest : (told : List Entry) (more : Happened) → LedOn (Fine journal test) (log ++ told) more → LedOn (Fine journal test) log (more >>= λ more. Ok (told ++ more.0, more.1))
  by_rest told (Ok more) l = onward journal t log told more.0 more.1 l
  by_rest told (Err stop) l = tt

  by_step : (one : Happened) → LedOn (Fine journal test) log one → ((l : List Entry) (w : World) → Fine journal test l w → LedOn (Fine journal test) l (log_from w rest)) → LedOn (Fine journal test) log (one >>= λ done. log_from done.1 rest >>= λ more. Ok (done.0 ++ more.0, more.1))
  by_step (Ok done) a more = by_rest done.0 (log_from done.1 rest) (more (log ++ done.0) done.1 a)
  by_step (Err stop) a more = tt

-- ---- no more than is unread

unread_plain : (journal : List Line) (log : List Entry) (x : Entry) → is_feeding x ≡ false → feeds_the_unread journal log x ≡ true
unfolding is_feeding
unread_plain journal log (entries.Fed sock end count) e = absurd cc
unread_plain journal log x e = refl

unread_test : (journal : List Line) → IsTest journal AnyCount (feeds_the_unread journal)
unread_test journal = record { whole = λ left. tt; plain = unread_plain journal; fed = λ log world socket which count s is stands input w placed. fed_passes journal log world socket which count s is stands placed }

passed : {W : ℕ → List ℕ → Type 0} {test : List Entry → Entry → Bool} (journal : List Line) (t : IsTest journal W test) (lines : List Line) (log : List Entry) (world : World) → AllAllowed (Unit {0}) W lines → log_from (world_new journal) lines ≡ Ok (log, world) → AllPlaced journal world → each_after test [] log ≡ true
passed {test = test} journal t lines log world a is = by_log (log_from (world_new journal) lines) (all_fine journal t lines [] (world_new journal) a (record { sure = fresh_sure journal; numbered = tt; fed = λ placed. refl })) is where
  by_log : (done : Happened) → LedOn (Fine journal test) [] done → done ≡ Ok (log, world) → AllPlaced journal world → each_after test [] log ≡ true
  by_log done l e = (subst (λ (d : Happened). LedOn (Fine journal test) [] d) e l).fed

pub fed_unread : (journal lines : List Line) (log : List Entry) (world : World) → log_from (world_new journal) lines ≡ Ok (log, world) → AllPlaced journal world → each_after (feeds_the_unread journal) [] log ≡ true
fed_unread journal lines log world is placed = passed journal (unread_test journal) lines log world (any_allowed lines) is placed

-- ---- the end of input, where nothing is unread

-- where nothing is fed, nothing is unread
abbrev TakesAll : ℕ → List ℕ → Type 0
TakesAll count left = length (take count left) ≡ 0 → left ≡ []

takes_whole : (left : List ℕ) → TakesAll (length left) left
takes_whole [] e = refl
takes_whole (b ∷ left) e = absurd (never (length (take (length left) left)) e) where
  never : (n : ℕ) → suc n ≡ 0 → ⊥
  never n h = omega arith

takes_some : (count : ℕ) (left : List ℕ) → TakesAll (suc count) left
takes_some count [] e = refl
takes_some count (b ∷ left) e = absurd (never (length (take count left)) e) where
  never : (n : ℕ) → suc n ≡ 0 → ⊥
  never n h = omega arith

end_plain : (journal : List Line) (log : List Entry) (x : Entry) → is_feeding x ≡ false → feeds_the_end journal log x ≡ true
unfolding is_feeding
end_plain journal log (entries.Fed sock end count) e = absurd cc
end_plain journal log x e = refl

turned : (a b : Bool) → (a || b) ≡ (b || a)
turned true true = refl
turned true false = refl
turned false true = refl
turned false false = refl

-- the end of input, as the log tells
has_ended : (journal : List Line) (log : List Entry) (world : World) (socket : WorldSocket) (which : End) → Sure journal log world → IsIn socket world → is_open (end_of which socket).stage ≡ true → AllPlaced journal world → ((end_of which socket).is_cut || is_ended (end_of (other which) socket).stage) ≡ true → has_ended_input journal log socket.name which ≡ true
has_ended journal log world socket O s is stands placed input = ap (λ b. b || is_cut log socket.name O) ((target_as_told journal log world socket.name socket s.ends.sorted.0 is (placed socket.name socket is)).stands is_ended)
    ∙ ap (λ b. is_ended socket.t.stage || b) (open_told journal log world socket O s is stands placed).cut ∙ turned (is_ended socket.t.stage) socket.o.is_cut ∙ input
has_ended journal log world socket T s is stands placed input = ap (λ b. b || is_cut log socket.name T) (ap (some_and is_ended) (opener_stands journal log world socket.name socket s is))
    ∙ ap (λ b. is_ended socket.o.stage || b) (open_told journal log world socket T s is stands placed).cut ∙ turned (is_ended socket.o.stage) socket.t.is_cut ∙ input

end_fed : (journal : List Line) (log : List Entry) (world : World) (socket : WorldSocket) (which : End) (count : ℕ) → Sure journal log world → IsIn socket world → is_open (end_of which socket).stage ≡ true → has_input which socket ≡ true → TakesAll count (end_of which socket).unread → AllPlaced journal world → feeds_the_end journal log (entries.Fed socket.name which (length (take count (end_of which socket).unread))) ≡ true
end_fed journal log world socket which count s is stands input w placed = by_count (length (take count (end_of which socket).unread) == 0) refl where
  left_in : ◌≡◌ {A = List ℕ} (end_of which socket).unread [] → (nat_lt 0 (length (end_of which socket).unread) || ((end_of which socket).is_cut || is_ended (end_of (other which) socket).stage)) ≡ true → ((end_of which socket).is_cut || is_ended (end_of (other which) socket).stage) ≡ true
  left_in e h = sym (ap (λ (l : List ℕ). nat_lt 0 (length l) || ((end_of which socket).is_cut || is_ended (end_of (other which) socket).stage)) e) ∙ h

  by_count : (b : Bool) → (length (take count (end_of which socket).unread) == 0) ≡ b → (not b || length (unread journal log socket.name which) == 0 && has_ended_input journal log socket.name which) ≡ true
  by_count false e = refl
  by_count true e =
      let none = w (number_is (length (take count (end_of which socket).unread)) 0 e) in
      ap (λ (l : List ℕ). length l == 0 && has_ended_input journal log socket.name which) ((open_told journal log world socket which s is stands placed).unread ∙ none) ∙ has_ended journal log world socket which s is stands placed (left_in none input)

end_test : (journal : List Line) → IsTest journal TakesAll (feeds_the_end journal)
end_test journal = record { whole = takes_whole; plain = end_plain journal; fed = end_fed journal }

feeding_line : (what : What) → feeds_some what ≡ true → Allowed (Unit {0}) TakesAll what
feeding_line (lines.Feed sock end zero) e = absurd cc
feeding_line (lines.Feed sock end (suc count)) e = takes_some count
feeding_line what e = tt

feeding_lines : (journal : List Line) → AllLines feeds_some journal → AllAllowed (Unit {0}) TakesAll journal
feeding_lines [] all = tt
feeding_lines (line ∷ rest) all = (feeding_line line.what all.0, feeding_lines rest all.1)

pub fed_end : (journal lines : List Line) (log : List Entry) (world : World) → AllLines feeds_some lines → log_from (world_new journal) lines ≡ Ok (log, world) → AllPlaced journal world → each_after (feeds_the_end journal) [] log ≡ true
fed_end journal lines log world some is placed = passed journal (end_test journal) lines log world (feeding_lines lines some) is placed
