-- After any lines each entry of the log that writes is one item of the kind that its end writes next.
use Rattle.std.proofs.Common.{◌≡◌, ℕ, ◌+◌, ◌*◌, Bool, true, false, cond, ◌&&◌, List, [], ◌∷◌, ◌++◌, drop, length, take, Ok, refl, sym, ap, ◌∙◌, subst, append_assoc, arith, ◌≤◌}
use Rattle.std.proofs.lemmas.List.{append-nil}
use Rattle.std.specs.Prelude.{find, is_some, slice_get, slice_set, Option, Some, None, ◌==◌}
use Rattle.ch_base.specs.declared.address.Address.{Address}
use Rattle.ch_model.specs.declared.entry.Entry.{Entry}
use Rattle.ch_model.specs.declared.entry.Entry.TheVariants as entries
use Rattle.ch_model.specs.declared.entry.Verdict.{Verdict}
use Rattle.ch_model.specs.declared.line.Line.{Line}
use Rattle.ch_model.specs.declared.local.LocalEntry.{LocalEntry}
use Rattle.ch_model.specs.declared.local.LocalEntry.TheVariants as local
use Rattle.ch_model.specs.declared.local.LocalEvent.{LocalEvent}
use Rattle.ch_model.specs.declared.local.LocalEvent.TheVariants as events
use Rattle.ch_model.specs.declared.name.End.{End}
use Rattle.ch_model.specs.declared.name.End.TheVariants.{O, T}
use Rattle.ch_model.specs.declared.name.SockName.{SockName}
use Rattle.ch_model.specs.declared.note.Note.{Note}
use Rattle.ch_model.specs.declared.note.Note.TheVariants as notes
use Rattle.ch_model.specs.declared.step.Place.{Place}
use Rattle.ch_model.specs.declared.step.SocketEvent.TheVariants as sockets
use Rattle.ch_model.specs.AccountsBytes.{writes_after_accepting}
use Rattle.ch_model.specs.Cell.{cell_step}
use Rattle.ch_model.specs.HostSteps.{own_address}
use Rattle.ch_model.specs.Naming.{Names, address_as}
use Rattle.ch_model.specs.Sockets.{writing, writings}
use Rattle.ch_model.specs.Stages.{Stage, is_pending}
use Rattle.ch_model.specs.World.{world_new, log_from}
use Rattle.ch_model.specs.WorldHappenings.{with_cell}
use Rattle.ch_model.specs.WorldSockets.{end_of, with_end, opened, cut, ended, arrives, is_socket_named, store_in, with_socket, with_end_of, same_number, is_end_of, end_at, find_end, cell_of, target_end}
use Rattle.ch_model.specs.WorldState.{Cell, WorldEnd, WorldSocket, World}
use Rattle.ch_model.specs.WorldSteps.{note_entry, local_told, all_told}
use Rattle.ch_laws_log.specs.HostEnds.{stage_at, stage_after_all, AreNewTo, steps_in}
use Rattle.ch_laws_log.proofs.Agreeing.{Good, AnyCount, keeps_good, with_end_is}
use Rattle.ch_laws_log.proofs.Kept.{one_told, stranger_socket, IsIn}
use Rattle.ch_laws_log.proofs.Stored.{next_is_new, same_is, find_stored}
use Rattle.ch_laws_writes.specs.Dues.{Due, Answering, due_at, due_after_all, due_told, AllDue}
use Rattle.ch_laws_writes.specs.Orderly.{WritesOn, ComesNewTo}
use Rattle.ch_laws_writes.specs.Writings.{WritesOne}
use Rattle.ch_laws_writes.proofs.CellEnds.{Stages, TellsFrom, has_after, cell_tells}
use Rattle.ch_laws_writes.proofs.Cells.{cell_writes}
use Rattle.ch_laws_writes.proofs.Dues.{Dues}
use Rattle.ch_laws_writes.proofs.Found.{KeepsPlace, none_at, come_found, same_found}
use Rattle.ch_laws_writes.proofs.Runs.{Keeps, comes_none, after_all}
use Rattle.ch_laws_writes.proofs.Walks.{LogFits, Agrees, Known, same_sockets, kept_same, Quiet, quiet_entry, quiet_fits, quiet_agrees, quiet_known, Walk, walk_quiet, step_walk, ended_keeps, arrives_keeps, new_fits, new_same}
use Rattle.ch_laws_writes.proofs.Worlds.{got_set, got_other, number_is, number_same, numbers_differ, all_cells, CellFits, no_more, nothing_new, come_new, come_end, Orderly, OrderlyMid, keeps_orderly, fresh_orderly, holds_after}
use Rattle.ch_laws_writes.proofs.Written.{FitsDue, wrote_more, each_more, accepting_more}

-- ---- notes

-- an entry that writes nothing
pub record IsQuiet (log : List Entry) (x : Entry) : Type 0 where
  pub none : (s : SockName) (e : End) → writing s e x ≡ None
  pub one : WritesOne log x
  pub accepting : writes_after_accepting log x ≡ true

pub note_quiet : (log : List Entry) (known : Names) (last : Option Place) (note : Note) → IsQuiet log (note_entry known last note)
note_quiet log known last (notes.Made process origin) = record { none = λ s e. refl; one = tt; accepting = refl }
note_quiet log known last (notes.Said by to epoch index message) = record { none = λ s e. refl; one = tt; accepting = refl }
note_quiet log known last (notes.Again by to epoch) = record { none = λ s e. refl; one = tt; accepting = refl }
note_quiet log known last (notes.Got by to receiver) = record { none = λ s e. refl; one = tt; accepting = refl }
note_quiet log known last (notes.Took by port message) = record { none = λ s e. refl; one = tt; accepting = refl }
note_quiet log known last (notes.Port port) = record { none = λ s e. refl; one = tt; accepting = refl }
note_quiet log known last (notes.Over process reason) = record { none = λ s e. refl; one = tt; accepting = refl }
note_quiet log known last (notes.Doom process text) = record { none = λ s e. refl; one = tt; accepting = refl }
note_quiet log known last (notes.Watch watch by target kind) = record { none = λ s e. refl; one = tt; accepting = refl }
note_quiet log known last (notes.Unwatch watch) = record { none = λ s e. refl; one = tt; accepting = refl }
note_quiet log known last (notes.Absent watch) = record { none = λ s e. refl; one = tt; accepting = refl }
note_quiet log known last (notes.Told watch reason) = record { none = λ s e. refl; one = tt; accepting = refl }
note_quiet log known last (notes.Asked question by at) = record { none = λ s e. refl; one = tt; accepting = refl }
note_quiet log known last (notes.Spawned question process) = record { none = λ s e. refl; one = tt; accepting = refl }
note_quiet log known last (notes.IsAt question found) = record { none = λ s e. refl; one = tt; accepting = refl }
note_quiet log known last (notes.Named node name process) = record { none = λ s e. refl; one = tt; accepting = refl }
note_quiet log known last (notes.Shut node) = record { none = λ s e. refl; one = tt; accepting = refl }

-- ---- all that followed

all_walk : (own : ℕ → Address) (journal : List Line) (place : ℕ) (cell : Cell) (told : List LocalEntry) (world : World) (log : List Entry) (d : Dues) (st : Stages) → Good journal log world → ((n : ℕ) → AllDue own n (steps_in told) (d n)) → ((n : ℕ) → AreNewTo n (steps_in told) (st n)) → Walk place d st log world
    → Walk place (λ n. due_after_all n (steps_in told) (d n)) (λ n. stage_after_all n (steps_in told) (st n)) (log ++ (all_told place cell told world).0) (all_told place cell told world).1
all_walk own journal place cell [] world log d st g due new w = subst (λ (l : List Entry). Walk place d st l world) (sym (append-nil log)) w
all_walk own journal place cell (local.Step step ∷ rest) world log d st g due new w =
    subst (λ (l : List Entry). Walk place (λ n. due_after_all n (steps_in (local.Step step ∷ rest)) (d n)) (λ n. stage_after_all n (steps_in (local.Step step ∷ rest)) (st n)) l (all_told place cell (local.Step step ∷ rest) world).1)
    (append_assoc log (local_told place cell (local.Step step) world).0 (all_told place cell rest (local_told place cell (local.Step step) world).1).0)
    (all_walk own journal place cell rest (local_told place cell (local.Step step) world).1 (log ++ (local_told place cell (local.Step step) world).0) _ _
    (one_told (Good journal) (keeps_good journal) log place cell (local.Step step) world g) (λ n. (due n).1) (λ n. (new n).1) (step_walk own journal place cell step world log d st g (λ n. (due n).0) (λ n. (new n).0) w))
all_walk own journal place cell (local.Note note ∷ rest) world log d st g due new w =
    subst (λ (l : List Entry). Walk place (λ n. due_after_all n (steps_in rest) (d n)) (λ n. stage_after_all n (steps_in rest) (st n)) l (all_told place cell (local.Note note ∷ rest) world).1)
    (append_assoc log (local_told place cell (local.Note note) world).0 (all_told place cell rest (local_told place cell (local.Note note) world).1).0)
    (all_walk own journal place cell rest (local_told place cell (local.Note note) world).1 (log ++ (local_told place cell (local.Note note) world).0) d st
    (one_told (Good journal) (keeps_good journal) log place cell (local.Note note) world g) due new
    (let q = note_quiet log world.names world.last note in walk_quiet place d d st st log _ world (local_told place cell (local.Note note) world).1
    (quiet_entry log (note_entry world.names world.last note) world (local_told place cell (local.Note note) world).1 (same_sockets world (local_told place cell (local.Note note) world).1 refl refl) q.none q.one q.accepting) (λ n x e. e) (λ n e. e) w))

-- ---- a world and its log

pub record Written (journal : List Line) (log : List Entry) (world : World) : Type 0 where
  pub base : Orderly journal log world
  pub fits : LogFits log world
  pub agrees : (place : ℕ) (cell : Cell × ℕ) → slice_get world.cells place ≡ Some cell → Agrees (due_at cell.0.host) place log world.sockets
  pub known : (place : ℕ) (cell : Cell × ℕ) → slice_get world.cells place ≡ Some cell → Known (stage_at cell.0.host) place world.sockets

-- once a socket has come to the cell at this place, which doesn't know of it yet: an answer is due there
pub record WrittenMid (journal : List Line) (place number : ℕ) (log : List Entry) (world : World) : Type 0 where
  pub base : OrderlyMid journal place number log world
  pub fits : LogFits log world
  pub agrees : (p : ℕ) (cell : Cell × ℕ) → (place == p) ≡ false → slice_get world.cells p ≡ Some cell → Agrees (due_at cell.0.host) p log world.sockets
  pub known : (p : ℕ) (cell : Cell × ℕ) → (place == p) ≡ false → slice_get world.cells p ≡ Some cell → Known (stage_at cell.0.host) p world.sockets
  pub here : (cell : Cell × ℕ) → slice_get world.cells place ≡ Some cell → Agrees (λ n. cond (number == n) (Some Answering) (due_at cell.0.host n)) place log world.sockets
  pub here_known : (cell : Cell × ℕ) → slice_get world.cells place ≡ Some cell → (n : ℕ) → (number == n) ≡ false → stage_at cell.0.host n ≡ None → find_end place n world.sockets ≡ None

written_quiet : (journal : List Line) (log now : List Entry) (one two : World) → Quiet log one now two → Orderly journal now two → Written journal log one → Written journal now two
written_quiet journal log now one two q base w = record {
  base = base;
  fits = quiet_fits log now one two q w.fits;
  agrees = λ place cell at. quiet_agrees log now one two (due_at cell.0.host) place q (w.agrees place cell (was place cell at));
  known = λ place cell at. quiet_known log now one two (stage_at cell.0.host) place q (w.known place cell (was place cell at));
} where
  was : (p : ℕ) (cell : Cell × ℕ) → slice_get two.cells p ≡ Some cell → slice_get one.cells p ≡ Some cell
  was p cell at = ap (λ (cells : List (Cell × ℕ)). slice_get cells p) (sym q.same.cells) ∙ at

-- an entry that changes no end
plain_entry : (journal : List Line) (log : List Entry) (x : Entry) (world : World) → ((s : SockName) (e : End) → writing s e x ≡ None) → WritesOne log x → writes_after_accepting log x ≡ true → Orderly journal (log ++ x ∷ []) world → Written journal log world → Written journal (log ++ x ∷ []) world
plain_entry journal log x world none one accepting base w = written_quiet journal log (log ++ x ∷ []) world world (quiet_entry log x world world (same_sockets world world refl refl) none one accepting) base w

-- an entry that changes one
end_entry : (journal : List Line) (log : List Entry) (x : Entry) (world : World) (s : SockName) (e : End) (f : WorldEnd → WorldEnd) → KeepsPlace f → ((s : SockName) (e : End) → writing s e x ≡ None) → WritesOne log x → writes_after_accepting log x ≡ true → Orderly journal (log ++ x ∷ []) (with_end_of s e f world) → Written journal log world → Written journal (log ++ x ∷ []) (with_end_of s e f world)
end_entry journal log x world s e f k none one accepting base w = written_quiet journal log (log ++ x ∷ []) world (with_end_of s e f world) (quiet_entry log x world (with_end_of s e f world) (kept_same s e f world k) none one accepting) base w

-- ---- what a cell hears

pub same_fits : (log : List Entry) (one two : World) → two.sockets ≡ one.sockets → LogFits log one → LogFits log two
same_fits log one two same f = record {
  spelled = f.spelled;
  accepting = f.accepting;
  unopened = λ s e none. f.unopened s e (ap (find (is_socket_named s)) (sym same) ∙ none);
  waiting = λ s socket found pending. f.waiting s socket (ap (find (is_socket_named s)) (sym same) ∙ found) pending;
  unowned = λ s e socket found off. f.unowned s e socket (ap (find (is_socket_named s)) (sym same) ∙ found) off;
}

hears_walk : (journal : List Line) (log : List Entry) (world : World) (place : ℕ) (cell : Cell × ℕ) (event : LocalEvent) (verdict : Verdict) (told : List LocalEntry) (after : Cell) → CellFits cell → ComesNewTo cell.0.host event → cell_step cell.0 event ≡ Ok ((verdict, told), after) → Good journal log world
    → Orderly journal (log ++ (after_all place after cell.1 told world).0) (after_all place after cell.1 told world).1 → LogFits log world
    → ((p : ℕ) (other : Cell × ℕ) → (place == p) ≡ false → slice_get world.cells p ≡ Some other → Agrees (due_at other.0.host) p log world.sockets)
    → ((p : ℕ) (other : Cell × ℕ) → (place == p) ≡ false → slice_get world.cells p ≡ Some other → Known (stage_at other.0.host) p world.sockets)
    → Agrees (λ n. due_told event n (due_at cell.0.host n)) place log world.sockets
    → ((n : ℕ) → has_after event n (is_some (stage_at cell.0.host n)) ≡ false → find_end place n world.sockets ≡ None)
    → Written journal (log ++ (after_all place after cell.1 told world).0) (after_all place after cell.1 told world).1
hears_walk journal log world place cell event verdict told after fits new e g base log_fits agrees known here here_known = record {
  base = base;
  fits = walked.fits;
  agrees = λ p other at. by_agrees p other (place == p) refl (was p other at);
  known = λ p other at. by_known p other (place == p) refl (was p other at);
} where
  start : World
  start = with_cell place (after, cell.1) world

  end : World
  end = (all_told place after told start).1

  later : List Entry
  later = log ++ (all_told place after told start).0

  writes : WritesOn (own_address cell.0.host) (λ n. due_told event n (due_at cell.0.host n)) (steps_in told) after.host
  writes = cell_writes (own_address cell.0.host) cell.0 after event verdict told fits.orderly new e

  tells : TellsFrom cell.0.host event told after.host
  tells = cell_tells (own_address cell.0.host) cell.0 after event verdict told fits.orderly new e

  none_some : (o : Option Stage) → o ≡ None → is_some o ≡ false
  none_some None h = refl
  none_some (Some stage) h = absurd cc

  others_were : (p : ℕ) (other : Cell × ℕ) → (place == p) ≡ false → slice_get start.cells p ≡ Some other → slice_get world.cells p ≡ Some other
  others_were p other off at = got_other world.cells place p (after, cell.1) other (numbers_differ place p off) at

  walked : Walk place (λ n. due_after_all n (steps_in told) (due_told event n (due_at cell.0.host n))) (λ n. stage_after_all n (steps_in told) (tells.first n)) later end
  walked = all_walk (own_address cell.0.host) journal place after told start log (λ n. due_told event n (due_at cell.0.host n)) tells.first ((keeps_good journal).cell log world place (after, cell.1) g) writes.writes.due tells.new (record {
    fits = same_fits log world start refl log_fits;
    here = here;
    known = λ n none. here_known n (sym (tells.has n) ∙ none_some (tells.first n) none);
    others = λ p other off at. agrees p other off (others_were p other off at);
    others_known = λ p other off at. known p other off (others_were p other off at);
  })

  was : (p : ℕ) (other : Cell × ℕ) → slice_get end.cells p ≡ Some other → slice_get start.cells p ≡ Some other
  was p other at = ap (λ (cells : List (Cell × ℕ)). slice_get cells p) (sym (all_cells place after told start)) ∙ at

  still : (p : ℕ) (other : Cell × ℕ) → slice_get start.cells p ≡ Some other → slice_get end.cells p ≡ Some other
  still p other at = ap (λ (cells : List (Cell × ℕ)). slice_get cells p) (all_cells place after told start) ∙ at

  is_after : (p : ℕ) (other : Cell × ℕ) → (place == p) ≡ true → slice_get start.cells p ≡ Some other → other ≡ (after, cell.1)
  is_after p other h at = got_set world.cells place (after, cell.1) other (subst (λ (n : ℕ). slice_get (slice_set world.cells place (after, cell.1)) n ≡ Some other) (sym (number_is place p h)) at)

  by_agrees : (p : ℕ) (other : Cell × ℕ) (b : Bool) → (place == p) ≡ b → slice_get start.cells p ≡ Some other → Agrees (due_at other.0.host) p later end.sockets
  by_agrees p other true h at = subst (λ (c : Cell × ℕ). Agrees (due_at c.0.host) p later end.sockets) (sym (is_after p other h at)) (subst (λ (m : ℕ). Agrees (due_at after.host) m later end.sockets) (number_is place p h) (λ n due end is found. walked.here n due end (sym (writes.writes.leads n) ∙ is) found))
  by_agrees p other false h at = walked.others p other h (still p other at)

  by_known : (p : ℕ) (other : Cell × ℕ) (b : Bool) → (place == p) ≡ b → slice_get start.cells p ≡ Some other → Known (stage_at other.0.host) p end.sockets
  by_known p other true h at = subst (λ (c : Cell × ℕ). Known (stage_at c.0.host) p end.sockets) (sym (is_after p other h at)) (subst (λ (m : ℕ). Known (stage_at after.host) m end.sockets) (number_is place p h) (λ n none. walked.known n (sym (tells.stages n) ∙ none)))
  by_known p other false h at = walked.others_known p other h (still p other at)

pub same_due : (event : LocalEvent) → comes_none event ≡ true → (n : ℕ) (due : Option Due) → due_told event n due ≡ due
same_due (events.Make end) e n due = refl
same_due (events.Command end by command) e n due = refl
same_due (events.Shut end) e n due = refl
same_due (events.Came mark sock peer_host) e n due = absurd cc
same_due (events.Socket (sockets.Joined sock)) e n due = refl
same_due (events.Socket (sockets.Came sock peer_host)) e n due = absurd cc
same_due (events.Socket (sockets.Refused sock)) e n due = refl
same_due (events.Socket (sockets.Fed sock bytes)) e n due = refl
same_due (events.Socket (sockets.Ended sock)) e n due = refl
same_due (events.Socket (sockets.Lost sock)) e n due = refl
same_due (events.Socket (sockets.Late end peer)) e n due = refl

pub none_of : (o : Option Stage) → is_some o ≡ false → o ≡ None
none_of None e = refl
none_of (Some stage) e = absurd cc

pub heard_written : (journal : List Line) (log : List Entry) (world : World) (place : ℕ) (cell : Cell × ℕ) (event : LocalEvent) (verdict : Verdict) (told : List LocalEntry) (after : Cell) → comes_none event ≡ true → slice_get world.cells place ≡ Some cell → cell_step cell.0 event ≡ Ok ((verdict, told), after) → Written journal log world
    → Written journal (log ++ (after_all place after cell.1 told world).0) (after_all place after cell.1 told world).1
heard_written journal log world place cell event verdict told after none at e w = hears_walk journal log world place cell event verdict told after (w.base.cells place cell at) (nothing_new cell.0.host event none) e w.base.good
    ((keeps_orderly journal).heard log world place cell event verdict told after none at e w.base) w.fits (λ p other off there. w.agrees p other there) (λ p other off there. w.known p other there)
    (λ n due end is found. w.agrees place cell at n due end (sym (same_due event none n (due_at cell.0.host n)) ∙ is) found)
    (λ n h. w.known place cell at n (none_of (stage_at cell.0.host n) (sym (no_more event none n (is_some (stage_at cell.0.host n))) ∙ h)))

pub heard_come_written : (journal : List Line) (log : List Entry) (world : World) (place number mark : ℕ) (host : List ℕ) (cell : Cell × ℕ) (verdict : Verdict) (told : List LocalEntry) (after : Cell) → slice_get world.cells place ≡ Some cell → cell_step cell.0 (events.Came mark number host) ≡ Ok ((verdict, told), after) → WrittenMid journal place number log world
    → Written journal (log ++ (after_all place after cell.1 told world).0) (after_all place after cell.1 told world).1
heard_come_written journal log world place number mark host cell verdict told after at e w = hears_walk journal log world place cell (events.Came mark number host) verdict told after (w.base.cells place cell at) (come_new number mark host cell (w.base.come cell at)) e w.base.good
    ((keeps_orderly journal).heard_come log world place number mark host cell verdict told after at e w.base) w.fits w.agrees w.known (w.here cell at)
    (λ n h. by_number n (number == n) refl h) where
      by_number : (n : ℕ) (b : Bool) → (number == n) ≡ b → cond b true (is_some (stage_at cell.0.host n)) ≡ false → find_end place n world.sockets ≡ None
      by_number n true g h = absurd cc
      by_number n false g h = w.here_known cell at n g (none_of (stage_at cell.0.host n) h)

-- ---- a socket that has come

come_keeps : (number : ℕ) (end : WorldEnd) → is_pending (come_end number end).stage ≡ true → ⊥
come_keeps number end e = absurd cc

pub came_written : (journal : List Line) (log : List Entry) (world : World) (socket : WorldSocket) (place : ℕ) (cell : Cell × ℕ) → IsIn socket world → is_pending socket.t.stage ≡ true → socket.t.cell ≡ Some place → slice_get world.cells place ≡ Some cell → Written journal log world
    → WrittenMid journal place (2 * cell.1 + 1) (log ++ entries.Came socket.name ∷ []) (with_end_of socket.name T (come_end (2 * cell.1 + 1)) (with_cell place (cell.0, cell.1 + 1) world))
came_written journal log world socket place cell is pending of at w = subst (WrittenMid journal place number later) (sym (with_end_is socket.name T (come_end number) counted socket is)) (record {
  base = subst (OrderlyMid journal place number later) (with_end_is socket.name T (come_end number) counted socket is) base;
  fits = record {
    spelled = each_more [] log (entries.Came socket.name) w.fits.spelled tt;
    accepting = accepting_more log (entries.Came socket.name) w.fits.accepting refl;
    unopened = λ s e none. wrote_more log (entries.Came socket.name) s e refl ∙ w.fits.unopened s e (by_absent s (is_socket_named s new) (sym (find_stored new world.sockets s) ∙ none));
    waiting = λ s other found waits. by_waiting s other waits (is_socket_named s new) (sym (find_stored new world.sockets s) ∙ found);
    unowned = λ s e other found off. by_owned s e other off (is_socket_named s new) refl (sym (find_stored new world.sockets s) ∙ found);
  };
  agrees = λ p other off there n due a is found. wrote due a (w.agrees p other (was p other off there) n due a is (sym (elsewhere p n (ap (λ b. b && (number == n)) off)) ∙ found));
  known = λ p other off there n none. elsewhere p n (ap (λ b. b && (number == n)) off) ∙ w.known p other (was p other off there) n none;
  here = λ there h n due a is found. by_due there (is_cell there h) n due a (number == n) refl is found;
  here_known = λ there h n off none. elsewhere place n (ap (λ b. b && (number == n)) (number_same place) ∙ off) ∙ w.known place cell at n (ap (λ (c : Cell × ℕ). stage_at c.0.host n) (sym (is_cell there h)) ∙ none);
}) where
  number : ℕ
  number = 2 * cell.1 + 1

  counted : World
  counted = with_cell place (cell.0, cell.1 + 1) world

  later : List Entry
  later = log ++ entries.Came socket.name ∷ []

  new : WorldSocket
  new = with_end T (come_end number (end_of T socket)) socket

  base : OrderlyMid journal place number later (with_end_of socket.name T (come_end number) counted)
  base = (keeps_orderly journal).came log world socket place cell is pending of at w.base

  not_come : socket.t.number ≡ None
  not_come = (w.fits.waiting socket.name socket is pending).0

  no_number : (p n : ℕ) → is_end_of p n socket.t ≡ false
  no_number p n = ap (λ (o : Option ℕ). same_number socket.t.cell p && same_number o n) not_come ∙ by_test (same_number socket.t.cell p) where
    by_test : (b : Bool) → (b && false) ≡ false
    by_test true = refl
    by_test false = refl

  come_number : (p n : ℕ) → is_end_of p n new.t ≡ ((place == p) && (number == n))
  come_number p n = ap (λ (o : Option ℕ). same_number o p && (number == n)) of

  elsewhere : (p n : ℕ) → ((place == p) && (number == n)) ≡ false → find_end p n (store_in new world.sockets) ≡ find_end p n world.sockets
  elsewhere p n off = same_found p n new socket world.sockets is (ap (λ b. cond (is_end_of p n socket.o) (Some O) (cond b (Some T) None)) (come_number p n ∙ off ∙ sym (no_number p n)))

  free : find_end place number world.sockets ≡ None
  free = w.known place cell at number ((w.base.cells place cell at).odd cell.1 (self cell.1)) where
    self : (n : ℕ) → ◌≤◌ n n
    self n = omega arith

  opener_not : (a b : Bool) → cond a (Some O) (cond b (Some T) None) ≡ None → a ≡ false
  opener_not true b e = absurd cc
  opener_not false b e = refl

  come_at : end_at place number new ≡ Some T
  come_at = ap (λ b. cond b (Some O) (cond (is_end_of place number new.t) (Some T) None)) (opener_not (is_end_of place number socket.o) (is_end_of place number socket.t) (none_at place number world.sockets socket.name socket free is))
      ∙ ap (λ b. cond b (Some T) None) (come_number place number ∙ ap (λ b. b && (number == number)) (number_same place) ∙ number_same number)

  there_now : find_end place number (store_in new world.sockets) ≡ Some (socket.name, T)
  there_now = come_found place number new socket T world.sockets is free come_at

  wrote : (due : Due) (a : SockName × End) → FitsDue due a.1 (writings log a.0 a.1) → FitsDue due a.1 (writings later a.0 a.1)
  wrote due a f = subst (FitsDue due a.1) (sym (wrote_more log (entries.Came socket.name) a.0 a.1 refl)) f

  was : (p : ℕ) (other : Cell × ℕ) → (place == p) ≡ false → slice_get counted.cells p ≡ Some other → slice_get world.cells p ≡ Some other
  was p other off there = got_other world.cells place p (cell.0, cell.1 + 1) other (numbers_differ place p off) there

  is_cell : (there : Cell × ℕ) → slice_get counted.cells place ≡ Some there → there ≡ (cell.0, cell.1 + 1)
  is_cell there h = got_set world.cells place (cell.0, cell.1 + 1) there h

  by_absent : (s : SockName) (b : Bool) → cond b (Some new) (find (is_socket_named s) world.sockets) ≡ None → find (is_socket_named s) world.sockets ≡ None
  by_absent s true e = absurd cc
  by_absent s false e = e

  by_waiting : (s : SockName) (other : WorldSocket) → is_pending other.t.stage ≡ true → (b : Bool) → cond b (Some new) (find (is_socket_named s) world.sockets) ≡ Some other → (other.t.number ≡ None) × (writings later s T ≡ [])
  by_waiting s other waits true found = let same : new ≡ other = cc in let no : false ≡ true = ap (λ (v : WorldSocket). is_pending v.t.stage) same ∙ waits in absurd cc
  by_waiting s other waits false found = let old = w.fits.waiting s other found waits in (old.0, wrote_more log (entries.Came socket.name) s T refl ∙ old.1)

  same_cells : (e : End) → (end_of e new).cell ≡ (end_of e socket).cell
  same_cells O = refl
  same_cells T = refl

  by_owned : (s : SockName) (e : End) (other : WorldSocket) → (end_of e other).cell ≡ None → (b : Bool) → is_socket_named s new ≡ b → cond b (Some new) (find (is_socket_named s) world.sockets) ≡ Some other → writings later s e ≡ []
  by_owned s e other off true h found = let same : new ≡ other = cc in wrote_more log (entries.Came socket.name) s e refl
      ∙ w.fits.unowned s e socket (subst (λ (m : SockName). find (is_socket_named m) world.sockets ≡ Some socket) (same_is socket.name s h) is) (sym (same_cells e) ∙ ap (λ (v : WorldSocket). (end_of e v).cell) same ∙ off)
  by_owned s e other off false h found = wrote_more log (entries.Came socket.name) s e refl ∙ w.fits.unowned s e other found off

  by_due : (there : Cell × ℕ) → there ≡ (cell.0, cell.1 + 1) → (n : ℕ) (due : Due) (a : SockName × End) (b : Bool) → (number == n) ≡ b → cond b (Some Answering) (due_at there.0.host n) ≡ Some due → find_end place n (store_in new world.sockets) ≡ Some a → FitsDue due a.1 (writings later a.0 a.1)
  by_due there same n due a true h e found =
      let which : Answering ≡ due = cc in
      let both : ◌≡◌ {A = Option (SockName × End)} (Some (socket.name, T)) (Some a) = sym there_now ∙ ap (λ (m : ℕ). find_end place m (store_in new world.sockets)) (number_is number n h) ∙ found in
      let one : (socket.name, T) ≡ a = cc in
      subst (λ (x : Due). FitsDue x a.1 (writings later a.0 a.1)) which (subst (λ (z : SockName × End). FitsDue Answering z.1 (writings later z.0 z.1)) one
      (refl, wrote_more log (entries.Came socket.name) socket.name T refl ∙ (w.fits.waiting socket.name socket is pending).1))
  by_due there same n due a false h e found = wrote due a (w.agrees place cell at n due a (ap (λ (c : Cell × ℕ). due_at c.0.host n) (sym same) ∙ e) (sym (elsewhere place n (ap (λ b. b && (number == n)) (number_same place) ∙ h)) ∙ found))

-- where no cell is at the place it is as it was
pub nowhere_written : (journal : List Line) (log : List Entry) (world : World) (place number : ℕ) → slice_get world.cells place ≡ None → WrittenMid journal place number log world → Written journal log world
nowhere_written journal log world place number none w = record {
  base = (keeps_orderly journal).heard_nowhere log world place number none w.base;
  fits = w.fits;
  agrees = λ p cell at. w.agrees p cell (off p cell at) at;
  known = λ p cell at. w.known p cell (off p cell at) at;
} where
  off : (p : ℕ) (cell : Cell × ℕ) → slice_get world.cells p ≡ Some cell → (place == p) ≡ false
  off p cell at = by_test (place == p) refl where
    by_test : (b : Bool) → (place == p) ≡ b → b ≡ false
    by_test true h = let no : ◌≡◌ {A = Option (Cell × ℕ)} None (Some cell) = sym none ∙ ap (slice_get world.cells) (number_is place p h) ∙ at in absurd cc
    by_test false h = refl

-- ---- a stranger's socket

pub knocked_written : (journal : List Line) (log : List Entry) (world : World) (stranger node : List ℕ) → Orderly journal (log ++ entries.Knocked (stranger_socket stranger node world).name ∷ []) (with_socket (stranger_socket stranger node world) world) → Written journal log world → Written journal (log ++ entries.Knocked (stranger_socket stranger node world).name ∷ []) (with_socket (stranger_socket stranger node world) world)
knocked_written journal log world stranger node base w = record {
  base = base;
  fits = new_fits log (entries.Knocked new.name) new world none number (λ s e. refl) tt refl w.fits;
  agrees = λ place cell at n due a is found. subst (FitsDue due a.1) (sym (wrote_more log (entries.Knocked new.name) a.0 a.1 refl)) (w.agrees place cell at n due a is (sym (same place n) ∙ found));
  known = λ place cell at n e. same place n ∙ w.known place cell at n e;
} where
  new : WorldSocket
  new = stranger_socket stranger node world

  none : find (is_socket_named new.name) world.sockets ≡ None
  none = next_is_new world stranger node w.base.good.numbered

  number : new.t.number ≡ None
  number = by_cell (cell_of world (address_as world.names node)) where
    by_cell : (o : Option ℕ) → (target_end o).number ≡ None
    by_cell None = refl
    by_cell (Some place) = refl

  same : (p n : ℕ) → find_end p n (store_in new world.sockets) ≡ find_end p n world.sockets
  same p n = new_same p n new world.sockets none number refl

-- ---- all lines

pub opened_keeps : KeepsPlace opened
opened_keeps = record { cell = λ end. refl; number = λ end. refl; pending = λ end e. absurd cc }

pub cut_keeps : KeepsPlace cut
cut_keeps = record { cell = λ end. refl; number = λ end. refl; pending = λ end e. e }

pub fed_keeps : (count : ℕ) → KeepsPlace (λ end. record end { unread = drop count end.unread })
fed_keeps count = record { cell = λ end. refl; number = λ end. refl; pending = λ end e. e }

pub keeps_written : (journal : List Line) → Keeps (Unit {0}) AnyCount (WrittenMid journal) (Written journal)
keeps_written journal = record {
  whole = λ left. tt;
  distinct = λ log world w. w.base.good.apart;
  mark = λ log world number answer w. plain_entry journal log (entries.Line number answer) world (λ s e. refl) tt refl ((keeps_orderly journal).mark log world number answer w.base) w;
  settled = λ log world w. plain_entry journal log entries.Settled world (λ s e. refl) tt refl ((keeps_orderly journal).settled log world w.base) w;
  heard = heard_written journal;
  heard_come = heard_come_written journal;
  heard_nowhere = nowhere_written journal;
  joined = λ log world socket is pending w. end_entry journal log (entries.Joined socket.name) world socket.name O opened opened_keeps (λ s e. refl) tt refl ((keeps_orderly journal).joined log world socket is pending w.base) w;
  refused = λ r log world socket is pending w. plain_entry journal log (entries.Refused socket.name) world (λ s e. refl) tt refl ((keeps_orderly journal).refused r log world socket is pending w.base) w;
  came = came_written journal;
  came_nowhere = λ log world socket place is of at w. plain_entry journal log (entries.Came socket.name) world (λ s e. refl) tt refl ((keeps_orderly journal).came_nowhere log world socket place is of at w.base) w;
  fed = λ log world socket which count is stands input u w. end_entry journal log (entries.Fed socket.name which (length (take count (end_of which socket).unread))) world socket.name which (λ end. record end { unread = drop count end.unread }) (fed_keeps count) (λ s e. refl) tt refl ((keeps_orderly journal).fed log world socket which count is stands input u w.base) w;
  lost = λ log world socket which w. plain_entry journal log (entries.Lost socket.name which) world (λ s e. refl) tt refl ((keeps_orderly journal).lost log world socket which w.base) w;
  timed = λ log world node peer w. plain_entry journal log (entries.Timed node peer) world (λ s e. refl) tt refl ((keeps_orderly journal).timed log world node peer w.base) w;
  was_cut = λ log world socket which is w. end_entry journal log (entries.Cut socket.name which) world socket.name which cut cut_keeps (λ s e. refl) tt refl ((keeps_orderly journal).was_cut log world socket which is w.base) w;
  knocked = λ log world stranger node w. knocked_written journal log world stranger node ((keeps_orderly journal).knocked log world stranger node w.base) w;
  poked = λ log world socket bytes is w. end_entry journal log (entries.Poked socket.name bytes) world socket.name T (arrives bytes) (arrives_keeps bytes) (λ s e. refl) tt refl ((keeps_orderly journal).poked log world socket bytes is w.base) w;
  quitted = λ log world socket is w. end_entry journal log (entries.Quitted socket.name) world socket.name O ended ended_keeps (λ s e. refl) tt refl ((keeps_orderly journal).quitted log world socket is w.base) w;
}

pub fresh_written : (journal : List Line) → Written journal [] (world_new journal)
fresh_written journal = record {
  base = fresh_orderly journal;
  fits = record { spelled = tt; accepting = refl; unopened = λ s e none. refl; waiting = λ s socket found pending. absurd cc; unowned = λ s e socket found off. absurd cc };
  agrees = λ place cell at n due end is found. absurd cc;
  known = λ place cell at n none. refl;
}

pub written_after : (journal lines : List Line) (log : List Entry) (world : World) → log_from (world_new journal) lines ≡ Ok (log, world) → Written journal log world
written_after journal lines log world is = holds_after (Written journal) (keeps_written journal) journal lines (fresh_written journal) log world is
