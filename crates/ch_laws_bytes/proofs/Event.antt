-- What a cell makes of an event keeps the streams: first what its host reads, then its steps one by one.
use Rattle.std.proofs.Common.{◌≡◌, ℕ, Bool, true, false, cond, List, Ok, refl, sym, ap, ◌∙◌, subst}
use Rattle.std.specs.Prelude.{find, is_some, slice_get, slice_set, Option, Some, None, ◌==◌}
use Rattle.ch_base.specs.declared.address.Address.{Address}
use Rattle.ch_model.specs.declared.entry.Entry.{Entry}
use Rattle.ch_model.specs.declared.entry.Verdict.{Verdict}
use Rattle.ch_model.specs.declared.line.Line.{Line}
use Rattle.ch_model.specs.declared.local.LocalEntry.{LocalEntry}
use Rattle.ch_model.specs.declared.local.LocalEvent.{LocalEvent}
use Rattle.ch_model.specs.declared.name.End.{End}
use Rattle.ch_model.specs.declared.name.SockName.{SockName}
use Rattle.ch_model.specs.Cell.{cell_step}
use Rattle.ch_model.specs.HostState.{HostState}
use Rattle.ch_model.specs.HostSteps.{is_socket}
use Rattle.ch_model.specs.Naming.{Names}
use Rattle.ch_model.specs.WorldHappenings.{with_cell}
use Rattle.ch_model.specs.WorldSockets.{end_of, is_socket_named, is_end_of}
use Rattle.ch_model.specs.WorldState.{Cell, WorldSocket, World}
use Rattle.ch_model.specs.WorldSteps.{all_told}
use Rattle.ch_laws_log.specs.HostEnds.{AreNewTo, IsSound, steps_in}
use Rattle.ch_laws_log.specs.WorldEnds.{stage_found, stage_held}
use Rattle.ch_laws_log.proofs.Stored.{number_is, number_same}
use Rattle.ch_laws_ends.proofs.Changes.{told_cells}
use Rattle.ch_laws_ends.proofs.Found.{EachFound, Stands}
use Rattle.ch_laws_ends.proofs.Known.{Sorted, keeps_sorted}
use Rattle.ch_laws_ends.proofs.Places.{got_same, got_other, set_split}
use Rattle.ch_laws_reads.specs.Reads.{Reads, handed}
use Rattle.ch_laws_reads.proofs.CellReads.{cell_read}
use Rattle.ch_laws_writes.specs.Dues.{Due, due_at, due_after_all, due_told, AllDue}
use Rattle.ch_laws_writes.specs.Orderly.{IsOrderly, WritesOn, ComesNewTo}
use Rattle.ch_laws_writes.proofs.Cells.{cell_writes}
use Rattle.ch_laws_bytes.specs.Streams.{Reader, reader_in, reader_at, readers_of, due_in, dues_of, AllFlow, all_moved}
use Rattle.ch_laws_bytes.proofs.Reading.{After, after_none, reading_flow, read_as, host_after, host_first}
use Rattle.ch_laws_bytes.proofs.Sockets.{all_as}
use Rattle.ch_laws_bytes.proofs.Stepped.{ReadsFirst}
use Rattle.ch_laws_bytes.proofs.Told.{MaySayAll, told_names, told_flow, moved_is}

-- ---- a world

-- each host is orderly, and all sockets' streams are as their hosts read and write
pub record Flowing (own : ℕ → ℕ → Address) (world : World) : Type 0 where
  pub orderly : (place : ℕ) (cell : Cell × ℕ) → slice_get world.cells place ≡ Some cell → IsOrderly (own place) cell.0.host
  pub flow : AllFlow own world.names (readers_of world.cells) (dues_of world.cells) world.sockets

-- as one host reads, and all others
abbrev pub given_readers : ℕ → HostState → List (Cell × ℕ) → ℕ → ℕ → Option Reader
given_readers place host cells p n = cond (place == p) (reader_in (find (is_socket n) host.sockets)) (readers_of cells p n)

-- and as it writes
abbrev pub given_dues : ℕ → (ℕ → Option Due) → List (Cell × ℕ) → ℕ → ℕ → Option Due
given_dues place dues cells p n = cond (place == p) (dues n) (dues_of cells p n)

others : (k j : ℕ) → (k == j) ≡ false → k ≡ j → ⊥
others k j e is = let same : (k == j) ≡ true = subst (λ (m : ℕ). (k == m) ≡ true) is (number_same k) in absurd cc

pub set_at : {A : Type 0} (xs : List A) (k : ℕ) (x y : A) (j : ℕ) → slice_get xs k ≡ Some x → slice_get (slice_set xs k y) j ≡ cond (k == j) (Some y) (slice_get xs j)
set_at {A = A} xs k x y j at = by_test (k == j) refl where
  by_test : (b : Bool) → (k == j) ≡ b → slice_get (slice_set xs k y) j ≡ cond b (Some y) (slice_get xs j)
  by_test true e = subst (λ (m : ℕ). slice_get (slice_set xs k y) m ≡ Some y) (number_is k j e) (got_same xs k x y at)
  by_test false e = got_other xs k j y (others k j e)

-- the cells where one is set read as it does
pub readers_set : (cells : List (Cell × ℕ)) (place : ℕ) (was now : Cell × ℕ) → slice_get cells place ≡ Some was → (p n : ℕ) → readers_of (slice_set cells place now) p n ≡ given_readers place now.0.host cells p n
readers_set cells place was now at p n = ap (λ (o : Option (Cell × ℕ)). reader_at o n) (set_at cells place was now p at) ∙ by_test (place == p) where
  by_test : (b : Bool) → reader_at (cond b (Some now) (slice_get cells p)) n ≡ cond b (reader_in (find (is_socket n) now.0.host.sockets)) (readers_of cells p n)
  by_test true = refl
  by_test false = refl

pub dues_set : (cells : List (Cell × ℕ)) (place : ℕ) (was now : Cell × ℕ) → slice_get cells place ≡ Some was → (p n : ℕ) → dues_of (slice_set cells place now) p n ≡ given_dues place (due_at now.0.host) cells p n
dues_set cells place was now at p n = ap (λ (o : Option (Cell × ℕ)). due_in o n) (set_at cells place was now p at) ∙ by_test (place == p) where
  by_test : (b : Bool) → due_in (cond b (Some now) (slice_get cells p)) n ≡ cond b (due_at now.0.host n) (dues_of cells p n)
  by_test true = refl
  by_test false = refl

-- ---- what a cell hears

-- What is given where a cell hears an event: the streams are as its host reads with what the event hands to it, and the world
-- has the ends that it then has.
pub record Given (own : ℕ → ℕ → Address) (journal : List Line) (log : List Entry) (world : World) (place : ℕ) (cell : Cell × ℕ) (event : LocalEvent) : Type 0 where
  pub at : slice_get world.cells place ≡ Some cell
  pub sorted : Sorted journal log world
  pub each : EachFound world.sockets
  pub orderly : (p : ℕ) (c : Cell × ℕ) → slice_get world.cells p ≡ Some c → IsOrderly (own p) c.0.host
  pub sound : IsSound (handed event cell.0.host)
  pub comes : ComesNewTo cell.0.host event
  pub there : (n : ℕ) → is_some (find (is_socket n) (handed event cell.0.host).sockets) ≡ is_some (stage_held place n world.sockets)
  pub flow : AllFlow own world.names (given_readers place (handed event cell.0.host) world.cells) (given_dues place (λ n. due_told event n (due_at cell.0.host n)) world.cells) world.sockets

some_is : {A : Type 0} (o : Option A) → is_some o ≡ true → (x : A) × (o ≡ Some x)
some_is None e = absurd cc
some_is (Some x) e = (x, refl)

none_is : {A : Type 0} (o : Option A) → is_some o ≡ false → o ≡ None
none_is None e = refl
none_is (Some x) e = absurd cc

pub told_flowing : (own : ℕ → ℕ → Address) (journal : List Line) (log : List Entry) (world : World) (place : ℕ) (cell : Cell × ℕ) (event : LocalEvent) (after : Cell) (verdict : Verdict) (told : List LocalEntry) → Given own journal log world place cell event
    → ((n : ℕ) → AreNewTo n (steps_in told) (stage_held place n world.sockets)) → cell_step cell.0 event ≡ Ok ((verdict, told), after) → Flowing own (all_told place after told (with_cell place (after, cell.1) world)).1
told_flowing own journal log world place cell event after verdict told g new done = record {
  orderly = λ p c f. set_split world.cells place cell (after, cell.1) g.at (λ p c. IsOrderly (own p) c.0.host) writes.orderly (λ p c e f. g.orderly p c f) p c (sym (ap (λ (l : List (Cell × ℕ)). slice_get l p) cells_now) ∙ f);
  flow = subst (λ (known : Names). AllFlow own known (readers_of final.cells) (dues_of final.cells) final.sockets) (sym (told_names place after told kept))
      (read_as own world.names now (readers_of final.cells) (dues_of final.cells) final.sockets readers_now (all_as own world.names now (all_moved place (steps_in told) dues) (dues_of final.cells) final.sockets dues_now said));
} where
  kept : World
  kept = with_cell place (after, cell.1) world

  final : World
  final = (all_told place after told kept).1

  before : HostState
  before = handed event cell.0.host

  reads : Reads before (steps_in told) after.host
  reads = cell_read cell.0 after event verdict told g.sound done

  writes : WritesOn (own place) (λ n. due_told event n (due_at cell.0.host n)) (steps_in told) after.host
  writes = cell_writes (own place) cell.0 after event verdict told (g.orderly place cell g.at) g.comes done

  dues : ℕ → ℕ → Option Due
  dues = given_dues place (λ n. due_told event n (due_at cell.0.host n)) world.cells

  now : ℕ → ℕ → Option Reader
  now = given_readers place after.host world.cells

  cells_now : final.cells ≡ slice_set world.cells place (after, cell.1)
  cells_now = told_cells place after told kept

  here : {A : Type 0} (x y : A) → cond (place == place) x y ≡ x
  here x y = ap (λ b. cond b x y) (number_same place)

  held_is : (s : SockName) (socket : WorldSocket) (e : End) (n : ℕ) → find (is_socket_named s) world.sockets ≡ Some socket → is_end_of place n (end_of e socket) ≡ true → is_some (stage_held place n world.sockets) ≡ true
  held_is s socket e n is of = ap is_some (ap (λ (o : Option (SockName × End)). stage_found o world.sockets) (g.each s socket e place n is of) ∙ ap (Stands e) is)

  each_after : (s : SockName) (socket : WorldSocket) (e : End) (p n : ℕ) → find (is_socket_named s) world.sockets ≡ Some socket → is_end_of p n (end_of e socket) ≡ true → After (given_readers place before world.cells p n) (now p n)
  each_after s socket e p n is of = by_test (place == p) refl where
    by_test : (b : Bool) → (place == p) ≡ b → After (cond b (reader_in (find (is_socket n) before.sockets)) (readers_of world.cells p n)) (cond b (reader_in (find (is_socket n) after.host.sockets)) (readers_of world.cells p n))
    by_test true h =
        let mine : is_end_of place n (end_of e socket) ≡ true = subst (λ (k : ℕ). is_end_of k n (end_of e socket) ≡ true) (sym (number_is place p h)) of in
        let had = some_is (find (is_socket n) before.sockets) (g.there n ∙ held_is s socket e n is mine) in
        host_after before after.host (steps_in told) n had.0 reads had.1
    by_test false h = after_none (readers_of world.cells p n)

  read : AllFlow own world.names now dues world.sockets
  read = reading_flow own world.names (given_readers place before world.cells) now dues world.sockets each_after g.flow

  may : MaySayAll own now dues place (steps_in told) kept
  may = record {
    new = new;
    due = λ n. subst (λ (d : Option Due). AllDue (own place) n (steps_in told) d) (sym (here (due_told event n (due_at cell.0.host n)) (dues_of world.cells place n))) (writes.writes.due n);
    first = λ n none. subst (λ (r : Option Reader). ReadsFirst r) (sym (here (reader_in (find (is_socket n) after.host.sockets)) (readers_of world.cells place n)))
        (host_first before after.host (steps_in told) n reads (none_is (find (is_socket n) before.sockets) (g.there n ∙ ap is_some none)));
  }

  said : AllFlow own world.names now (all_moved place (steps_in told) dues) final.sockets
  said = told_flow own now dues journal place after told log kept ((keeps_sorted journal).cell log world place (after, cell.1) g.sorted) g.each writes.orderly.own_is may read

  readers_now : (p n : ℕ) → readers_of final.cells p n ≡ now p n
  readers_now p n = ap (λ (l : List (Cell × ℕ)). readers_of l p n) cells_now ∙ readers_set world.cells place cell (after, cell.1) g.at p n

  dues_now : (p n : ℕ) → dues_of final.cells p n ≡ all_moved place (steps_in told) dues p n
  dues_now p n = ap (λ (l : List (Cell × ℕ)). dues_of l p n) cells_now ∙ dues_set world.cells place cell (after, cell.1) g.at p n ∙ sym (moved_is place (steps_in told) dues p n ∙ by_test (place == p)) where
    by_test : (b : Bool) → cond b (due_after_all n (steps_in told) (cond b (due_told event n (due_at cell.0.host n)) (dues_of world.cells p n))) (cond b (due_told event n (due_at cell.0.host n)) (dues_of world.cells p n)) ≡ cond b (due_at after.host n) (dues_of world.cells p n)
    by_test true = sym (writes.writes.leads n)
    by_test false = refl
