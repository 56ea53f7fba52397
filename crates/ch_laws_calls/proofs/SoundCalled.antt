-- What a host does in one call keeps what is sure of the ends and the streams: first what it reads, then its steps one by one.
use Rattle.std.proofs.Common.{◌≡◌, ℕ, Bool, true, false, cond, List, [], ◌∷◌, ◌++◌, Ok, refl, sym, ap, ◌∙◌, subst}
use Rattle.std.proofs.lemmas.List.{append-nil}
use Rattle.std.specs.Prelude.{find, is_some, slice_get, slice_set, Result, Option, Some, None, ◌==◌}
use Rattle.ch_model.specs.declared.entry.Entry.{Entry}
use Rattle.ch_model.specs.declared.line.Line.{Line}
use Rattle.ch_model.specs.declared.local.LocalEntry.{LocalEntry}
use Rattle.ch_model.specs.declared.name.End.{End}
use Rattle.ch_model.specs.declared.name.SockName.{SockName}
use Rattle.ch_model.specs.declared.step.Step.{Step}
use Rattle.ch_model.specs.CellSteps.{told_steps}
use Rattle.ch_model.specs.HostState.{Socket, HostState}
use Rattle.ch_model.specs.HostSteps.{is_socket}
use Rattle.ch_model.specs.Naming.{Names}
use Rattle.ch_model.specs.Stages.{Stage}
use Rattle.ch_model.specs.World.{names_of, world_new}
use Rattle.ch_model.specs.WorldHappenings.{with_cell}
use Rattle.ch_model.specs.WorldSockets.{end_of, is_socket_named, is_end_of}
use Rattle.ch_model.specs.WorldState.{Cell, WorldSocket, World}
use Rattle.ch_model.specs.WorldSteps.{all_told}
use Rattle.ch_laws_items.proofs.Hosts as hosts
use Rattle.ch_laws_world.specs.Grows.{Grows, home_of, homes_of}
use Rattle.ch_laws_world.proofs.Steps.{celled, told_all}
use Rattle.ch_laws_log.specs.HostEnds.{AreNewTo, IsSound, Tells, AllTold, steps_in}
use Rattle.ch_laws_log.specs.WorldEnds.{stage_found, stage_held}
use Rattle.ch_laws_log.proofs.HostTold as ends
use Rattle.ch_laws_log.proofs.Stored.{number_is, number_same}
use Rattle.ch_laws_ends.proofs.Changes.{told_cells}
use Rattle.ch_laws_ends.proofs.Found.{Stands}
use Rattle.ch_laws_ends.proofs.Known.{Sorted, keeps_sorted}
use Rattle.ch_laws_ends.proofs.Places.{got_same, set_twice, set_split}
use Rattle.ch_laws_ends.proofs.Told.{Sure, told_sure}
use Rattle.ch_laws_reads.specs.Reads.{Reads, AllRead}
use Rattle.ch_laws_writes.specs.Dues.{Due, due_at, due_after_all, AllDue}
use Rattle.ch_laws_writes.specs.Orderly.{IsOrderly, WritesOn, AllWrite}
use Rattle.ch_laws_bytes.specs.Streams.{Reader, reader_in, readers_of, dues_of, AllFlow, all_moved}
use Rattle.ch_laws_bytes.proofs.Event.{Flowing, given_readers, given_dues, readers_set, dues_set}
use Rattle.ch_laws_bytes.proofs.Happen.{readers_there, dues_there, is_some_map}
use Rattle.ch_laws_bytes.proofs.Lines.{own_of}
use Rattle.ch_laws_bytes.proofs.Reading.{After, after_none, reading_flow, read_as, host_after, host_first}
use Rattle.ch_laws_bytes.proofs.Sockets.{all_as}
use Rattle.ch_laws_bytes.proofs.Stepped.{ReadsFirst}
use Rattle.ch_laws_bytes.proofs.Told.{MaySayAll, told_names, told_flow, moved_is}
use Rattle.ch_laws_many.proofs.Addresses.{AllNamed}
use Rattle.ch_laws_many.proofs.Led.{IsSet, grown_set, all_set}
use Rattle.ch_laws_calls.specs.Calls.{with_host, done_at}
use Rattle.ch_laws_calls.specs.Sound.{SoundEnds}

-- What is given of a call: the cell at a place told these steps, from the host on that has what the call begins with: bytes that
-- were handed to it, and an end that opened. The world has that too, and its streams are as that host reads, and as was due before.
pub record Called (journal : List Line) (log : List Entry) (world : World) (place : ℕ) (cell : Cell × ℕ) (before : HostState) (dues : ℕ → Option Due) (told : List LocalEntry) (after : Cell) : Type 0 where
  pub named : AllNamed (names_of journal)
  pub at : slice_get world.cells place ≡ Some cell
  pub sure : Sure journal log (with_cell place (record (cell.0) { host = before }, cell.1) world)
  pub set : IsSet (names_of journal) world
  pub homes : homes_of world.cells ≡ homes_of (world_new journal).cells
  pub home : home_of after ≡ home_of cell.0
  pub orderly : (p : ℕ) (c : Cell × ℕ) → slice_get world.cells p ≡ Some c → IsOrderly (own_of journal p) c.0.host
  pub tells : Tells before (steps_in told) after.host
  pub reads : Reads before (steps_in told) after.host
  pub writes : WritesOn (own_of journal place) dues (steps_in told) after.host
  pub flow : AllFlow (own_of journal) world.names (given_readers place before world.cells) (given_dues place dues world.cells) world.sockets

some_is : {A : Type 0} (o : Option A) → is_some o ≡ true → (x : A) × (o ≡ Some x)
some_is None e = absurd cc
some_is (Some x) e = (x, refl)

none_is : {A : Type 0} (o : Option A) → is_some o ≡ false → o ≡ None
none_is None e = refl
none_is (Some x) e = absurd cc

-- ---- streams

called_flowing : (journal : List Line) (log : List Entry) (world : World) (place : ℕ) (cell : Cell × ℕ) (before : HostState) (dues : ℕ → Option Due) (told : List LocalEntry) (after : Cell) → Called journal log world place cell before dues told after → Flowing (own_of journal) (all_told place after told (with_cell place (after, cell.1) world)).1
called_flowing journal log world place cell before dues told after c = record {
  orderly = λ p x f. set_split world.cells place cell (after, cell.1) c.at (λ p x. IsOrderly (own_of journal p) x.0.host) c.writes.orderly (λ p x e f. c.orderly p x f) p x (sym (ap (λ (l : List (Cell × ℕ)). slice_get l p) cells_now) ∙ f);
  flow = subst (λ (known : Names). AllFlow (own_of journal) known (readers_of final.cells) (dues_of final.cells) final.sockets) (sym (told_names place after told kept))
      (read_as (own_of journal) world.names now (readers_of final.cells) (dues_of final.cells) final.sockets readers_now
      (all_as (own_of journal) world.names now (all_moved place (steps_in told) were) (dues_of final.cells) final.sockets dues_now said));
} where
  opened : Cell × ℕ
  opened = (record (cell.0) { host = before }, cell.1)

  kept : World
  kept = with_cell place (after, cell.1) world

  final : World
  final = (all_told place after told kept).1

  were : ℕ → ℕ → Option Due
  were = given_dues place dues world.cells

  now : ℕ → ℕ → Option Reader
  now = given_readers place after.host world.cells

  cells_now : final.cells ≡ slice_set world.cells place (after, cell.1)
  cells_now = told_cells place after told kept

  here : {A : Type 0} (x y : A) → cond (place == place) x y ≡ x
  here x y = ap (λ b. cond b x y) (number_same place)

  held_is : (s : SockName) (socket : WorldSocket) (e : End) (n : ℕ) → find (is_socket_named s) world.sockets ≡ Some socket → is_end_of place n (end_of e socket) ≡ true → is_some (stage_held place n world.sockets) ≡ true
  held_is s socket e n is of = ap is_some (ap (λ (o : Option (SockName × End)). stage_found o world.sockets) (c.sure.ends.each s socket e place n is of) ∙ ap (Stands e) is)

  -- the host has the ends that the world has of it
  there : (n : ℕ) → is_some (find (is_socket n) before.sockets) ≡ is_some (stage_held place n world.sockets)
  there n = is_some_map (λ (w : Socket). w.stage) (find (is_socket n) before.sockets) ∙ ap is_some (c.sure.ends.agrees.ends place opened (got_same world.cells place cell opened c.at) n)

  each_after : (s : SockName) (socket : WorldSocket) (e : End) (p n : ℕ) → find (is_socket_named s) world.sockets ≡ Some socket → is_end_of p n (end_of e socket) ≡ true → After (given_readers place before world.cells p n) (now p n)
  each_after s socket e p n is of = by_test (place == p) refl where
    by_test : (b : Bool) → (place == p) ≡ b → After (cond b (reader_in (find (is_socket n) before.sockets)) (readers_of world.cells p n)) (cond b (reader_in (find (is_socket n) after.host.sockets)) (readers_of world.cells p n))
    by_test true h =
        let mine : is_end_of place n (end_of e socket) ≡ true = subst (λ (k : ℕ). is_end_of k n (end_of e socket) ≡ true) (sym (number_is place p h)) of in
        let had = some_is (find (is_socket n) before.sockets) (there n ∙ held_is s socket e n is mine) in
        host_after before after.host (steps_in told) n had.0 c.reads had.1
    by_test false h = after_none (readers_of world.cells p n)

  read : AllFlow (own_of journal) world.names now were world.sockets
  read = reading_flow (own_of journal) world.names (given_readers place before world.cells) now were world.sockets each_after c.flow

  may : MaySayAll (own_of journal) now were place (steps_in told) kept
  may = record {
    new = λ n. subst (λ (o : Option Stage). AreNewTo n (steps_in told) o) (c.sure.ends.agrees.ends place opened (got_same world.cells place cell opened c.at) n) (c.tells.new n);
    due = λ n. subst (λ (d : Option Due). AllDue (own_of journal place) n (steps_in told) d) (sym (here (dues n) (dues_of world.cells place n))) (c.writes.writes.due n);
    first = λ n none. subst (λ (r : Option Reader). ReadsFirst r) (sym (here (reader_in (find (is_socket n) after.host.sockets)) (readers_of world.cells place n)))
        (host_first before after.host (steps_in told) n c.reads (none_is (find (is_socket n) before.sockets) (there n ∙ ap is_some none)));
  }

  sorted : Sorted journal log kept
  sorted = subst (λ (l : List (Cell × ℕ)). Sorted journal log (record world { cells = l })) (set_twice world.cells place opened (after, cell.1)) ((keeps_sorted journal).cell log (with_cell place opened world) place (after, cell.1) c.sure.ends.sorted)

  said : AllFlow (own_of journal) world.names now (all_moved place (steps_in told) were) final.sockets
  said = told_flow (own_of journal) now were journal place after told log kept sorted c.sure.ends.each c.writes.orderly.own_is may read

  readers_now : (p n : ℕ) → readers_of final.cells p n ≡ now p n
  readers_now p n = ap (λ (l : List (Cell × ℕ)). readers_of l p n) cells_now ∙ readers_set world.cells place cell (after, cell.1) c.at p n

  dues_now : (p n : ℕ) → dues_of final.cells p n ≡ all_moved place (steps_in told) were p n
  dues_now p n = ap (λ (l : List (Cell × ℕ)). dues_of l p n) cells_now ∙ dues_set world.cells place cell (after, cell.1) c.at p n ∙ sym (moved_is place (steps_in told) were p n ∙ by_test (place == p)) where
    by_test : (b : Bool) → cond b (due_after_all n (steps_in told) (cond b (dues n) (dues_of world.cells p n))) (cond b (dues n) (dues_of world.cells p n)) ≡ cond b (due_at after.host n) (dues_of world.cells p n)
    by_test true = sym (c.writes.writes.leads n)
    by_test false = refl

-- ---- all of it

pub called_sound : (journal : List Line) (log : List Entry) (world : World) (place : ℕ) (cell : Cell × ℕ) (before : HostState) (dues : ℕ → Option Due) (told : List LocalEntry) (after : Cell) → Called journal log world place cell before dues told after
    → let done = all_told place after told (with_cell place (after, cell.1) world) in SoundEnds journal (log ++ done.0) done.1
called_sound journal log world place cell before dues told after c = record {
  sure = subst (λ (l : List (Cell × ℕ)). Sure journal (log ++ (all_told place after told (record world { cells = l })).0) (all_told place after told (record world { cells = l })).1) (set_twice world.cells place opened (after, cell.1))
      (told_sure journal log (with_cell place opened world) place opened after told c.sure (got_same world.cells place cell opened c.at) c.tells);
  set = (all_set (names_of journal) c.named place after told kept (grown_set (names_of journal) world kept c.set grows c.set.led)).1;
  homes = (told_all place after told kept grows.numbered).homes ∙ grows.homes ∙ c.homes;
  flowing = called_flowing journal log world place cell before dues told after c;
} where
  opened : Cell × ℕ
  opened = (record (cell.0) { host = before }, cell.1)

  kept : World
  kept = with_cell place (after, cell.1) world

  grows : Grows world kept
  grows = celled place cell (after, cell.1) world c.set.numbered c.at c.home

-- ---- a call that begins with nothing new

quiet_called : (journal : List Line) → AllNamed (names_of journal) → (log : List Entry) (world : World) (place : ℕ) (cell : Cell × ℕ) (told : List LocalEntry) (after : Cell) → SoundEnds journal log world → slice_get world.cells place ≡ Some cell → home_of after ≡ home_of cell.0
    → Tells cell.0.host (steps_in told) after.host → Reads cell.0.host (steps_in told) after.host → WritesOn (own_of journal place) (due_at cell.0.host) (steps_in told) after.host → Called journal log world place cell cell.0.host (due_at cell.0.host) told after
quiet_called journal named log world place cell told after s at home tells reads writes = record {
  named = named;
  at = at;
  sure = subst (λ (l : List Entry). Sure journal l (with_cell place (record (cell.0) { host = cell.0.host }, cell.1) world)) (append-nil log) (told_sure journal log world place cell (record (cell.0) { host = cell.0.host }) [] s.sure at (ends.at_rest cell.0.host (s.sure.ends.agrees.sound place cell at)));
  set = s.set;
  homes = s.homes;
  home = home;
  orderly = s.flowing.orderly;
  tells = tells;
  reads = reads;
  writes = writes;
  flow = read_as (own_of journal) world.names (readers_of world.cells) (given_readers place cell.0.host world.cells) (given_dues place (due_at cell.0.host) world.cells) world.sockets (readers_there world.cells place cell at)
      (all_as (own_of journal) world.names (readers_of world.cells) (dues_of world.cells) (given_dues place (due_at cell.0.host) world.cells) world.sockets (dues_there world.cells place cell at) s.flowing.flow);
}

pub quiet_sound : (journal : List Line) → AllNamed (names_of journal) → (log : List Entry) (world : World) (place : ℕ) (cell : Cell × ℕ) (told : List LocalEntry) (after : Cell) → SoundEnds journal log world → slice_get world.cells place ≡ Some cell → home_of after ≡ home_of cell.0
    → Tells cell.0.host (steps_in told) after.host → Reads cell.0.host (steps_in told) after.host → WritesOn (own_of journal place) (due_at cell.0.host) (steps_in told) after.host
    → let done = all_told place after told (with_cell place (after, cell.1) world) in SoundEnds journal (log ++ done.0) done.1
quiet_sound journal named log world place cell told after s at home tells reads writes = called_sound journal log world place cell cell.0.host (due_at cell.0.host) told after (quiet_called journal named log world place cell told after s at home tells reads writes)

-- ---- a host's steps

pub steps_told : (done : List Step) → steps_in (told_steps done) ≡ done
steps_told [] = refl
steps_told (step ∷ done) = ap (λ (l : List Step). step ∷ l) (steps_told done)

-- the host is where it was
pub home_kept : (cell : Cell) (host : HostState) → hosts.where_is host ≡ hosts.where_is cell.host → home_of (with_host (cell, 0) host) ≡ home_of cell
home_kept cell host e = ap (λ (w : hosts.Where). (w.0, w.1, w.2, (home_of cell).3)) e

pub steps_sound : (journal : List Line) → AllNamed (names_of journal) → (log : List Entry) (world : World) (place : ℕ) (cell : Cell × ℕ) (steps : List Step) (host : HostState) → SoundEnds journal log world → slice_get world.cells place ≡ Some cell → hosts.where_is host ≡ hosts.where_is cell.0.host
    → Tells cell.0.host steps host → Reads cell.0.host steps host → WritesOn (own_of journal place) (due_at cell.0.host) steps host
    → let done = done_at place cell steps host world in SoundEnds journal (log ++ done.0) done.1
steps_sound journal named log world place cell steps host s at stays tells reads writes = quiet_sound journal named log world place cell (told_steps steps) (with_host cell host) s at (home_kept cell.0 host stays)
    (subst (λ (l : List Step). Tells cell.0.host l host) (sym (steps_told steps)) tells) (subst (λ (l : List Step). Reads cell.0.host l host) (sym (steps_told steps)) reads)
    (subst (λ (l : List Step). WritesOn (own_of journal place) (due_at cell.0.host) l host) (sym (steps_told steps)) writes)

-- whatever was asked of the host
pub asked_sound : {E : Type 0} (journal : List Line) → AllNamed (names_of journal) → (log : List Entry) (world : World) (place : ℕ) (cell : Cell × ℕ) (steps : List Step) (host : HostState) (given : Result (List Step × HostState) E) → given ≡ Ok (steps, host) → SoundEnds journal log world → slice_get world.cells place ≡ Some cell
    → hosts.Stays cell.0.host given → AllTold cell.0.host given → AllRead cell.0.host given → AllWrite (own_of journal place) (due_at cell.0.host) given
    → let done = done_at place cell steps host world in SoundEnds journal (log ++ done.0) done.1
asked_sound {E = E} journal named log world place cell steps host given is s at stays tells reads writes = steps_sound journal named log world place cell steps host s at
    (subst (λ (d : Result (List Step × HostState) E). hosts.Stays cell.0.host d) is stays) (subst (λ (d : Result (List Step × HostState) E). AllTold cell.0.host d) is tells sound)
    (subst (λ (d : Result (List Step × HostState) E). AllRead cell.0.host d) is reads sound) (subst (λ (d : Result (List Step × HostState) E). AllWrite (own_of journal place) (due_at cell.0.host) d) is writes) where
      sound : IsSound cell.0.host
      sound = s.sure.ends.agrees.sound place cell at
