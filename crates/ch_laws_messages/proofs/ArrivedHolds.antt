-- What is so of all that readers hold, and stays so as they read: it is kept by whatever a host does.
use Rattle.std.proofs.Common.{◌≡◌, ℕ, Bool, true, false, cond, ◌&&◌, List, [], ◌∷◌, refl, sym, ap, ◌∙◌, subst}
use Rattle.std.specs.Prelude.{find, is_some, slice_get, Option, Some, None, ◌==◌}
use Rattle.ch_base.specs.declared.address.Address.{Address}
use Rattle.ch_reader.specs.declared.item.Expected.{Expected}
use Rattle.ch_reader.specs.declared.item.Expected.TheVariants as expected
use Rattle.ch_reader.specs.declared.item.Item.{Item}
use Rattle.ch_model.specs.declared.entry.Entry.{Entry}
use Rattle.ch_model.specs.declared.name.End.{End}
use Rattle.ch_model.specs.declared.name.End.TheVariants.{O, T}
use Rattle.ch_model.specs.declared.name.SockName.{SockName}
use Rattle.ch_model.specs.declared.step.Step.{Step}
use Rattle.ch_model.specs.declared.step.Step.TheVariants as steps
use Rattle.ch_model.specs.CellSteps.{told_steps}
use Rattle.ch_model.specs.HostState.{Socket, HostState}
use Rattle.ch_model.specs.HostSteps.{own_address, is_socket}
use Rattle.ch_model.specs.Naming.{called}
use Rattle.ch_model.specs.Same.{same_socket}
use Rattle.ch_model.specs.Stages.{Stage, Pending, Ended}
use Rattle.ch_model.specs.WorldHappenings.{with_cell}
use Rattle.ch_model.specs.WorldSockets.{end_of, with_end, end_of_nobody, is_socket_named, store_in, with_socket, with_end_of, same_number, is_end_of, cell_of, target_end, new_socket}
use Rattle.ch_model.specs.WorldState.{Cell, WorldEnd, WorldSocket, World}
use Rattle.ch_model.specs.WorldSteps.{stepped, all_told}
use Rattle.ch_laws_log.specs.HostEnds.{stage_at, stage_after, IsNewTo, AreNewTo}
use Rattle.ch_laws_log.specs.WorldEnds.{stage_found, stage_held}
use Rattle.ch_laws_log.proofs.Stored.{number_is, number_same, find_stored}
use Rattle.ch_laws_ends.proofs.Changes.{OnDial, step_as, told_cells}
use Rattle.ch_laws_ends.proofs.Found.{KeepsPlace, EachFound, Stands}
use Rattle.ch_laws_ends.proofs.Places.{some_is}
use Rattle.ch_laws_reads.specs.Reads.{AreRead, Reads}
use Rattle.ch_laws_bytes.specs.Streams.{Reader, reader_in, readers_of, first_at, reads_at}
use Rattle.ch_laws_bytes.proofs.Event.{given_readers, readers_set}
use Rattle.ch_laws_bytes.proofs.Happen.{readers_there, is_some_map}
use Rattle.ch_laws_bytes.proofs.Reading.{After, after_none, host_after, host_first}
use Rattle.ch_laws_bytes.proofs.Stepped.{ReadsFirst}
use Rattle.ch_laws_calls.specs.Calls.{with_host, done_at}
use Rattle.ch_laws_risen.proofs.Firsts.{AllDials, AgreesAt}

-- what may be so of an end of a socket, by what its reader holds
abbrev pub Held : Type 1
Held = SockName → End → Reader → Type 0

-- it is so where nothing is held, and stays so as items are read
pub record StaysRead (Q : Held) : Type 0 where
  pub fresh : (s : SockName) (e : End) (k : Expected) → Q s e (k, [])
  pub reads : (s : SockName) (e : End) (a b : Expected) (bytes left : List ℕ) (items : List Item) → AreRead a bytes items b left → Q s e (a, bytes) → Q s e (b, left)

-- ---- all ends

-- so it is at both ends of a socket
abbrev pub BothHold : Held → (ℕ → ℕ → Option Reader) → WorldSocket → Type 0
BothHold Q readers socket = (e : End) (reader : Reader) → reads_at readers (first_at e) (end_of e socket).cell (end_of e socket).number ≡ Some reader → Q socket.name e reader

abbrev pub AllHold : Held → (ℕ → ℕ → Option Reader) → List WorldSocket → Type 0
AllHold Q readers sockets = (s : SockName) (socket : WorldSocket) → find (is_socket_named s) sockets ≡ Some socket → BothHold Q readers socket

reads_as : (one two : ℕ → ℕ → Option Reader) (first : Expected) (c m : Option ℕ) → ((p n : ℕ) → two p n ≡ one p n) → reads_at two first c m ≡ reads_at one first c m
reads_as one two first None m same = refl
reads_as one two first (Some p) None same = refl
reads_as one two first (Some p) (Some n) same = same p n

pub hold_as : (Q : Held) (one two : ℕ → ℕ → Option Reader) (sockets : List WorldSocket) → ((p n : ℕ) → two p n ≡ one p n) → AllHold Q one sockets → AllHold Q two sockets
hold_as Q one two sockets same all s socket f e reader r = all s socket f e reader (sym (reads_as one two (first_at e) (end_of e socket).cell (end_of e socket).number same) ∙ r)

pub hold_stored : (Q : Held) (readers : ℕ → ℕ → Option Reader) (new : WorldSocket) (sockets : List WorldSocket) → BothHold Q readers new → AllHold Q readers sockets → AllHold Q readers (store_in new sockets)
hold_stored Q readers new sockets mine all s socket f = by_name (same_socket new.name s) (sym (find_stored new sockets s) ∙ f) where
  by_name : (b : Bool) → cond b (Some new) (find (is_socket_named s) sockets) ≡ Some socket → BothHold Q readers socket
  by_name true f = let is : new ≡ socket = cc in subst (BothHold Q readers) is mine
  by_name false f = all s socket f

kept_place : (readers : ℕ → ℕ → Option Reader) (first : Expected) (f : WorldEnd → WorldEnd) (end : WorldEnd) → KeepsPlace f → reads_at readers first (f end).cell (f end).number ≡ reads_at readers first end.cell end.number
kept_place readers first f end k = ap (λ (o : Option ℕ). reads_at readers first o (f end).number) (k end).0 ∙ ap (λ (o : Option ℕ). reads_at readers first end.cell o) (k end).1

hold_with : (Q : Held) (readers : ℕ → ℕ → Option Reader) (e : End) (f : WorldEnd → WorldEnd) (old : WorldSocket) → KeepsPlace f → BothHold Q readers old → BothHold Q readers (with_end e (f (end_of e old)) old)
hold_with Q readers O f old k h O reader r = h O reader (sym (kept_place readers (first_at O) f old.o k) ∙ r)
hold_with Q readers O f old k h T reader r = h T reader r
hold_with Q readers T f old k h O reader r = h O reader r
hold_with Q readers T f old k h T reader r = h T reader (sym (kept_place readers (first_at T) f old.t k) ∙ r)

pub hold_changed : (Q : Held) (readers : ℕ → ℕ → Option Reader) (s : SockName) (e : End) (f : WorldEnd → WorldEnd) (world : World) → KeepsPlace f → AllHold Q readers world.sockets → AllHold Q readers (with_end_of s e f world).sockets
hold_changed Q readers s e f world k all = by_socket (find (is_socket_named s) world.sockets) refl where
  by_socket : (o : Option WorldSocket) → find (is_socket_named s) world.sockets ≡ o → AllHold Q readers (elim o as (λ o. World) [
    | None ↦ world
    | Some socket ↦ with_socket (with_end e (f (end_of e socket)) socket) world
  ]).sockets
  by_socket None is = all
  by_socket (Some old) is = hold_stored Q readers (with_end e (f (end_of e old)) old) world.sockets (hold_with Q readers e f old k (all s old is)) all

-- ---- what is read

at_after : (before after : ℕ → ℕ → Option Reader) (first : Expected) (end : WorldEnd) → ((p n : ℕ) → is_end_of p n end ≡ true → After (before p n) (after p n)) → After (reads_at before first end.cell end.number) (reads_at after first end.cell end.number)
at_after before after first end each = by_end end.cell end.number each where
  by_end : (c m : Option ℕ) → ((p n : ℕ) → (same_number c p && same_number m n) ≡ true → After (before p n) (after p n)) → After (reads_at before first c m) (reads_at after first c m)
  by_end None m each = tt
  by_end (Some p) None each = ([], (refl, refl))
  by_end (Some p) (Some n) each = each p n (ap (λ b. b && (n == n)) (number_same p) ∙ number_same n)

hold_after : (Q : Held) → StaysRead Q → (s : SockName) (e : End) (one : Option Reader) (now : Reader) → After one (Some now) → ((reader : Reader) → one ≡ Some reader → Q s e reader) → Q s e now
hold_after Q k s e None now a h = absurd a
hold_after Q k s e (Some reader) now a h = k.reads s e reader.0 now.0 reader.1 now.1 a.0 a.1 (h reader refl)

some_of : {A : Type 0} (o : Option A) → is_some o ≡ true → (x : A) × (o ≡ Some x)
some_of None e = absurd cc
some_of (Some x) e = (x, refl)

none_of : {A : Type 0} (o : Option A) → is_some o ≡ false → o ≡ None
none_of None e = refl
none_of (Some x) e = absurd cc

read_hold : (Q : Held) → StaysRead Q → (world : World) (place : ℕ) (cell : Cell × ℕ) (told : List Step) (host : HostState) → slice_get world.cells place ≡ Some cell → EachFound world.sockets → AgreesAt place cell.0.host world → Reads cell.0.host told host → AllHold Q (readers_of world.cells) world.sockets
    → AllHold Q (given_readers place host world.cells) world.sockets
read_hold Q k world place cell told host at each agrees reads all s socket f e reader r = hold_after Q k socket.name e (reads_at (readers_of world.cells) (first_at e) (end_of e socket).cell (end_of e socket).number) reader
    (subst (After (reads_at (readers_of world.cells) (first_at e) (end_of e socket).cell (end_of e socket).number)) r (at_after (readers_of world.cells) (given_readers place host world.cells) (first_at e) (end_of e socket) after)) (λ was is. all s socket f e was is) where
      held : (n : ℕ) → is_end_of place n (end_of e socket) ≡ true → is_some (stage_held place n world.sockets) ≡ true
      held n of = ap is_some (ap (λ (o : Option (SockName × End)). stage_found o world.sockets) (each s socket e place n f of) ∙ ap (Stands e) f)

      after : (p n : ℕ) → is_end_of p n (end_of e socket) ≡ true → After (readers_of world.cells p n) (given_readers place host world.cells p n)
      after p n of = subst (λ (o : Option Reader). After o (given_readers place host world.cells p n)) (readers_there world.cells place cell at p n) (by_test (place == p) refl) where
        by_test : (b : Bool) → (place == p) ≡ b → After (cond b (reader_in (find (is_socket n) cell.0.host.sockets)) (readers_of world.cells p n)) (cond b (reader_in (find (is_socket n) host.sockets)) (readers_of world.cells p n))
        by_test true h =
            let mine : is_end_of place n (end_of e socket) ≡ true = subst (λ (k : ℕ). is_end_of k n (end_of e socket) ≡ true) (sym (number_is place p h)) of in
            let had = some_of (find (is_socket n) cell.0.host.sockets) (is_some_map (λ (w : Socket). w.stage) (find (is_socket n) cell.0.host.sockets) ∙ ap is_some (agrees n) ∙ held n mine) in
            host_after cell.0.host host told n had.0 reads had.1
        by_test false h = after_none (readers_of world.cells p n)

-- ---- sockets that are dialed

-- of each dial this holds of its socket's number
abbrev FirstDial : (ℕ → Type 0) → Step → Type 0
FirstDial F (steps.Dial sock end peer) = F sock
FirstDial F step = Unit {0}

first_as : (F G : ℕ → Type 0) (step : Step) (rest : List Step) → ((n : ℕ) → F n → G n) → AllDials F (step ∷ rest) → FirstDial G step × AllDials F rest
first_as F G (steps.Dial sock end peer) rest h d = (h sock d.0, d.1)
first_as F G (steps.Read sock) rest h d = (tt, d.1)
first_as F G (steps.Write sock bytes said) rest h d = (tt, d.1)
first_as F G (steps.Up sock) rest h d = (tt, d.1)
first_as F G (steps.Down sock) rest h d = (tt, d.1)
first_as F G (steps.Left sock) rest h d = (tt, d.1)
first_as F G (steps.Broke end peer why) rest h d = (tt, d.1)
first_as F G (steps.Post end event) rest h d = (tt, d.1)

none_before : (n : ℕ) (step : Step) (stage : Option Stage) → stage_after n step stage ≡ None → stage ≡ None
none_before n step None e = refl
none_before n (steps.Dial sock end peer) (Some stage) e = by_test (sock == n) e where
  by_test : (b : Bool) → ◌≡◌ {A = Option Stage} (cond b (Some Pending) (Some stage)) None → ◌≡◌ {A = Option Stage} (Some stage) None
  by_test true e = absurd cc
  by_test false e = e
none_before n (steps.Down sock) (Some stage) e = by_test (sock == n) e where
  by_test : (b : Bool) → ◌≡◌ {A = Option Stage} (cond b (Some Ended) (Some stage)) None → ◌≡◌ {A = Option Stage} (Some stage) None
  by_test true e = absurd cc
  by_test false e = e
none_before n (steps.Left sock) (Some stage) e = by_test (sock == n) e where
  by_test : (b : Bool) → ◌≡◌ {A = Option Stage} (cond b (Some Ended) (Some stage)) None → ◌≡◌ {A = Option Stage} (Some stage) None
  by_test true e = absurd cc
  by_test false e = e
none_before n (steps.Read sock) (Some stage) e = e
none_before n (steps.Write sock bytes said) (Some stage) e = e
none_before n (steps.Up sock) (Some stage) e = e
none_before n (steps.Broke end peer why) (Some stage) e = e
none_before n (steps.Post end event) (Some stage) e = e

dials_new : (F : ℕ → Type 0) (told : List Step) (stages : ℕ → Option Stage) → ((n : ℕ) → AreNewTo n told (stages n)) → ((n : ℕ) → stages n ≡ None → F n) → AllDials F told
dials_new F [] stages new first = tt
dials_new F (step ∷ rest) stages new first = by_step step (λ n. (new n).0) (dials_new F rest (λ n. stage_after n step (stages n)) (λ n. (new n).1) (λ n e. first n (none_before n step (stages n) e))) where
  by_step : (step : Step) → ((n : ℕ) → IsNewTo n step (stages n)) → AllDials F rest → AllDials F (step ∷ rest)
  by_step (steps.Dial sock end peer) new more = (first sock (new sock (number_same sock)), more)
  by_step (steps.Read sock) new more = (tt, more)
  by_step (steps.Write sock bytes said) new more = (tt, more)
  by_step (steps.Up sock) new more = (tt, more)
  by_step (steps.Down sock) new more = (tt, more)
  by_step (steps.Left sock) new more = (tt, more)
  by_step (steps.Broke end peer why) new more = (tt, more)
  by_step (steps.Post end event) new more = (tt, more)

-- nothing is held of either end of a socket that is dialed
new_holds : (Q : Held) → StaysRead Q → (readers : ℕ → ℕ → Option Reader) (place sock : ℕ) (from to from_host : List ℕ) (peer : Address) (world : World) → ReadsFirst (readers place sock)
    → BothHold Q readers (new_socket world from to from_host (end_of_nobody (Some place) (Some sock) Pending) peer)
new_holds Q k readers place sock from to from_host peer world first = by_end where
  new : WorldSocket
  new = new_socket world from to from_host (end_of_nobody (Some place) (Some sock) Pending) peer

  none : (e : End) (reader : Reader) → reader.1 ≡ [] → Q new.name e reader
  none e reader is = subst (λ (l : List ℕ). Q new.name e (reader.0, l)) (sym is) (k.fresh new.name e reader.0)

  by_target : (c : Option ℕ) (reader : Reader) → reads_at readers expected.Request (target_end c).cell (target_end c).number ≡ Some reader → Q new.name T reader
  by_target None reader r = absurd cc
  by_target (Some p) reader r = subst (Q new.name T) (some_is (expected.Request, []) reader r) (k.fresh new.name T expected.Request)

  by_end : BothHold Q readers new
  by_end O reader r = let is : (reader.0 ≡ expected.Answer) × (reader.1 ≡ []) = subst ReadsFirst r first in none O reader is.1
  by_end T reader r = by_target (cell_of world peer) reader r

dial_hold : (Q : Held) → StaysRead Q → (readers : ℕ → ℕ → Option Reader) (place : ℕ) (cell : Cell) (step : Step) (world : World) → FirstDial (λ n. ReadsFirst (readers place n)) step → AllHold Q readers world.sockets → OnDial (λ w. AllHold Q readers w.sockets) place cell step world
dial_hold Q k readers place cell (steps.Dial sock end peer) world first all = hold_stored Q readers (new_socket world (called world.names (own_address cell.host end)) (called world.names peer) cell.host.host (end_of_nobody (Some place) (Some sock) Pending) peer) world.sockets
    (new_holds Q k readers place sock (called world.names (own_address cell.host end)) (called world.names peer) cell.host.host peer world first) all
dial_hold Q k readers place cell (steps.Read sock) world first all = tt
dial_hold Q k readers place cell (steps.Write sock bytes said) world first all = tt
dial_hold Q k readers place cell (steps.Up sock) world first all = tt
dial_hold Q k readers place cell (steps.Down sock) world first all = tt
dial_hold Q k readers place cell (steps.Left sock) world first all = tt
dial_hold Q k readers place cell (steps.Broke end peer why) world first all = tt
dial_hold Q k readers place cell (steps.Post end event) world first all = tt

-- ---- all that is told

step_hold : (Q : Held) → StaysRead Q → (readers : ℕ → ℕ → Option Reader) (place : ℕ) (cell : Cell) (step : Step) (world : World) → FirstDial (λ n. ReadsFirst (readers place n)) step → AllHold Q readers world.sockets → AllHold Q readers (stepped place cell step world).1.sockets
step_hold Q k readers place cell step world first all = step_as (λ w. AllHold Q readers w.sockets) (λ one two c s j. subst (AllHold Q readers) (sym s) j) place cell step world (dial_hold Q k readers place cell step world first all) (λ s e f c. hold_changed Q readers s e f world c.changes.place all) all

told_hold : (Q : Held) → StaysRead Q → (F : ℕ → Type 0) (readers : ℕ → ℕ → Option Reader) (place : ℕ) (cell : Cell) (told : List Step) (world : World) → ((n : ℕ) → F n → ReadsFirst (readers place n)) → AllDials F told → AllHold Q readers world.sockets → AllHold Q readers (all_told place cell (told_steps told) world).1.sockets
told_hold Q k F readers place cell [] world h dials all = all
told_hold Q k F readers place cell (step ∷ rest) world h dials all = let parts = first_as F (λ n. ReadsFirst (readers place n)) step rest h dials in
    told_hold Q k F readers place cell rest (stepped place cell step world).1 h parts.1 (step_hold Q k readers place cell step world parts.0 all)

-- the steps of a host, as it reads after them
pub done_hold : (Q : Held) → StaysRead Q → (world : World) (place : ℕ) (cell : Cell × ℕ) (told : List Step) (host : HostState) → slice_get world.cells place ≡ Some cell → AllDials (λ n. ReadsFirst (reader_in (find (is_socket n) host.sockets))) told
    → AllHold Q (given_readers place host world.cells) world.sockets → let done = done_at place cell told host world in AllHold Q (readers_of done.1.cells) done.1.sockets
done_hold Q k world place cell told host at dials all = hold_as Q readers (readers_of done.1.cells) done.1.sockets readers_now
    (told_hold Q k (λ n. ReadsFirst (reader_in (find (is_socket n) host.sockets))) readers place (with_host cell host) told kept first dials all) where
      kept : World
      kept = with_cell place (with_host cell host, cell.1) world

      done : List Entry × World
      done = done_at place cell told host world

      readers : ℕ → ℕ → Option Reader
      readers = given_readers place host world.cells

      first : (n : ℕ) → ReadsFirst (reader_in (find (is_socket n) host.sockets)) → ReadsFirst (readers place n)
      first n f = subst ReadsFirst (sym (ap (λ b. cond b (reader_in (find (is_socket n) host.sockets)) (readers_of world.cells place n)) (number_same place))) f

      readers_now : (p n : ℕ) → readers_of done.1.cells p n ≡ readers p n
      readers_now p n = ap (λ (l : List (Cell × ℕ)). readers_of l p n) (told_cells place (with_host cell host) (told_steps told) kept) ∙ readers_set world.cells place cell (with_host cell host, cell.1) at p n

-- a call that begins with nothing new at the host
pub call_hold : (Q : Held) → StaysRead Q → (world : World) (place : ℕ) (cell : Cell × ℕ) (told : List Step) (host : HostState) → slice_get world.cells place ≡ Some cell → EachFound world.sockets → AgreesAt place cell.0.host world
    → ((n : ℕ) → AreNewTo n told (stage_at cell.0.host n)) → Reads cell.0.host told host → AllHold Q (readers_of world.cells) world.sockets → let done = done_at place cell told host world in AllHold Q (readers_of done.1.cells) done.1.sockets
call_hold Q k world place cell told host at each agrees new reads all = done_hold Q k world place cell told host at (dials_new (λ n. ReadsFirst (reader_in (find (is_socket n) host.sockets))) told (stage_at cell.0.host) new first) (read_hold Q k world place cell told host at each agrees reads all) where
  first : (n : ℕ) → stage_at cell.0.host n ≡ None → ReadsFirst (reader_in (find (is_socket n) host.sockets))
  first n none = host_first cell.0.host host told n reads (none_of (find (is_socket n) cell.0.host.sockets) (is_some_map (λ (w : Socket). w.stage) (find (is_socket n) cell.0.host.sockets) ∙ ap is_some none))
