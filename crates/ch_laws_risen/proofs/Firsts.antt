-- Hosts have what was fed to ends of which they haven't read an item, whatever they read and do.
use Rattle.std.proofs.Common.{◌≡◌, ℕ, Bool, true, false, cond, ◌&&◌, List, [], ◌∷◌, ◌++◌, take, drop, refl, sym, ap, ◌∙◌, subst, append_assoc}
use Rattle.std.proofs.lemmas.List.{append-nil}
use Rattle.std.specs.Prelude.{find, is_some, slice_get, Option, Some, None, ◌==◌}
use Rattle.ch_base.specs.declared.address.Address.{Address}
use Rattle.ch_reader.specs.Reading.{reading}
use Rattle.ch_reader.specs.declared.item.Expected.{Expected}
use Rattle.ch_reader.specs.declared.item.Expected.TheVariants as expected
use Rattle.ch_reader.specs.declared.item.Item.{Item}
use Rattle.ch_model.specs.declared.entry.Entry.{Entry}
use Rattle.ch_model.specs.declared.line.Line.{Line}
use Rattle.ch_model.specs.declared.local.LocalEntry.TheVariants as local
use Rattle.ch_model.specs.declared.name.End.{End}
use Rattle.ch_model.specs.declared.name.End.TheVariants.{O, T}
use Rattle.ch_model.specs.declared.name.SockName.{SockName}
use Rattle.ch_model.specs.declared.step.Step.{Step}
use Rattle.ch_model.specs.declared.step.Step.TheVariants as steps
use Rattle.ch_model.specs.CellSteps.{told_steps}
use Rattle.ch_model.specs.Declarations.{has_host}
use Rattle.ch_model.specs.HostState.{Socket, HostState}
use Rattle.ch_model.specs.HostSteps.{own_address, is_socket}
use Rattle.ch_model.specs.Naming.{called}
use Rattle.ch_model.specs.Same.{same_socket}
use Rattle.ch_model.specs.Sockets.{written, fed}
use Rattle.ch_model.specs.Stages.{Stage, Pending, Ended}
use Rattle.ch_model.specs.WorldHappenings.{with_cell}
use Rattle.ch_model.specs.WorldSockets.{end_of, with_end, end_of_nobody, is_socket_named, store_in, with_socket, with_end_of, same_number, is_end_of, cell_of, target_end, new_socket}
use Rattle.ch_model.specs.WorldState.{Cell, WorldEnd, WorldSocket, World}
use Rattle.ch_model.specs.WorldSteps.{stepped, all_told}
use Rattle.ch_laws_log.specs.HostEnds.{stage_at, stage_after, IsNewTo, AreNewTo}
use Rattle.ch_laws_log.specs.WorldEnds.{stage_found, stage_held}
use Rattle.ch_laws_log.proofs.Agreeing.{At, Good, keeps_good}
use Rattle.ch_laws_log.proofs.Kept.{one_told}
use Rattle.ch_laws_log.proofs.Seen.{fed_is}
use Rattle.ch_laws_log.proofs.Stored.{number_is, number_same, find_stored, next_is_new}
use Rattle.ch_laws_log.proofs.Views.{Seen, unseen, seen_in, end_seen}
use Rattle.ch_laws_ends.proofs.Changes.{OnDial, step_as, told_cells}
use Rattle.ch_laws_ends.proofs.Found.{KeepsPlace, EachFound, Stands}
use Rattle.ch_laws_ends.proofs.Places.{some_is}
use Rattle.ch_laws_reads.specs.Reads.{AreRead, Reads}
use Rattle.ch_laws_bytes.specs.Streams.{Reader, reader_in, readers_of, first_at, reads_at}
use Rattle.ch_laws_bytes.proofs.Event.{given_readers, readers_set}
use Rattle.ch_laws_bytes.proofs.Happen.{readers_there, is_some_map}
use Rattle.ch_laws_bytes.proofs.Reading.{After, after_none, host_after, host_first}
use Rattle.ch_laws_bytes.proofs.Stepped.{ReadsFirst}
use Rattle.ch_laws_calls.specs.Calls.{with_host, done_at}
use Rattle.ch_laws_risen.specs.Firsts.{IsFed, HasAll, HasBoth, AllHave}
use Rattle.ch_laws_risen.proofs.Logs.{stays, unfed}
use Rattle.ch_laws_risen.proofs.Told.{step_unfed}

-- ---- one end

pub frame_has : (log : List Entry) (s : SockName) (e : End) (since : List ℕ) → HasAll log s e expected.Frame since
frame_has log s O since = tt
frame_has log s T since = tt

pub has_more : (log told : List Entry) (s : SockName) (e : End) (next : Expected) (since : List ℕ) → fed told s e ≡ 0 → HasAll log s e next since → HasAll (log ++ told) s e next since
has_more log told s O expected.Frame since none h = tt
has_more log told s T expected.Frame since none h = tt
has_more log told s O expected.Answer since none h = stays log told s O since none h
has_more log told s T expected.Request since none h = stays log told s T since none h
has_more log told s O expected.Request since none h = absurd h
has_more log told s T expected.Answer since none h = absurd h

-- nothing was fed to an end of no socket
pub nothing_fed : (journal : List Line) (log : List Entry) (world : World) (s : SockName) (e : End) → Good journal log world → find (is_socket_named s) world.sockets ≡ None → IsFed log s e []
nothing_fed journal log world s e g none = record { many = many; are = ap (λ (n : ℕ). take n (written log s e)) many } where
  never : seen_in log s ≡ unseen
  never = subst (λ (o : Option WorldSocket). At (has_host journal s.to) (seen_in log s) o) none (g.agrees s)

  zero_fed : (e : End) → (end_seen e unseen).fed ≡ 0
  zero_fed O = refl
  zero_fed T = refl

  many : fed log s e ≡ 0
  many = sym (fed_is log s e) ∙ ap (λ (v : Seen). (end_seen e v).fed) never ∙ zero_fed e

pub reader_is : (a c : Expected) (b d : List ℕ) → ◌≡◌ {A = Option Reader} (Some (a, b)) (Some (c, d)) → (a ≡ c) × (b ≡ d)
reader_is a c b d e = let same = some_is (a, b) (c, d) e in (ap (λ (r : Reader). r.0) same, ap (λ (r : Reader). r.1) same)

-- ---- all ends

pub have_more : (log told : List Entry) (readers : ℕ → ℕ → Option Reader) (sockets : List WorldSocket) → ((s : SockName) (e : End) → fed told s e ≡ 0) → AllHave log readers sockets → AllHave (log ++ told) readers sockets
have_more log told readers sockets none all s socket f e next since r = has_more log told socket.name e next since (none socket.name e) (all s socket f e next since r)

reads_as : (one two : ℕ → ℕ → Option Reader) (first : Expected) (c m : Option ℕ) → ((p n : ℕ) → two p n ≡ one p n) → reads_at two first c m ≡ reads_at one first c m
reads_as one two first None m same = refl
reads_as one two first (Some p) None same = refl
reads_as one two first (Some p) (Some n) same = same p n

pub have_as : (log : List Entry) (one two : ℕ → ℕ → Option Reader) (sockets : List WorldSocket) → ((p n : ℕ) → two p n ≡ one p n) → AllHave log one sockets → AllHave log two sockets
have_as log one two sockets same all s socket f e next since r = all s socket f e next since (sym (reads_as one two (first_at e) (end_of e socket).cell (end_of e socket).number same) ∙ r)

pub have_stored : (log : List Entry) (readers : ℕ → ℕ → Option Reader) (new : WorldSocket) (sockets : List WorldSocket) → HasBoth log readers new → AllHave log readers sockets → AllHave log readers (store_in new sockets)
have_stored log readers new sockets mine all s socket f = by_name (same_socket new.name s) (sym (find_stored new sockets s) ∙ f) where
  by_name : (b : Bool) → cond b (Some new) (find (is_socket_named s) sockets) ≡ Some socket → HasBoth log readers socket
  by_name true f = let is : new ≡ socket = cc in subst (HasBoth log readers) is mine
  by_name false f = all s socket f

kept_place : (readers : ℕ → ℕ → Option Reader) (first : Expected) (f : WorldEnd → WorldEnd) (end : WorldEnd) → KeepsPlace f → reads_at readers first (f end).cell (f end).number ≡ reads_at readers first end.cell end.number
kept_place readers first f end k = ap (λ (o : Option ℕ). reads_at readers first o (f end).number) (k end).0 ∙ ap (λ (o : Option ℕ). reads_at readers first end.cell o) (k end).1

has_changed : (log : List Entry) (readers : ℕ → ℕ → Option Reader) (e : End) (f : WorldEnd → WorldEnd) (old : WorldSocket) → KeepsPlace f → HasBoth log readers old → HasBoth log readers (with_end e (f (end_of e old)) old)
has_changed log readers O f old k h O next since r = h O next since (sym (kept_place readers (first_at O) f old.o k) ∙ r)
has_changed log readers O f old k h T next since r = h T next since r
has_changed log readers T f old k h O next since r = h O next since r
has_changed log readers T f old k h T next since r = h T next since (sym (kept_place readers (first_at T) f old.t k) ∙ r)

pub have_changed : (log : List Entry) (readers : ℕ → ℕ → Option Reader) (s : SockName) (e : End) (f : WorldEnd → WorldEnd) (world : World) → KeepsPlace f → AllHave log readers world.sockets → AllHave log readers (with_end_of s e f world).sockets
have_changed log readers s e f world k all = by_socket (find (is_socket_named s) world.sockets) refl where
  by_socket : (o : Option WorldSocket) → find (is_socket_named s) world.sockets ≡ o → AllHave log readers (elim o as (λ o. World) [
    | None ↦ world
    | Some socket ↦ with_socket (with_end e (f (end_of e socket)) socket) world
  ]).sockets
  by_socket None is = all
  by_socket (Some old) is = have_stored log readers (with_end e (f (end_of e old)) old) world.sockets (has_changed log readers e f old k (all s old is)) all

-- ---- what is read

frames_next : (next : Expected) (since left : List ℕ) (items : List Item) → AreRead expected.Frame since items next left → next ≡ expected.Frame
frames_next next since left [] r = r.0
frames_next next since left (item ∷ more) r = frames_next next (drop (reading expected.Frame since).1 since) left more r.1

at_after : (before after : ℕ → ℕ → Option Reader) (first : Expected) (end : WorldEnd) → ((p n : ℕ) → is_end_of p n end ≡ true → After (before p n) (after p n)) → After (reads_at before first end.cell end.number) (reads_at after first end.cell end.number)
at_after before after first end each = by_end end.cell end.number each where
  by_end : (c m : Option ℕ) → ((p n : ℕ) → (same_number c p && same_number m n) ≡ true → After (before p n) (after p n)) → After (reads_at before first c m) (reads_at after first c m)
  by_end None m each = tt
  by_end (Some p) None each = ([], (refl, refl))
  by_end (Some p) (Some n) each = each p n (ap (λ b. b && (n == n)) (number_same p) ∙ number_same n)

-- where an item was read frames are expected, and else the same as before
has_after : (log : List Entry) (s : SockName) (e : End) (one : Option Reader) (next : Expected) (since : List ℕ) → After one (Some (next, since)) → ((x : Expected) (y : List ℕ) → one ≡ Some (x, y) → HasAll log s e x y) → HasAll log s e next since
has_after log s e None next since a h = absurd a
has_after log s e (Some reader) next since a h = by_items a.0 a.1 where
  by_items : (items : List Item) → AreRead reader.0 reader.1 items next since → HasAll log s e next since
  by_items [] r = subst (λ (x : Expected). HasAll log s e x since) (sym r.0) (subst (HasAll log s e reader.0) (sym r.1) (h reader.0 reader.1 refl))
  by_items (item ∷ more) r = subst (λ (x : Expected). HasAll log s e x since) (sym (frames_next next (drop (reading reader.0 reader.1).1 reader.1) since more r.1)) (frame_has log s e since)

some_of : {A : Type 0} (o : Option A) → is_some o ≡ true → (x : A) × (o ≡ Some x)
some_of None e = absurd cc
some_of (Some x) e = (x, refl)

none_of : {A : Type 0} (o : Option A) → is_some o ≡ false → o ≡ None
none_of None e = refl
none_of (Some x) e = absurd cc

-- the host at a place has the ends that the world has of it
abbrev pub AgreesAt : ℕ → HostState → World → Type 0
AgreesAt place host world = (n : ℕ) → stage_at host n ≡ stage_held place n world.sockets

read_have : (log : List Entry) (world : World) (place : ℕ) (cell : Cell × ℕ) (told : List Step) (host : HostState) → slice_get world.cells place ≡ Some cell → EachFound world.sockets → AgreesAt place cell.0.host world → Reads cell.0.host told host → AllHave log (readers_of world.cells) world.sockets
    → AllHave log (given_readers place host world.cells) world.sockets
read_have log world place cell told host at each agrees reads all s socket f e next since r = has_after log socket.name e (reads_at (readers_of world.cells) (first_at e) (end_of e socket).cell (end_of e socket).number) next since
    (subst (After (reads_at (readers_of world.cells) (first_at e) (end_of e socket).cell (end_of e socket).number)) r (at_after (readers_of world.cells) (given_readers place host world.cells) (first_at e) (end_of e socket) after)) (λ x y is. all s socket f e x y is) where
      held : (n : ℕ) → is_end_of place n (end_of e socket) ≡ true → is_some (stage_held place n world.sockets) ≡ true
      held n of = ap is_some (ap (λ (o : Option (SockName × End)). stage_found o world.sockets) (each s socket e place n f of) ∙ ap (Stands e) f)

      after : (p n : ℕ) → is_end_of p n (end_of e socket) ≡ true → After (readers_of world.cells p n) (given_readers place host world.cells p n)
      after p n of = subst (λ (o : Option Reader). After o (given_readers place host world.cells p n)) (readers_there world.cells place cell at p n) (by_test (place == p) refl) where
        by_test : (b : Bool) → (place == p) ≡ b → After (cond b (reader_in (find (is_socket n) cell.0.host.sockets)) (readers_of world.cells p n)) (cond b (reader_in (find (is_socket n) host.sockets)) (readers_of world.cells p n))
        by_test true h =
            let mine : is_end_of place n (end_of e socket) ≡ true = subst (λ (k : ℕ). is_end_of k n (end_of e socket) ≡ true) (sym (number_is place p h)) of in
            let had = some_of (find (is_socket n) cell.0.host.sockets) (is_some_map (λ (w : Socket). w.stage) (find (is_socket n) cell.0.host.sockets) ∙ ap is_some (agrees n) ∙ held n mine) in
            host_after cell.0.host host told n had.0 reads had.1
        by_test false h = after_none (readers_of world.cells p n)

-- ---- sockets that are dialed

-- of each dial this holds of its socket's number
abbrev FirstDial : (ℕ → Type 0) → Step → Type 0
FirstDial F (steps.Dial sock end peer) = F sock
FirstDial F step = Unit {0}

abbrev pub AllDials : (ℕ → Type 0) → List Step → Type 0
AllDials F [] = Unit {0}
AllDials F (step ∷ rest) = FirstDial F step × AllDials F rest

first_as : (F G : ℕ → Type 0) (step : Step) → ((n : ℕ) → F n → G n) → FirstDial F step → FirstDial G step
first_as F G (steps.Dial sock end peer) h d = h sock d
first_as F G (steps.Read sock) h d = tt
first_as F G (steps.Write sock bytes said) h d = tt
first_as F G (steps.Up sock) h d = tt
first_as F G (steps.Down sock) h d = tt
first_as F G (steps.Left sock) h d = tt
first_as F G (steps.Broke end peer why) h d = tt
first_as F G (steps.Post end event) h d = tt

dials_as : (F G : ℕ → Type 0) (told : List Step) → ((n : ℕ) → F n → G n) → AllDials F told → AllDials G told
dials_as F G [] h d = tt
dials_as F G (step ∷ rest) h d = (first_as F G step h d.0, dials_as F G rest h d.1)

none_before : (n : ℕ) (step : Step) (stage : Option Stage) → stage_after n step stage ≡ None → stage ≡ None
none_before n step None e = refl
none_before n (steps.Dial sock end peer) (Some stage) e = by_test (sock == n) e where
  by_test : (b : Bool) → ◌≡◌ {A = Option Stage} (cond b (Some Pending) (Some stage)) None → ◌≡◌ {A = Option Stage} (Some stage) None
  by_test true e = absurd cc
  by_test false e = e
none_before n (steps.Down sock) (Some stage) e = by_test (sock == n) e where
  by_test : (b : Bool) → ◌≡◌ {A = Option Stage} (cond b (Some Ended) (Some stage)) None → ◌≡◌ {A = Option Stage} (Some stage) None
  by_test true e = absurd cc
  by_test false e = e
none_before n (steps.Left sock) (Some stage) e = by_test (sock == n) e where
  by_test : (b : Bool) → ◌≡◌ {A = Option Stage} (cond b (Some Ended) (Some stage)) None → ◌≡◌ {A = Option Stage} (Some stage) None
  by_test true e = absurd cc
  by_test false e = e
none_before n (steps.Read sock) (Some stage) e = e
none_before n (steps.Write sock bytes said) (Some stage) e = e
none_before n (steps.Up sock) (Some stage) e = e
none_before n (steps.Broke end peer why) (Some stage) e = e
none_before n (steps.Post end event) (Some stage) e = e

first_new : (F : ℕ → Type 0) (step : Step) (stages : ℕ → Option Stage) → ((n : ℕ) → IsNewTo n step (stages n)) → ((n : ℕ) → stages n ≡ None → F n) → FirstDial F step
first_new F (steps.Dial sock end peer) stages new first = first sock (new sock (number_same sock))
first_new F (steps.Read sock) stages new first = tt
first_new F (steps.Write sock bytes said) stages new first = tt
first_new F (steps.Up sock) stages new first = tt
first_new F (steps.Down sock) stages new first = tt
first_new F (steps.Left sock) stages new first = tt
first_new F (steps.Broke end peer why) stages new first = tt
first_new F (steps.Post end event) stages new first = tt

dials_new : (F : ℕ → Type 0) (told : List Step) (stages : ℕ → Option Stage) → ((n : ℕ) → AreNewTo n told (stages n)) → ((n : ℕ) → stages n ≡ None → F n) → AllDials F told
dials_new F [] stages new first = tt
dials_new F (step ∷ rest) stages new first = (first_new F step stages (λ n. (new n).0) first, dials_new F rest (λ n. stage_after n step (stages n)) (λ n. (new n).1) (λ n e. first n (none_before n step (stages n) e)))

-- nothing was fed to either end of a socket that is dialed, and its opener's reads its answer first
new_has : (journal : List Line) (log : List Entry) (readers : ℕ → ℕ → Option Reader) (place sock : ℕ) (from to from_host : List ℕ) (peer : Address) (world : World) → Good journal log world → ReadsFirst (readers place sock)
    → HasBoth log readers (new_socket world from to from_host (end_of_nobody (Some place) (Some sock) Pending) peer)
new_has journal log readers place sock from to from_host peer world g first = by_end where
  new : WorldSocket
  new = new_socket world from to from_host (end_of_nobody (Some place) (Some sock) Pending) peer

  none : (e : End) → IsFed log new.name e []
  none e = nothing_fed journal log world new.name e g (next_is_new world from to g.numbered)

  by_target : (c : Option ℕ) (next : Expected) (since : List ℕ) → reads_at readers expected.Request (target_end c).cell (target_end c).number ≡ Some (next, since) → HasAll log new.name T next since
  by_target None next since r = absurd cc
  by_target (Some p) next since r = let same = reader_is expected.Request next [] since r in subst (λ (x : Expected). HasAll log new.name T x since) same.0 (subst (IsFed log new.name T) same.1 (none T))

  by_end : HasBoth log readers new
  by_end O next since r = let is : (next ≡ expected.Answer) × (since ≡ []) = subst ReadsFirst r first in subst (λ (x : Expected). HasAll log new.name O x since) (sym is.0) (subst (IsFed log new.name O) (sym is.1) (none O))
  by_end T next since r = by_target (cell_of world peer) next since r

dial_have : (journal : List Line) (log : List Entry) (readers : ℕ → ℕ → Option Reader) (place : ℕ) (cell : Cell) (step : Step) (world : World) → Good journal log world → FirstDial (λ n. ReadsFirst (readers place n)) step → AllHave log readers world.sockets → OnDial (λ w. AllHave log readers w.sockets) place cell step world
dial_have journal log readers place cell (steps.Dial sock end peer) world g first all = have_stored log readers (new_socket world (called world.names (own_address cell.host end)) (called world.names peer) cell.host.host (end_of_nobody (Some place) (Some sock) Pending) peer) world.sockets
    (new_has journal log readers place sock (called world.names (own_address cell.host end)) (called world.names peer) cell.host.host peer world g first) all
dial_have journal log readers place cell (steps.Read sock) world g first all = tt
dial_have journal log readers place cell (steps.Write sock bytes said) world g first all = tt
dial_have journal log readers place cell (steps.Up sock) world g first all = tt
dial_have journal log readers place cell (steps.Down sock) world g first all = tt
dial_have journal log readers place cell (steps.Left sock) world g first all = tt
dial_have journal log readers place cell (steps.Broke end peer why) world g first all = tt
dial_have journal log readers place cell (steps.Post end event) world g first all = tt

-- ---- all that is told

step_have : (journal : List Line) (log : List Entry) (readers : ℕ → ℕ → Option Reader) (place : ℕ) (cell : Cell) (step : Step) (world : World) → Good journal log world → FirstDial (λ n. ReadsFirst (readers place n)) step → AllHave log readers world.sockets → AllHave log readers (stepped place cell step world).1.sockets
step_have journal log readers place cell step world g first all = step_as (λ w. AllHave log readers w.sockets) (λ one two c s k. subst (AllHave log readers) (sym s) k) place cell step world (dial_have journal log readers place cell step world g first all) (λ s e f c. have_changed log readers s e f world c.changes.place all) all

told_have : (journal : List Line) (log : List Entry) (readers : ℕ → ℕ → Option Reader) (place : ℕ) (cell : Cell) (told : List Step) (world : World) → Good journal log world → AllDials (λ n. ReadsFirst (readers place n)) told → AllHave log readers world.sockets
    → AllHave (log ++ (all_told place cell (told_steps told) world).0) readers (all_told place cell (told_steps told) world).1.sockets
told_have journal log readers place cell [] world g dials all = subst (λ (l : List Entry). AllHave l readers world.sockets) (sym (append-nil log)) all
told_have journal log readers place cell (step ∷ rest) world g dials all = let one = stepped place cell step world in
    subst (λ (l : List Entry). AllHave l readers (all_told place cell (told_steps rest) one.1).1.sockets) (append_assoc log one.0 (all_told place cell (told_steps rest) one.1).0)
    (told_have journal (log ++ one.0) readers place cell rest one.1 (one_told (Good journal) (keeps_good journal) log place cell (local.Step step) world g) dials.1
    (have_more log one.0 readers one.1.sockets (unfed one.0 (step_unfed place cell step world)) (step_have journal log readers place cell step world g dials.0 all)))

-- the steps of a host, as it reads after them
pub done_have : (journal : List Line) (log : List Entry) (world : World) (place : ℕ) (cell : Cell × ℕ) (told : List Step) (host : HostState) → slice_get world.cells place ≡ Some cell → Good journal log world → AllDials (λ n. ReadsFirst (reader_in (find (is_socket n) host.sockets))) told
    → AllHave log (given_readers place host world.cells) world.sockets → let done = done_at place cell told host world in AllHave (log ++ done.0) (readers_of done.1.cells) done.1.sockets
done_have journal log world place cell told host at g dials all = have_as (log ++ done.0) readers (readers_of done.1.cells) done.1.sockets readers_now
    (told_have journal log readers place (with_host cell host) told kept ((keeps_good journal).cell log world place (with_host cell host, cell.1) g) (dials_as (λ n. ReadsFirst (reader_in (find (is_socket n) host.sockets))) (λ n. ReadsFirst (readers place n)) told first dials) all) where
      kept : World
      kept = with_cell place (with_host cell host, cell.1) world

      done : List Entry × World
      done = done_at place cell told host world

      readers : ℕ → ℕ → Option Reader
      readers = given_readers place host world.cells

      first : (n : ℕ) → ReadsFirst (reader_in (find (is_socket n) host.sockets)) → ReadsFirst (readers place n)
      first n f = subst ReadsFirst (sym (ap (λ b. cond b (reader_in (find (is_socket n) host.sockets)) (readers_of world.cells place n)) (number_same place))) f

      readers_now : (p n : ℕ) → readers_of done.1.cells p n ≡ readers p n
      readers_now p n = ap (λ (l : List (Cell × ℕ)). readers_of l p n) (told_cells place (with_host cell host) (told_steps told) kept) ∙ readers_set world.cells place cell (with_host cell host, cell.1) at p n

-- a call that begins with nothing new at the host
pub call_have : (journal : List Line) (log : List Entry) (world : World) (place : ℕ) (cell : Cell × ℕ) (told : List Step) (host : HostState) → slice_get world.cells place ≡ Some cell → Good journal log world → EachFound world.sockets → AgreesAt place cell.0.host world
    → ((n : ℕ) → AreNewTo n told (stage_at cell.0.host n)) → Reads cell.0.host told host → AllHave log (readers_of world.cells) world.sockets → let done = done_at place cell told host world in AllHave (log ++ done.0) (readers_of done.1.cells) done.1.sockets
call_have journal log world place cell told host at g each agrees new reads all = done_have journal log world place cell told host at g (dials_new (λ n. ReadsFirst (reader_in (find (is_socket n) host.sockets))) told (stage_at cell.0.host) new first) (read_have log world place cell told host at each agrees reads all) where
  first : (n : ℕ) → stage_at cell.0.host n ≡ None → ReadsFirst (reader_in (find (is_socket n) host.sockets))
  first n none = host_first cell.0.host host told n reads (none_of (find (is_socket n) cell.0.host.sockets) (is_some_map (λ (w : Socket). w.stage) (find (is_socket n) cell.0.host.sockets) ∙ ap is_some none))
