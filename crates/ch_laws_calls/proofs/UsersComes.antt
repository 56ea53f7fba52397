-- A target's end that comes keeps what is carried: its host has its record from then on.
use Rattle.std.proofs.Common.{◌≡◌, ◌≤◌, ℕ, ◌+◌, ◌*◌, true, false, cond, ◌||◌, List, [], ◌++◌, Ok, Err, refl, sym, ap, ◌∙◌, subst, arith}
use Rattle.std.specs.Prelude.{find, slice_get, slice_set, Option, Some, None}
use Rattle.ch_reader.specs.declared.item.Expected.TheVariants as expected
use Rattle.ch_model.specs.declared.entry.Entry.{Entry}
use Rattle.ch_model.specs.declared.line.Line.{Line}
use Rattle.ch_model.specs.declared.name.End.{End}
use Rattle.ch_model.specs.declared.name.End.TheVariants.{O, T}
use Rattle.ch_model.specs.declared.name.SockName.{SockName}
use Rattle.ch_model.specs.declared.step.SocketEvent.TheVariants as sockets
use Rattle.ch_model.specs.declared.step.Step.{Step}
use Rattle.ch_model.specs.Host.{accepted, host_on}
use Rattle.ch_model.specs.HostState.{Socket, HostState}
use Rattle.ch_model.specs.HostSteps.{Stepped, is_socket, with_socket}
use Rattle.ch_model.specs.Naming.{Names, called}
use Rattle.ch_model.specs.Stages.{Stage, Pending, is_ended}
use Rattle.ch_model.specs.WorldHappenings.{with_cell}
use Rattle.ch_model.specs.WorldLines.{can_come}
use Rattle.ch_model.specs.WorldSockets.{end_of, with_end, is_socket_named, is_end_of, find_end}
use Rattle.ch_model.specs.WorldState.{Cell, WorldSocket, World}
use Rattle.ch_laws_log.proofs.Stored.{number_same}
use Rattle.ch_laws_ends.proofs.Came.{come_as}
use Rattle.ch_laws_ends.proofs.Changes.{cells_stay}
use Rattle.ch_laws_ends.proofs.Found.{none_found}
use Rattle.ch_laws_ends.proofs.Known.{TargetIs, pending_is}
use Rattle.ch_laws_ends.proofs.Places.{set_twice}
use Rattle.ch_laws_writes.specs.Dues.{Due, due_of, due_at}
use Rattle.ch_laws_bytes.proofs.Event.{given_readers, given_dues}
use Rattle.ch_laws_bytes.proofs.Feeds.{same_end_gone, reads_elsewhere}
use Rattle.ch_laws_bytes.proofs.Lines.{own_of}
use Rattle.ch_laws_bytes.proofs.Sockets.{writes_elsewhere}
use Rattle.ch_laws_bytes.proofs.Told.{end_names}
use Rattle.ch_laws_bytes.specs.Streams.{Reader, reader_in, readers_of, dues_of, is_over, reads_at, writes_at}
use Rattle.ch_laws_calls.specs.Calls.{IsIn, IsCalled, with_host, done_at, come_in}
use Rattle.ch_laws_calls.specs.Sound.{SoundEnds}
use Rattle.ch_laws_calls.specs.Users.{IsTargets}
use Rattle.ch_laws_calls.specs.UsersCarried.{AllOf, records_of, IsSeated, AsksOn, Answered, IsBegun, Carried}
use Rattle.ch_laws_calls.proofs.UsersDone.{given_records, settled}
use Rattle.ch_laws_calls.proofs.UsersElsewhere.{Stored, stored, readers_else, dues_else, seated_else, begun_else}
use Rattle.ch_laws_calls.proofs.UsersHappen.{AnyNumber}
use Rattle.ch_laws_calls.proofs.UsersStored.{all_changed, none_off}
use Rattle.ch_laws_calls.proofs.UsersTold.{AreCarried}

-- ---- the host

abbrev steps_in : Stepped → List Step
steps_in (Ok done) = done.0
steps_in (Err stop) = []

abbrev host_in : HostState → Stepped → HostState
host_in host (Ok done) = done.1
host_in host (Err stop) = host

came_is : (host after : HostState) (n : ℕ) (from_host : List ℕ) (told : List Step) → host_on host (sockets.Came n from_host) ≡ Ok (told, after) → (told ≡ []) × (after ≡ with_socket (accepted n from_host) host)
unfolding host_on
came_is host after n from_host told e = (sym (ap steps_in e), sym (ap (host_in host) e))

-- ---- its socket

some_same : (a b : ℕ) → ◌≡◌ {A = Option ℕ} (Some a) (Some b) → a ≡ b
some_same a b e = cc

-- the target's record is the one that was accepted
come_seated : (journal : List Line) (known : Names) (cells : List (Cell × ℕ)) (place number : ℕ) (host : HostState) (socket : WorldSocket) → socket.t.cell ≡ Some place → find (is_socket number) host.sockets ≡ Some (accepted number socket.from_host)
    → IsSeated journal known (records_of cells) socket → IsSeated journal known (given_records place host cells) (with_end T (come_as number socket.t) socket)
come_seated journal known cells place number host socket cell there s = record {
  opener = s.opener;
  at = s.at;
  from_host = s.from_host;
  taken = s.taken;
  uncut = by_end;
  target = λ p n held c m r. by_place p n held (some_same place p (sym cell ∙ c)) (some_same number n m) r;
} where
  by_end : (e : End) → (end_of e (with_end T (come_as number socket.t) socket)).is_cut ≡ false
  by_end O = s.uncut O
  by_end T = s.uncut T

  own : Socket
  own = accepted number socket.from_host

  as_own : (p : ℕ) (held : Socket) → own ≡ held → IsTargets (own_of journal p) known (with_end T (come_as number socket.t) socket) held
  as_own p held is = subst (λ (w : Socket). IsTargets (own_of journal p) known (with_end T (come_as number socket.t) socket) w) is (record { peer_host = refl; user = λ end peer b u. absurd cc })

  one : (a b : Socket) → ◌≡◌ {A = Option Socket} (Some a) (Some b) → a ≡ b
  one a b e = cc

  here : (n : ℕ) (held : Socket) → number ≡ n → given_records place host cells place n ≡ Some held → own ≡ held
  here n held e r = one own held (sym (ap (λ b. cond b (find (is_socket n) host.sockets) (records_of cells place n)) (number_same place) ∙ ap (λ (k : ℕ). find (is_socket k) host.sockets) (sym e) ∙ there) ∙ r)

  by_place : (p n : ℕ) (held : Socket) → place ≡ p → number ≡ n → given_records place host cells p n ≡ Some held → IsTargets (own_of journal p) known (with_end T (come_as number socket.t) socket) held
  by_place p n held e f r = as_own p held (here n held f (subst (λ (q : ℕ). given_records place host cells q n ≡ Some held) (sym e) r))

-- it reads its request next, and answers, as it did before it came
come_begun : (journal : List Line) (known : Names) (cells : List (Cell × ℕ)) (place number : ℕ) (cell : Cell × ℕ) (socket : WorldSocket) → slice_get cells place ≡ Some cell → socket.t.cell ≡ Some place → socket.t.number ≡ None → socket.t.stage ≡ Pending → is_end_of place number socket.o ≡ false
    → Stored number (accepted number socket.from_host) cell.0.host (with_socket (accepted number socket.from_host) cell.0.host) → IsBegun journal known (readers_of cells) (dues_of cells) socket
    → IsBegun journal known (given_readers place (with_socket (accepted number socket.from_host) cell.0.host) cells) (given_dues place (due_at (with_socket (accepted number socket.from_host) cell.0.host)) cells) (with_end T (come_as number socket.t) socket)
come_begun journal known cells place number cell socket at c none pending o s b = record {
  leads = record { asked = b.leads.asked; to = b.leads.to; cell = b.leads.cell };
  answer = λ clean over since r. subst (λ (d : Option Due). Answered (since ++ socket.o.unread) d) (sym due) (b.answer clean over since (sym (reads_elsewhere place number (readers_of cells) readers expected.Answer socket.o (readers_else cells place number new cell host at s) o) ∙ r));
  request = λ p k over since r. subst (λ (d : Option Due). AsksOn (own_of journal p) known b.leads.asked socket.name (since ++ socket.t.unread) d) (sym (writes_elsewhere place number (dues_of cells) dues socket.o (dues_else cells place number new cell host at s) o))
      (b.request p k (same ∙ over) since (was ∙ sym now ∙ r));
} where
  new : Socket
  new = accepted number socket.from_host

  host : HostState
  host = with_socket new cell.0.host

  readers : ℕ → ℕ → Option Reader
  readers = given_readers place host cells

  dues : ℕ → ℕ → Option Due
  dues = given_dues place (due_at host) cells

  there : find (is_socket number) host.sockets ≡ Some new
  there = s number ∙ ap (λ b. cond b (Some new) (find (is_socket number) cell.0.host.sockets)) (number_same number)

  same : is_over socket.t ≡ is_over (come_as number socket.t)
  same = ap (λ (x : Stage). is_ended x || socket.t.is_cut) pending

  now : reads_at readers expected.Request socket.t.cell (Some number) ≡ Some (expected.Request, [])
  now = ap (λ (k : Option ℕ). reads_at readers expected.Request k (Some number)) c ∙ ap (λ b. cond b (reader_in (find (is_socket number) host.sockets)) (readers_of cells place number)) (number_same place) ∙ ap reader_in there

  was : reads_at (readers_of cells) expected.Request socket.t.cell socket.t.number ≡ Some (expected.Request, [])
  was = ap (λ (k : Option ℕ). reads_at (readers_of cells) expected.Request k socket.t.number) c ∙ ap (λ (k : Option ℕ). reads_at (readers_of cells) expected.Request (Some place) k) none

  due : writes_at dues socket.t.cell (Some number) ≡ writes_at (dues_of cells) socket.t.cell socket.t.number
  due = ap (λ (k : Option ℕ). writes_at dues k (Some number)) c ∙ ap (λ b. cond b (due_of (find (is_socket number) host.sockets)) (dues_of cells place number)) (number_same place) ∙ ap due_of there
      ∙ sym (ap (λ (k : Option ℕ). writes_at (dues_of cells) k socket.t.number) c ∙ ap (λ (k : Option ℕ). writes_at (dues_of cells) (Some place) k) none)

-- ---- the world in which it has come

come_kept : (journal : List Line) (log after : List Entry) (world : World) (socket : WorldSocket) (place : ℕ) (cell : Cell × ℕ) → IsIn socket world → can_come socket ≡ true → socket.t.cell ≡ Some place → slice_get world.cells place ≡ Some cell → SoundEnds journal log world → Carried journal log world
    → Carried journal after (done_at place (cell.0, cell.1 + 1) [] (with_socket (accepted (2 * cell.1 + 1) socket.from_host) cell.0.host) (come_in place cell socket world)).1
come_kept journal log after world socket place cell is can c at s j = settled journal after world.cells place cell now (due_at host) [] AnyNumber (with_cell place now come) at (ap (λ (l : List (Cell × ℕ)). slice_set l place now) cells ∙ set_twice world.cells place (cell.0, cell.1 + 1) now) (λ n. refl)
    (subst (λ (known : Names). AreCarried journal known (given_records place host world.cells) (given_readers place host world.cells) (given_dues place (due_at host) world.cells) place AnyNumber come.sockets) (sym (end_names socket.name T (come_as number) counted)) (record {
      put = λ t other f. (seated t other f, λ clean n is. tt);
      begun = begun;
    })) where
      number : ℕ
      number = 2 * cell.1 + 1

      new : Socket
      new = accepted number socket.from_host

      host : HostState
      host = with_socket new cell.0.host

      now : Cell × ℕ
      now = (with_host (cell.0, cell.1 + 1) host, cell.1 + 1)

      counted : World
      counted = with_cell place (cell.0, cell.1 + 1) world

      come : World
      come = come_in place cell socket world

      cells : come.cells ≡ slice_set world.cells place (cell.0, cell.1 + 1)
      cells = cells_stay socket.name T (come_as number) counted

      known : TargetIs Pending socket.t.cell socket.t.number
      known = subst (λ (x : Stage). TargetIs x socket.t.cell socket.t.number) (pending_is socket.t.stage can) (s.sure.ends.sorted.1 socket.name socket is).t

      same : (k : ℕ) → k ≤ k
      same k = omega arith

      free : find_end place number world.sockets ≡ None
      free = none_found place number world.sockets (s.sure.ends.agrees.accepted place cell at cell.1 (same cell.1))

      off : (t : SockName) (other : WorldSocket) (e : End) → find (is_socket_named t) world.sockets ≡ Some other → is_end_of place number (end_of e other) ≡ false
      off t other e f = none_off place number world.sockets t other e s.sure.ends.each free f

      has : Stored number new cell.0.host host
      has = stored number new cell.0.host refl

      there : find (is_socket number) host.sockets ≡ Some new
      there = has number ∙ ap (λ b. cond b (Some new) (find (is_socket number) cell.0.host.sockets)) (number_same number)

      seated : AllOf (IsSeated journal world.names (given_records place host world.cells)) come.sockets
      seated = all_changed (IsSeated journal world.names (given_records place host world.cells)) socket.name T (come_as number) counted
          (λ old f. subst (λ (w : WorldSocket). IsSeated journal world.names (given_records place host world.cells) (with_end T (come_as number w.t) w)) (same_end_gone socket old socket.name world.sockets is f) (come_seated journal world.names world.cells place number host socket c there (j.seated socket.name socket is)))
          (λ t other h f. seated_else journal world.names world.cells place number new cell host other at has (off t other T f) (j.seated t other f))

      begun : AllOf (IsBegun journal world.names (given_readers place host world.cells) (given_dues place (due_at host) world.cells)) come.sockets
      begun = all_changed (IsBegun journal world.names (given_readers place host world.cells) (given_dues place (due_at host) world.cells)) socket.name T (come_as number) counted
          (λ old f. subst (λ (w : WorldSocket). IsBegun journal world.names (given_readers place host world.cells) (given_dues place (due_at host) world.cells) (with_end T (come_as number w.t) w)) (same_end_gone socket old socket.name world.sockets is f)
          (come_begun journal world.names world.cells place number cell socket at c known.1 (pending_is socket.t.stage can) (off socket.name socket O is) has (j.begun socket.name socket is)))
          (λ t other h f. begun_else journal world.names world.cells place number new cell host other at has (off t other O f) (off t other T f) (j.begun t other f))

pub came : (journal : List Line) (log after : List Entry) (world : World) (socket : WorldSocket) (place : ℕ) (cell : Cell × ℕ) (told : List Step) (host : HostState) → IsIn socket world → can_come socket ≡ true → socket.t.cell ≡ Some place → IsCalled world place cell (sockets.Came (2 * cell.1 + 1) socket.from_host) told host → SoundEnds journal log world → Carried journal log world
    → Carried journal after (done_at place (cell.0, cell.1 + 1) told host (come_in place cell socket world)).1
came journal log after world socket place cell told host is can c called s j = let same = came_is cell.0.host host (2 * cell.1 + 1) socket.from_host told called.does in
    subst (λ (l : List Step). Carried journal after (done_at place (cell.0, cell.1 + 1) l host (come_in place cell socket world)).1) (sym same.0)
    (subst (λ (h : HostState). Carried journal after (done_at place (cell.0, cell.1 + 1) [] h (come_in place cell socket world)).1) (sym same.1) (come_kept journal log after world socket place cell is can c called.at s j))
