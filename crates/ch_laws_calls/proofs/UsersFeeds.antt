-- Bytes that are handed to an end keep what is carried: they go from those that are unread to those that its host has.
use Rattle.std.proofs.Common.{◌≡◌, ℕ, true, false, cond, List, [], ◌∷◌, ◌++◌, take, drop, Ok, Err, refl, sym, ap, ◌∙◌, subst, append_assoc}
use Rattle.std.proofs.lemmas.Bool.{and_parts}
use Rattle.std.proofs.lemmas.List.{take-append-drop}
use Rattle.std.specs.Option.{option_map}
use Rattle.std.specs.Prelude.{find, slice_get, slice_set, Option, Some, None}
use Rattle.ch_reader.specs.declared.item.Expected.{Expected}
use Rattle.ch_reader.specs.declared.item.Expected.TheVariants as expected
use Rattle.ch_model.specs.declared.entry.Entry.{Entry}
use Rattle.ch_model.specs.declared.line.Line.{Line}
use Rattle.ch_model.specs.declared.name.End.{End}
use Rattle.ch_model.specs.declared.name.End.TheVariants.{O, T}
use Rattle.ch_model.specs.declared.name.SockName.{SockName}
use Rattle.ch_model.specs.declared.step.SocketEvent.TheVariants as sockets
use Rattle.ch_model.specs.declared.step.Step.{Step}
use Rattle.ch_model.specs.Host.{keeps, host_on}
use Rattle.ch_model.specs.HostState.{Socket, HostState}
use Rattle.ch_model.specs.HostSteps.{Stepped, still, is_socket, with_socket}
use Rattle.ch_model.specs.Naming.{Names}
use Rattle.ch_model.specs.Same.{same_socket, same_end}
use Rattle.ch_model.specs.Stages.{Stage, Pending, Open, Ended, is_open, is_ended}
use Rattle.ch_model.specs.WorldHappenings.{with_cell}
use Rattle.ch_model.specs.WorldLines.{is_at_work, can_feed}
use Rattle.ch_model.specs.WorldSockets.{end_of, with_end, is_of_host, has_input, is_socket_named, is_end_of, find_end}
use Rattle.ch_model.specs.WorldState.{Cell, WorldEnd, WorldSocket, World}
use Rattle.ch_laws_log.specs.WorldEnds.{stage_found}
use Rattle.ch_laws_log.proofs.HostTold.{number_found}
use Rattle.ch_laws_log.proofs.Stored.{number_same}
use Rattle.ch_laws_ends.proofs.Changes.{cells_stay}
use Rattle.ch_laws_ends.proofs.Found.{Stands}
use Rattle.ch_laws_writes.specs.Dues.{Due, due_of, due_staged, due_at}
use Rattle.ch_laws_bytes.proofs.Event.{given_readers, given_dues}
use Rattle.ch_laws_bytes.proofs.Feeds.{same_end_gone, reads_elsewhere, reads_there}
use Rattle.ch_laws_bytes.proofs.Lines.{own_of}
use Rattle.ch_laws_bytes.proofs.Sockets.{writes_elsewhere, other_end_there}
use Rattle.ch_laws_bytes.proofs.Told.{end_names}
use Rattle.ch_laws_bytes.specs.Streams.{Reader, reader_in, reader_at, readers_of, due_in, dues_of, reads_at, writes_at}
use Rattle.ch_laws_calls.specs.Calls.{IsIn, IsHeldBy, IsCalled, with_host, done_at, fed_in}
use Rattle.ch_laws_calls.specs.Sound.{SoundEnds}
use Rattle.ch_laws_calls.specs.Users.{IsTargets}
use Rattle.ch_laws_calls.specs.UsersCarried.{AllOf, record_at, records_of, IsSeated, AsksOn, Answered, IsBegun, Carried}
use Rattle.ch_laws_calls.proofs.UsersDone.{given_records, settled}
use Rattle.ch_laws_calls.proofs.UsersElsewhere.{Stored, stored, readers_else, dues_else, seated_else, begun_else}
use Rattle.ch_laws_calls.proofs.UsersHappen.{AnyNumber}
use Rattle.ch_laws_calls.proofs.UsersSeated.{seated_end}
use Rattle.ch_laws_calls.proofs.UsersStarts.{have_records, is_at}
use Rattle.ch_laws_calls.proofs.UsersStored.{all_changed, other_off}
use Rattle.ch_laws_calls.proofs.UsersTold.{AreCarried}

-- ---- the host

abbrev steps_in : Stepped → List Step
steps_in (Ok done) = done.0
steps_in (Err stop) = []

abbrev host_in : HostState → Stepped → HostState
host_in host (Ok done) = done.1
host_in host (Err stop) = host

fed_is : (host after : HostState) (n : ℕ) (bytes : List ℕ) (held : Socket) (told : List Step) → find (is_socket n) host.sockets ≡ Some held → is_open held.stage ≡ true → host_on host (sockets.Fed n bytes) ≡ Ok (told, after) → (told ≡ []) × (after ≡ with_socket (record held { since = held.since ++ bytes }) host)
unfolding host_on
fed_is host after n bytes held told f o e = (sym (ap steps_in is), sym (ap (host_in host) is)) where
  by_held : Option Socket → Stepped
  by_held s = elim s as (λ s. Stepped) [
    | None ↦ still host
    | Some socket ↦ cond (is_open socket.stage) (keeps bytes socket host) (still host)
  ]

  is : ◌≡◌ {A = Stepped} (Ok ([], with_socket (record held { since = held.since ++ bytes }) host)) (Ok (told, after))
  is = sym (ap by_held f ∙ ap (λ b. cond b (keeps bytes held host) (still host)) o) ∙ e

-- ---- what is given of the end that is fed

-- The host's record of an end has these bytes more, and the end so many less.
record IsFed (cells : List (Cell × ℕ)) (place n : ℕ) (cell : Cell × ℕ) (held : Socket) (bytes : List ℕ) (which : End) (socket : WorldSocket) : Type 0 where
  at : slice_get cells place ≡ Some cell
  found : find (is_socket n) cell.0.host.sockets ≡ Some held
  stands : is_open held.stage ≡ true
  cell_is : (end_of which socket).cell ≡ Some place
  number_is : (end_of which socket).number ≡ Some n
  other : (w : End) → same_end which w ≡ false → is_end_of place n (end_of w socket) ≡ false
  left : List ℕ
  all : bytes ++ left ≡ (end_of which socket).unread

abbrev fed_record : Socket → List ℕ → Socket
fed_record held bytes = record held { since = held.since ++ bytes }

-- the host that has them
abbrev fed_host : Socket → List ℕ → HostState → HostState
fed_host held bytes host = with_socket (fed_record held bytes) host

has_fed : (host : HostState) (n : ℕ) (held : Socket) (bytes : List ℕ) → find (is_socket n) host.sockets ≡ Some held → Stored n (fed_record held bytes) host (fed_host held bytes host)
has_fed host n held bytes f = stored n (fed_record held bytes) host (number_found n host.sockets held f)

there_now : (host : HostState) (n : ℕ) (held : Socket) (bytes : List ℕ) → find (is_socket n) host.sockets ≡ Some held → find (is_socket n) (fed_host held bytes host).sockets ≡ Some (fed_record held bytes)
there_now host n held bytes f = has_fed host n held bytes f n ∙ ap (λ b. cond b (Some (fed_record held bytes)) (find (is_socket n) host.sockets)) (number_same n)

-- ---- of whom the ends are

some_same : (a b : ℕ) → ◌≡◌ {A = Option ℕ} (Some a) (Some b) → a ≡ b
some_same a b e = cc

fed_seated : (journal : List Line) (known : Names) (cells : List (Cell × ℕ)) (place n : ℕ) (cell : Cell × ℕ) (held : Socket) (bytes : List ℕ) (which : End) (socket : WorldSocket) → IsFed cells place n cell held bytes which socket → IsSeated journal known (records_of cells) socket
    → IsSeated journal known (given_records place (fed_host held bytes cell.0.host) cells) socket
fed_seated journal known cells place n cell held bytes O socket f s = seated_else journal known cells place n (fed_record held bytes) cell (fed_host held bytes cell.0.host) socket f.at (has_fed cell.0.host n held bytes f.found) (f.other T refl) s
fed_seated journal known cells place n cell held bytes T socket f s = record {
  opener = s.opener;
  at = s.at;
  from_host = s.from_host;
  taken = s.taken;
  uncut = s.uncut;
  target = λ p m now c k r. by_place p m now (some_same place p (sym f.cell_is ∙ c)) (some_same n m (sym f.number_is ∙ k)) r;
} where
  host : HostState
  host = fed_host held bytes cell.0.host

  one : (a b : Socket) → ◌≡◌ {A = Option Socket} (Some a) (Some b) → a ≡ b
  one a b e = cc

  was : IsTargets (own_of journal place) known socket held
  was = s.target place n held f.cell_is f.number_is (ap (λ (o : Option (Cell × ℕ)). record_at o n) f.at ∙ f.found)

  here : (m : ℕ) (now : Socket) → n ≡ m → given_records place host cells place m ≡ Some now → fed_record held bytes ≡ now
  here m now e r = one (fed_record held bytes) now (sym (ap (λ b. cond b (find (is_socket m) host.sockets) (records_of cells place m)) (number_same place) ∙ ap (λ (k : ℕ). find (is_socket k) host.sockets) (sym e) ∙ there_now cell.0.host n held bytes f.found) ∙ r)

  by_place : (p m : ℕ) (now : Socket) → place ≡ p → n ≡ m → given_records place host cells p m ≡ Some now → IsTargets (own_of journal p) known socket now
  by_place p m now e k r = subst (λ (q : ℕ). IsTargets (own_of journal q) known socket now) e
      (subst (λ (w : Socket). IsTargets (own_of journal place) known socket w) (here m now k (subst (λ (q : ℕ). given_records place host cells q m ≡ Some now) (sym e) r)) (record { peer_host = was.peer_host; user = was.user }))

-- ---- what goes both ways

not_ended : (stage : Stage) → is_open stage ≡ true → is_ended stage ≡ false
not_ended Pending e = absurd cc
not_ended Open e = refl
not_ended Ended e = absurd cc

-- what is due hangs on no bytes
same_due : (stage : Stage) (held : Socket) (bytes : List ℕ) → due_staged stage (fed_record held bytes) ≡ due_staged stage held
same_due Pending held bytes = refl
same_due Open held bytes = refl
same_due Ended held bytes = refl

-- what is read next there, before and after
fed_reads : (cells : List (Cell × ℕ)) (place n : ℕ) (cell : Cell × ℕ) (held : Socket) (bytes : List ℕ) (which : End) (socket : WorldSocket) (first : Expected) → IsFed cells place n cell held bytes which socket
    → (reads_at (readers_of cells) first (end_of which socket).cell (end_of which socket).number ≡ Some (held.expected, held.since)) × (reads_at (given_readers place (fed_host held bytes cell.0.host) cells) first (end_of which socket).cell (end_of which socket).number ≡ Some (held.expected, held.since ++ bytes))
fed_reads cells place n cell held bytes which socket first f = (
  reads_there (readers_of cells) first (end_of which socket) place n f.cell_is f.number_is ∙ ap (λ (o : Option (Cell × ℕ)). reader_at o n) f.at ∙ ap reader_in f.found ∙ stands held.since,
  reads_there (given_readers place host cells) first (end_of which socket) place n f.cell_is f.number_is ∙ ap (λ b. cond b (reader_in (find (is_socket n) host.sockets)) (readers_of cells place n)) (number_same place) ∙ ap reader_in (there_now cell.0.host n held bytes f.found) ∙ stands (held.since ++ bytes),
) where
  host : HostState
  host = fed_host held bytes cell.0.host

  stands : (since : List ℕ) → cond {A = Option Reader} (is_ended held.stage) None (Some (held.expected, since)) ≡ Some (held.expected, since)
  stands since = ap (λ b. cond {A = Option Reader} b None (Some (held.expected, since))) (not_ended held.stage f.stands)

-- what is written next there is the same
fed_writes : (cells : List (Cell × ℕ)) (place n : ℕ) (cell : Cell × ℕ) (held : Socket) (bytes : List ℕ) (which : End) (socket : WorldSocket) → IsFed cells place n cell held bytes which socket
    → writes_at (given_dues place (due_at (fed_host held bytes cell.0.host)) cells) (end_of which socket).cell (end_of which socket).number ≡ writes_at (dues_of cells) (end_of which socket).cell (end_of which socket).number
fed_writes cells place n cell held bytes which socket f = at_own dues ∙ ap (λ b. cond b (due_of (find (is_socket n) host.sockets)) (dues_of cells place n)) (number_same place) ∙ ap due_of (there_now cell.0.host n held bytes f.found) ∙ same_due held.stage held bytes ∙ sym (at_own (dues_of cells) ∙ ap (λ (o : Option (Cell × ℕ)). due_in o n) f.at ∙ ap due_of f.found) where
  host : HostState
  host = fed_host held bytes cell.0.host

  dues : ℕ → ℕ → Option Due
  dues = given_dues place (due_at host) cells

  at_own : (d : ℕ → ℕ → Option Due) → writes_at d (end_of which socket).cell (end_of which socket).number ≡ d place n
  at_own d = ap (λ (c : Option ℕ). writes_at d c (end_of which socket).number) f.cell_is ∙ ap (λ (m : Option ℕ). writes_at d (Some place) m) f.number_is

-- the bytes that the host has got
got_more : (held : Socket) (bytes since : List ℕ) (k : Expected) (now : Option Reader) → now ≡ Some (held.expected, held.since ++ bytes) → now ≡ Some (k, since) → (held.expected ≡ k) × (held.since ++ bytes ≡ since)
got_more held bytes since k now a b = (ap (λ (x : Reader). x.0) is, ap (λ (x : Reader). x.1) is) where
  one : (x y : Reader) → ◌≡◌ {A = Option Reader} (Some x) (Some y) → x ≡ y
  one x y e = cc

  is : ◌≡◌ {A = Reader} (held.expected, held.since ++ bytes) (k, since)
  is = one (held.expected, held.since ++ bytes) (k, since) (sym a ∙ b)

-- they and those that are left are all that there were
all_there : (before since bytes left unread : List ℕ) → before ++ bytes ≡ since → bytes ++ left ≡ unread → before ++ unread ≡ since ++ left
all_there before since bytes left unread s a = ap (λ (l : List ℕ). before ++ l) (sym a) ∙ sym (append_assoc before bytes left) ∙ ap (λ (l : List ℕ). l ++ left) s

fed_begun : (journal : List Line) (known : Names) (cells : List (Cell × ℕ)) (place n : ℕ) (cell : Cell × ℕ) (held : Socket) (bytes : List ℕ) (which : End) (socket : WorldSocket) (f : IsFed cells place n cell held bytes which socket) → IsBegun journal known (readers_of cells) (dues_of cells) socket
    → IsBegun journal known (given_readers place (fed_host held bytes cell.0.host) cells) (given_dues place (due_at (fed_host held bytes cell.0.host)) cells) (with_end which (record (end_of which socket) { unread = f.left }) socket)
fed_begun journal known cells place n cell held bytes O socket f b = record {
  leads = record { asked = b.leads.asked; to = b.leads.to; cell = b.leads.cell };
  answer = λ clean over since r. let got = got_more held bytes since expected.Answer (reads_at readers expected.Answer socket.o.cell socket.o.number) reads.1 r in
      subst (λ (d : Option Due). Answered (since ++ f.left) d) (sym (writes_elsewhere place n (dues_of cells) dues socket.t (dues_else cells place n (fed_record held bytes) cell host f.at has) (f.other T refl)))
      (subst (λ (l : List ℕ). Answered l (writes_at (dues_of cells) socket.t.cell socket.t.number)) (all_there held.since since bytes f.left socket.o.unread got.1 f.all) (b.answer clean over held.since (reads.0 ∙ ap (λ (e : Expected). Some (e, held.since)) got.0)));
  request = λ p c over since r. subst (λ (d : Option Due). AsksOn (own_of journal p) known b.leads.asked socket.name (since ++ socket.t.unread) d) (sym (fed_writes cells place n cell held bytes O socket f))
      (b.request p c over since (sym (reads_elsewhere place n (readers_of cells) readers expected.Request socket.t (readers_else cells place n (fed_record held bytes) cell host f.at has) (f.other T refl)) ∙ r));
} where
  host : HostState
  host = fed_host held bytes cell.0.host

  readers : ℕ → ℕ → Option Reader
  readers = given_readers place host cells

  dues : ℕ → ℕ → Option Due
  dues = given_dues place (due_at host) cells

  has : Stored n (fed_record held bytes) cell.0.host host
  has = has_fed cell.0.host n held bytes f.found

  reads : (reads_at (readers_of cells) expected.Answer socket.o.cell socket.o.number ≡ Some (held.expected, held.since)) × (reads_at readers expected.Answer socket.o.cell socket.o.number ≡ Some (held.expected, held.since ++ bytes))
  reads = fed_reads cells place n cell held bytes O socket expected.Answer f
fed_begun journal known cells place n cell held bytes T socket f b = record {
  leads = record { asked = b.leads.asked; to = b.leads.to; cell = b.leads.cell };
  answer = λ clean over since r. subst (λ (d : Option Due). Answered (since ++ socket.o.unread) d) (sym (fed_writes cells place n cell held bytes T socket f))
      (b.answer clean over since (sym (reads_elsewhere place n (readers_of cells) readers expected.Answer socket.o (readers_else cells place n (fed_record held bytes) cell host f.at has) (f.other O refl)) ∙ r));
  request = λ p c over since r. let got = got_more held bytes since expected.Request (reads_at readers expected.Request socket.t.cell socket.t.number) reads.1 r in
      subst (λ (d : Option Due). AsksOn (own_of journal p) known b.leads.asked socket.name (since ++ f.left) d) (sym (writes_elsewhere place n (dues_of cells) dues socket.o (dues_else cells place n (fed_record held bytes) cell host f.at has) (f.other O refl)))
      (subst (λ (l : List ℕ). AsksOn (own_of journal p) known b.leads.asked socket.name l (writes_at (dues_of cells) socket.o.cell socket.o.number)) (all_there held.since since bytes f.left socket.t.unread got.1 f.all)
      (b.request p c over held.since (reads.0 ∙ ap (λ (e : Expected). Some (e, held.since)) got.0)));
} where
  host : HostState
  host = fed_host held bytes cell.0.host

  readers : ℕ → ℕ → Option Reader
  readers = given_readers place host cells

  dues : ℕ → ℕ → Option Due
  dues = given_dues place (due_at host) cells

  has : Stored n (fed_record held bytes) cell.0.host host
  has = has_fed cell.0.host n held bytes f.found

  reads : (reads_at (readers_of cells) expected.Request socket.t.cell socket.t.number ≡ Some (held.expected, held.since)) × (reads_at readers expected.Request socket.t.cell socket.t.number ≡ Some (held.expected, held.since ++ bytes))
  reads = fed_reads cells place n cell held bytes T socket expected.Request f

-- ---- the world in which it is fed

fed_kept : (journal : List Line) (log after : List Entry) (world : World) (socket : WorldSocket) (which : End) (count : ℕ) (bytes : List ℕ) (place n : ℕ) (cell : Cell × ℕ) (held : Socket) → IsIn socket world → take count (end_of which socket).unread ≡ bytes → IsHeldBy place n (end_of which socket) → slice_get world.cells place ≡ Some cell
    → find (is_socket n) cell.0.host.sockets ≡ Some held → is_open held.stage ≡ true → SoundEnds journal log world → Carried journal log world → Carried journal after (done_at place cell [] (fed_host held bytes cell.0.host) (fed_in which count socket world)).1
fed_kept journal log after world socket which count bytes place n cell held is taken of at found stands s j = settled journal after world.cells place cell now (due_at host) [] AnyNumber (with_cell place now fed) at (ap (λ (l : List (Cell × ℕ)). slice_set l place now) (cells_stay socket.name which handed world)) (λ m. refl)
    (subst (λ (known : Names). AreCarried journal known (given_records place host world.cells) (given_readers place host world.cells) (given_dues place (due_at host) world.cells) place AnyNumber fed.sockets) (sym (end_names socket.name which handed world)) (record {
      put = λ t other f. (seated t other f, λ clean m is. tt);
      begun = begun;
    })) where
      host : HostState
      host = fed_host held bytes cell.0.host

      now : Cell × ℕ
      now = (with_host cell host, cell.1)

      handed : WorldEnd → WorldEnd
      handed end = record end { unread = drop count end.unread }

      fed : World
      fed = fed_in which count socket world

      each : find_end place n world.sockets ≡ Some (socket.name, which)
      each = s.sure.ends.each socket.name socket which place n is (is_at place n (end_of which socket) of.cell of.number)

      one : IsFed world.cells place n cell held bytes which socket
      one = record {
        at = at;
        found = found;
        stands = stands;
        cell_is = of.cell;
        number_is = of.number;
        other = λ w h. other_end_there place n world.sockets (socket.name, which) socket w s.sure.ends.each each is h;
        left = drop count (end_of which socket).unread;
        all = ap (λ (l : List ℕ). l ++ drop count (end_of which socket).unread) (sym taken) ∙ take-append-drop count (end_of which socket).unread;
      }

      has : Stored n (fed_record held bytes) cell.0.host host
      has = has_fed cell.0.host n held bytes found

      off : (t : SockName) (other : WorldSocket) (e : End) → same_socket socket.name t ≡ false → find (is_socket_named t) world.sockets ≡ Some other → is_end_of place n (end_of e other) ≡ false
      off t other e h f = other_off place n world.sockets (socket.name, which) t other e s.sure.ends.each each h f

      seated : AllOf (IsSeated journal world.names (given_records place host world.cells)) fed.sockets
      seated = all_changed (IsSeated journal world.names (given_records place host world.cells)) socket.name which handed world
          (λ old f. seated_end journal world.names (given_records place host world.cells) which handed old (λ end. (refl, refl)) (λ end. refl)
          (subst (λ (w : WorldSocket). IsSeated journal world.names (given_records place host world.cells) w) (same_end_gone socket old socket.name world.sockets is f) (fed_seated journal world.names world.cells place n cell held bytes which socket one (j.seated socket.name socket is))))
          (λ t other h f. seated_else journal world.names world.cells place n (fed_record held bytes) cell host other at has (off t other T h f) (j.seated t other f))

      begun : AllOf (IsBegun journal world.names (given_readers place host world.cells) (given_dues place (due_at host) world.cells)) fed.sockets
      begun = all_changed (IsBegun journal world.names (given_readers place host world.cells) (given_dues place (due_at host) world.cells)) socket.name which handed world
          (λ old f. subst (λ (w : WorldSocket). IsBegun journal world.names (given_readers place host world.cells) (given_dues place (due_at host) world.cells) (with_end which (handed (end_of which w)) w)) (same_end_gone socket old socket.name world.sockets is f)
          (fed_begun journal world.names world.cells place n cell held bytes which socket one (j.begun socket.name socket is)))
          (λ t other h f. begun_else journal world.names world.cells place n (fed_record held bytes) cell host other at has (off t other O h f) (off t other T h f) (j.begun t other f))

pub fed : (journal : List Line) (log after : List Entry) (world : World) (socket : WorldSocket) (which : End) (count b : ℕ) (bytes : List ℕ) (place n : ℕ) (cell : Cell × ℕ) (told : List Step) (host : HostState) → IsIn socket world → can_feed which socket ≡ true → take count (end_of which socket).unread ≡ b ∷ bytes → IsHeldBy place n (end_of which socket)
    → IsCalled world place cell (sockets.Fed n (b ∷ bytes)) told host → SoundEnds journal log world → Carried journal log world → Carried journal after (done_at place cell told host (fed_in which count socket world)).1
fed journal log after world socket which count b bytes place n cell told host is can taken of called s j =
    let had = have_records place cell world called.at s.sure.ends.each s.sure.ends.agrees socket.name socket which n is (is_at place n (end_of which socket) of.cell of.number) in
    let stands = open_record had.0 had.1 in
    let same = fed_is cell.0.host host n (b ∷ bytes) had.0 told had.1 stands called.does in
    subst (λ (l : List Step). Carried journal after (done_at place cell l host (fed_in which count socket world)).1) (sym same.0)
    (subst (λ (h : HostState). Carried journal after (done_at place cell [] h (fed_in which count socket world)).1) (sym same.1) (fed_kept journal log after world socket which count (b ∷ bytes) place n cell had.0 is taken of called.at had.1 stands s j)) where
      work : is_open (end_of which socket).stage ≡ true
      work = (and_parts (is_open (end_of which socket).stage) (is_of_host (end_of which socket)) (and_parts (is_at_work which socket) (has_input which socket) can).0).0

      one : (x y : Stage) → ◌≡◌ {A = Option Stage} (Some x) (Some y) → x ≡ y
      one x y e = cc

      open_record : (held : Socket) → find (is_socket n) cell.0.host.sockets ≡ Some held → is_open held.stage ≡ true
      open_record held f = ap is_open (one held.stage (end_of which socket).stage (sym (ap (option_map (λ (w : Socket). w.stage)) f) ∙ s.sure.ends.agrees.ends place cell called.at n
          ∙ ap (λ (o : Option (SockName × End)). stage_found o world.sockets) (s.sure.ends.each socket.name socket which place n is (is_at place n (end_of which socket) of.cell of.number)) ∙ ap (Stands which) is)) ∙ work
