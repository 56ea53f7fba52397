-- Bytes that are fed to an end come behind those that were, at its host as in the log.
use Rattle.std.proofs.Common.{◌≡◌, ℕ, zero, suc, Bool, true, false, cond, ◌&&◌, ◌||◌, List, [], ◌∷◌, ◌++◌, length, take, drop, refl, sym, ap, ◌∙◌, subst}
use Rattle.std.proofs.lemmas.Bool.{and_parts}
use Rattle.std.proofs.lemmas.List.{take-append-drop}
use Rattle.std.proofs.Math.Seq.{take-append_seam}
use Rattle.std.specs.List.{list_any}
use Rattle.std.specs.Option.{option_map}
use Rattle.std.specs.Prelude.{find, is_some, slice_get, Option, Some, None, ◌==◌}
use Rattle.ch_base.specs.declared.address.Address.{Address}
use Rattle.ch_reader.specs.declared.item.Expected.{Expected}
use Rattle.ch_reader.specs.declared.item.Expected.TheVariants as expected
use Rattle.ch_model.specs.declared.entry.Entry.{Entry}
use Rattle.ch_model.specs.declared.entry.Entry.TheVariants as entries
use Rattle.ch_model.specs.declared.line.Line.{Line}
use Rattle.ch_model.specs.declared.line.What.TheVariants as lines
use Rattle.ch_model.specs.declared.name.End.{End}
use Rattle.ch_model.specs.declared.name.End.TheVariants.{O, T}
use Rattle.ch_model.specs.declared.name.SockName.{SockName}
use Rattle.ch_model.specs.declared.step.SocketEvent.TheVariants as sockets
use Rattle.ch_model.specs.declared.step.Step.{Step}
use Rattle.ch_model.specs.AnswersEntries.{refuses}
use Rattle.ch_model.specs.Declarations.{Peer, has_host, is_hosted_by}
use Rattle.ch_model.specs.HostState.{Socket, HostState}
use Rattle.ch_model.specs.HostSteps.{is_socket}
use Rattle.ch_model.specs.Logs.{some_and, or_else}
use Rattle.ch_model.specs.Same.{same_socket, same_end}
use Rattle.ch_model.specs.Sockets.{written, fed}
use Rattle.ch_model.specs.Stages.{Stage, Pending, Open, Ended, is_open, is_ended}
use Rattle.ch_model.specs.WorldLines.{can_feed}
use Rattle.ch_model.specs.WorldSockets.{end_of, is_socket_named, find_end}
use Rattle.ch_model.specs.WorldState.{Cell, WorldEnd, WorldSocket, World}
use Rattle.ch_laws_log.specs.HostEnds.{stage_at}
use Rattle.ch_laws_log.proofs.Agreeing.{Good, keeps_good}
use Rattle.ch_laws_log.proofs.HostTold.{number_found}
use Rattle.ch_laws_log.proofs.Seen.{written_is, fed_is, refused_is, HasFront, UnreadIs}
use Rattle.ch_laws_log.proofs.Stored.{number_same, bytes_same, same_is, self_same, find_name}
use Rattle.ch_laws_log.proofs.Told.{fits_after}
use Rattle.ch_laws_log.proofs.Views.{SeenEnd, seen_in, end_seen}
use Rattle.ch_laws_ends.proofs.Changes.{cells_stay}
use Rattle.ch_laws_ends.proofs.Happen.{its_place, its_stage}
use Rattle.ch_laws_ends.proofs.Places.{some_is}
use Rattle.ch_laws_bytes.specs.Streams.{Reader, reader_in, readers_of, first_at, reads_at}
use Rattle.ch_laws_bytes.proofs.Event.{given_readers}
use Rattle.ch_laws_bytes.proofs.Feeds.{ReadElsewhere, reads_elsewhere, reads_there, same_end_gone}
use Rattle.ch_laws_bytes.proofs.Happen.{readers_there}
use Rattle.ch_laws_bytes.proofs.Sockets.{flip, not_found}
use Rattle.ch_laws_bytes.proofs.Stepped.{ReadsFirst}
use Rattle.ch_laws_accounts.proofs.Ups.{on_raises_none}
use Rattle.ch_laws_calls.specs.Calls.{IsIn, IsHeldBy, IsCalled, done_at, fed_in}
use Rattle.ch_laws_calls.specs.Sound.{SoundEnds}
use Rattle.ch_laws_calls.proofs.SoundChanged.{but_at}
use Rattle.ch_laws_calls.proofs.SoundFed.{is_working}
use Rattle.ch_laws_calls.proofs.SoundHears.{IsFed as Feeds, fed_so, found_after}
use Rattle.ch_laws_risen.specs.Firsts.{IsFed, HasAll, AllHave, AreRisen}
use Rattle.ch_laws_risen.proofs.Calls.{quietly_grown, quiet_risen, after_own}
use Rattle.ch_laws_risen.proofs.Firsts.{reader_is, has_more, have_changed, AllDials, done_have}
use Rattle.ch_laws_risen.proofs.Logs.{both, same_itself, goes_on, fed_elsewhere}

-- ---- what was written towards an end that is fed

-- a journal that declares a node of this name alone
abbrev the_peer : Peer
the_peer = record { address = record { host = []; port = 0; id = 0 }; unique = 0; is_node = true }

abbrev hosting : List ℕ → List Line
hosting name = record { number = 0; what = lines.Node name (record { host = []; port = 0; id = 0 }) 0 } ∷ []

hosted : (name : List ℕ) → has_host (hosting name) name ≡ true
hosted name = ap (λ b. some_and (λ (at : Address). list_any (λ (line : Line). is_hosted_by at line.what) (hosting name)) (option_map (λ (p : Peer). p.address) (or_else (cond b (Some the_peer) None) None))) (bytes_same name)

take_none : (n : ℕ) → ◌≡◌ {A = List ℕ} (take n []) []
take_none zero = refl
take_none (suc n) = refl

-- an end that hasn't ended and has bytes unread isn't cut
live_front : (seen : SeenEnd) (left : List ℕ) (count b : ℕ) (bytes : List ℕ) (over is_cut : Bool) → over ≡ false → UnreadIs (over || is_cut) seen left → take count left ≡ b ∷ bytes → HasFront seen left
live_front seen left count b bytes true is_cut e u t = absurd cc
live_front seen left count b bytes false false e u t = u
live_front seen left count b bytes false true e u t = let clash : ◌≡◌ {A = List ℕ} [] (b ∷ bytes) = sym (take_none count) ∙ ap (take count) (sym u) ∙ t in absurd cc

same_end_is : (a b : End) → same_end a b ≡ true → a ≡ b
same_end_is O O e = refl
same_end_is T T e = refl
same_end_is O T e = absurd cc
same_end_is T O e = absurd cc

not_ended : (stage : Stage) → is_open stage ≡ true → is_ended stage ≡ false
not_ended Pending e = refl
not_ended Open e = refl
not_ended Ended e = absurd cc

has_front : (journal : List Line) (log : List Entry) (world : World) (socket : WorldSocket) (which : End) (count b : ℕ) (bytes : List ℕ) (place : ℕ) → IsIn socket world → is_open (end_of which socket).stage ≡ true → (end_of which socket).cell ≡ Some place → take count (end_of which socket).unread ≡ b ∷ bytes
    → SoundEnds journal log world → ((other : List Line) → Good other log world) → HasFront (end_seen which (seen_in log socket.name)) (end_of which socket).unread
has_front journal log world socket O count b bytes place is stands at takes s good = live_front (seen_in log socket.name).o socket.o.unread count b bytes (is_ended socket.o.stage) socket.o.is_cut (not_ended socket.o.stage stands)
    ((fits_after journal log world socket.name socket (good journal) is).of_opener (refused_is log socket.name ∙ by_refused (list_any (refuses socket.name) log) refl)).left takes where
      by_refused : (r : Bool) → list_any (refuses socket.name) log ≡ r → r ≡ false
      by_refused false e = refl
      by_refused true e = let over : is_ended socket.o.stage ≡ true = s.sure.over.have_ended socket.name socket e is in let none = not_ended socket.o.stage stands in absurd cc
has_front journal log world socket T count b bytes place is stands at takes s good = live_front (seen_in log socket.name).t socket.t.unread count b bytes (is_ended socket.t.stage) socket.t.is_cut (not_ended socket.t.stage stands)
    ((fits_after (hosting socket.name.to) log world socket.name socket (good (hosting socket.name.to)) is).of_target (ap is_some at ∙ sym (hosted socket.name.to))).left takes

-- behind what was fed comes what is unread
wrote : (log : List Entry) (s : SockName) (e : End) (since left : List ℕ) → HasFront (end_seen e (seen_in log s)) left → IsFed log s e since → written log s e ≡ since ++ left
wrote log s e since left h f = all ∙ ap (λ (l : List ℕ). l ++ left) (sym same) where
  all : written log s e ≡ h.front ++ left
  all = sym (written_is log s e) ∙ h.is

  many : fed log s e ≡ length h.front
  many = sym (fed_is log s e) ∙ sym h.count

  same : since ≡ h.front
  same = sym f.are ∙ ap (λ (n : ℕ). take n (written log s e)) many ∙ ap (take (length h.front)) all ∙ take-append_seam h.front left

fed_has : (log : List Entry) (s : SockName) (e : End) (next : Expected) (since bytes left : List ℕ) → (IsFed log s e since → written log s e ≡ since ++ (bytes ++ left)) → HasAll log s e next since → HasAll (log ++ entries.Fed s e (length bytes) ∷ []) s e next (since ++ bytes)
fed_has log s O expected.Frame since bytes left w h = tt
fed_has log s T expected.Frame since bytes left w h = tt
fed_has log s O expected.Answer since bytes left w h = goes_on log s O since bytes left (w h) h
fed_has log s T expected.Request since bytes left w h = goes_on log s T since bytes left (w h) h
fed_has log s O expected.Request since bytes left w h = absurd h
fed_has log s T expected.Answer since bytes left w h = absurd h

-- ---- all of it

pub fed_risen : (journal : List Line) (log : List Entry) (world : World) (socket : WorldSocket) (which : End) (count b : ℕ) (bytes : List ℕ) (place n : ℕ) (cell : Cell × ℕ) (steps : List Step) (host : HostState) → IsIn socket world → can_feed which socket ≡ true → take count (end_of which socket).unread ≡ b ∷ bytes → IsHeldBy place n (end_of which socket)
    → IsCalled world place cell (sockets.Fed n (b ∷ bytes)) steps host → SoundEnds journal log world → AreRisen log world → let done = done_at place cell steps host (fed_in which count socket world) in AreRisen (log ++ entries.Fed socket.name which (length (b ∷ bytes)) ∷ done.0) done.1
fed_risen journal log world socket which count b bytes place n cell steps host is may takes held c s r = after_own log x (done_at place cell steps host now).0 (done_at place cell steps host now).1
    (quiet_risen log_now now place cell steps host good (on_raises_none cell.0.host host (sockets.Fed n (b ∷ bytes)) steps c.does) (quietly_grown log (x ∷ []) refl (r.read, r.accepted))
    (done_have journal log_now now place cell steps host (ap (λ (l : List (Cell × ℕ)). slice_get l place) same_cells ∙ c.at) (good journal) (subst (AllDials (λ m. ReadsFirst (reader_in (find (is_socket m) host.sockets)))) (sym h.now.steps_are) tt)
    (subst (λ (l : List (Cell × ℕ)). AllHave log_now (given_readers place host l) now.sockets) (sym same_cells) (have_changed log_now two socket.name which taken world (λ end. (refl, refl)) all))))
  where
    x : Entry
    x = entries.Fed socket.name which (length (b ∷ bytes))

    taken : WorldEnd → WorldEnd
    taken end = record end { unread = drop count end.unread }

    now : World
    now = fed_in which count socket world

    log_now : List Entry
    log_now = log ++ x ∷ []

    stands : is_open (end_of which socket).stage ≡ true
    stands = (is_working which socket may).0

    good : (other : List Line) → Good other log_now now
    good other = subst (λ (l : List ℕ). Good other (log ++ entries.Fed socket.name which (length l) ∷ []) now) takes ((keeps_good other).fed log world socket which count is stands (is_working which socket may).1 tt (r.good other))

    same_cells : now.cells ≡ world.cells
    same_cells = cells_stay socket.name which taken world

    stage : stage_at cell.0.host n ≡ Some (end_of which socket).stage
    stage = s.sure.ends.agrees.ends place cell c.at n ∙ its_stage journal log world socket which place n s.sure is held.cell held.number

    h : Feeds cell.0.host n (b ∷ bytes) steps host
    h = fed_so cell.0.host n (b ∷ bytes) steps host (end_of which socket).stage stage stands c.does

    new : Socket
    new = record (h.socket) { since = h.socket.since ++ (b ∷ bytes) }

    named_so : h.socket.number ≡ n
    named_so = number_found n cell.0.host.sockets h.socket h.found

    found : find_end place n world.sockets ≡ Some (socket.name, which)
    found = s.sure.ends.each socket.name socket which place n is (its_place (end_of which socket) place n held.cell held.number place n ∙ ap (λ a. a && (n == n)) (number_same place) ∙ number_same n)

    -- ---- what is read

    one : ℕ → ℕ → Option Reader
    one = readers_of world.cells

    two : ℕ → ℕ → Option Reader
    two = given_readers place host world.cells

    here : {A : Type 0} (y z : A) → cond (place == place) y z ≡ y
    here y z = ap (λ a. cond a y z) (number_same place)

    found_now : (m : ℕ) → find (is_socket m) host.sockets ≡ cond (h.socket.number == m) (Some new) (find (is_socket m) cell.0.host.sockets)
    found_now m = found_after cell.0.host new [] steps host h.now m

    reads : ReadElsewhere place n one two
    reads q m e = but_at place n q m (reader_in (find (is_socket m) host.sockets)) (reader_in (find (is_socket m) cell.0.host.sockets)) (one q m)
        (λ k. ap reader_in (found_now m ∙ ap (λ a. cond a (Some new) (find (is_socket m) cell.0.host.sockets)) (ap (λ (i : ℕ). i == m) named_so ∙ flip n m ∙ k))) (readers_there world.cells place cell c.at q m) e

    live : (since : List ℕ) → cond {A = Option Reader} (is_ended h.socket.stage) None (Some (h.socket.expected, since)) ≡ Some (h.socket.expected, since)
    live since = ap (λ a. cond {A = Option Reader} a None (Some (h.socket.expected, since))) (not_ended h.socket.stage h.stands)

    reads_one : reads_at one (first_at which) (end_of which socket).cell (end_of which socket).number ≡ Some (h.socket.expected, h.socket.since)
    reads_one = reads_there one (first_at which) (end_of which socket) place n held.cell held.number ∙ sym (readers_there world.cells place cell c.at place n) ∙ here (reader_in (find (is_socket n) cell.0.host.sockets)) (one place n) ∙ ap reader_in h.found ∙ live h.socket.since

    reads_two : reads_at two (first_at which) (end_of which socket).cell (end_of which socket).number ≡ Some (h.socket.expected, h.socket.since ++ (b ∷ bytes))
    reads_two = reads_there two (first_at which) (end_of which socket) place n held.cell held.number ∙ here (reader_in (find (is_socket n) host.sockets)) (one place n)
        ∙ ap reader_in (found_now n ∙ ap (λ a. cond a (Some new) (find (is_socket n) cell.0.host.sockets)) (ap (λ (i : ℕ). i == n) named_so ∙ number_same n)) ∙ live (h.socket.since ++ (b ∷ bytes))

    -- ---- what was fed

    halves : (end_of which socket).unread ≡ (b ∷ bytes) ++ drop count (end_of which socket).unread
    halves = sym (ap (λ (l : List ℕ). l ++ drop count (end_of which socket).unread) (sym takes) ∙ take-append-drop count (end_of which socket).unread)

    front : HasFront (end_seen which (seen_in log socket.name)) (end_of which socket).unread
    front = has_front journal log world socket which count b bytes place is stands held.cell takes s r.good

    mine : HasAll log_now socket.name which h.socket.expected (h.socket.since ++ (b ∷ bytes))
    mine = fed_has log socket.name which h.socket.expected h.socket.since (b ∷ bytes) (drop count (end_of which socket).unread)
        (λ f. wrote log socket.name which h.socket.since (end_of which socket).unread front f ∙ ap (λ (l : List ℕ). h.socket.since ++ l) halves) (r.have socket.name socket is which h.socket.expected h.socket.since reads_one)

    all : AllHave log_now two world.sockets
    all t v f e next since y = by_same (same_socket socket.name v.name && same_end which e) refl where
      named : v.name ≡ t
      named = find_name t world.sockets v f

      elsewhere : (same_socket socket.name v.name && same_end which e) ≡ false → find_end place n world.sockets ≡ Some (t, e) → ⊥
      elsewhere off m =
          let same = some_is (t, e) (socket.name, which) (sym m ∙ found) in
          let yes : (same_socket socket.name v.name && same_end which e) ≡ true = both (same_socket socket.name v.name) (same_end which e)
          (subst (λ (k : SockName). same_socket socket.name k ≡ true) (sym (named ∙ ap (λ (a : SockName × End). a.0) same)) (self_same socket.name)) (subst (λ (k : End). same_end which k ≡ true) (sym (ap (λ (a : SockName × End). a.1) same)) (same_itself which)) in absurd cc

      here_is : socket.name ≡ v.name → which ≡ e → HasAll log_now v.name e next since
      here_is name end =
          let itself : socket ≡ v = same_end_gone socket v socket.name world.sockets is (subst (λ (k : SockName). find (is_socket_named k) world.sockets ≡ Some v) (sym named ∙ sym name) f) in
          let there : reads_at two (first_at which) (end_of which socket).cell (end_of which socket).number ≡ Some (next, since) = subst (λ (w : WorldSocket). reads_at two (first_at which) (end_of which w).cell (end_of which w).number ≡ Some (next, since)) (sym itself)
          (subst (λ (k : End). reads_at two (first_at k) (end_of k v).cell (end_of k v).number ≡ Some (next, since)) (sym end) y) in
          let same = reader_is h.socket.expected next (h.socket.since ++ (b ∷ bytes)) since (sym reads_two ∙ there) in
          subst (λ (k : End). HasAll log_now v.name k next since) end (subst (λ (k : SockName). HasAll log_now k which next since) name
          (subst (λ (k : Expected). HasAll log_now socket.name which k since) same.0 (subst (HasAll log_now socket.name which h.socket.expected) same.1 mine)))

      by_same : (a : Bool) → (same_socket socket.name v.name && same_end which e) ≡ a → HasAll log_now v.name e next since
      by_same true on = let parts = and_parts (same_socket socket.name v.name) (same_end which e) on in here_is (same_is socket.name v.name parts.0) (same_end_is which e parts.1)
      by_same false off = has_more log (x ∷ []) v.name e next since (fed_elsewhere socket.name v.name which e (length (b ∷ bytes)) off)
          (r.have t v f e next since (sym (reads_elsewhere place n one two (first_at e) (end_of e v) reads (not_found place n world.sockets t v e s.sure.ends.each f (elsewhere off))) ∙ y))
