-- What stands whole at the front of what hosts hold ends within what was fed last: whatever happens in a sound world keeps that.
use Rattle.std.proofs.Common.{◌≡◌, ℕ, ◌+◌, ◌*◌, ◌<◌, ◌≤◌, Bool, true, false, cond, ◌&&◌, ◌||◌, List, [], ◌∷◌, ◌++◌, length, drop, ◌⊎◌, inl, inr, Ok, refl, sym, ap, ◌∙◌, subst, append_assoc, arith}
use Rattle.std.proofs.lemmas.Bool.{and_parts, cases_lt}
use Rattle.std.proofs.lemmas.List.{length-append}
use Rattle.std.specs.List.{list_any}
use Rattle.std.specs.Prelude.{find, is_some, slice_get, slice_set, Result, Option, Some, None, ◌==◌}
use Rattle.ch_reader.specs.Reading.{reading}
use Rattle.ch_reader.specs.declared.item.Expected.{Expected}
use Rattle.ch_reader.specs.declared.item.Expected.TheVariants as expected
use Rattle.ch_model.specs.declared.entry.Entry.{Entry}
use Rattle.ch_model.specs.declared.entry.Entry.TheVariants as entries
use Rattle.ch_model.specs.declared.line.Line.{Line}
use Rattle.ch_model.specs.declared.name.End.{End}
use Rattle.ch_model.specs.declared.name.End.TheVariants.{O, T}
use Rattle.ch_model.specs.declared.name.SockName.{SockName}
use Rattle.ch_model.specs.declared.note.Note.{Note}
use Rattle.ch_model.specs.declared.note.Note.TheVariants as notes
use Rattle.ch_model.specs.declared.step.Place.{Place}
use Rattle.ch_model.specs.declared.step.SocketEvent.TheVariants as sockets
use Rattle.ch_model.specs.declared.step.Step.{Step}
use Rattle.ch_model.specs.declared.step.Step.TheVariants.{Write}
use Rattle.ch_model.specs.AccountsMessages.{feeding}
use Rattle.ch_model.specs.CellSteps.{told_steps}
use Rattle.ch_model.specs.Host.{accepted, host_on, host_next}
use Rattle.ch_model.specs.HostCalls.{host_connect, host_send, host_close}
use Rattle.ch_model.specs.HostState.{Socket, HostState}
use Rattle.ch_model.specs.HostSteps.{is_socket}
use Rattle.ch_model.specs.Logs.{last_of}
use Rattle.ch_model.specs.Naming.{Names}
use Rattle.ch_model.specs.NodeState.{NodeState}
use Rattle.ch_model.specs.Same.{same_socket, same_end}
use Rattle.ch_model.specs.Stages.{Stage, Pending, Open, Ended, is_pending, is_open, is_ended}
use Rattle.ch_model.specs.WorldHappenings.{with_cell}
use Rattle.ch_model.specs.WorldLines.{can_feed}
use Rattle.ch_model.specs.WorldSockets.{end_of, opened, is_socket_named, is_end_of, find_end}
use Rattle.ch_model.specs.WorldState.{Cell, WorldEnd, WorldSocket, World}
use Rattle.ch_model.specs.WorldSteps.{note_entry}
use Rattle.ch_laws_log.specs.HostEnds.{stage_at, IsSound, Tells, AllTold}
use Rattle.ch_laws_log.proofs.HostEventsTold.{event_told}
use Rattle.ch_laws_log.proofs.HostItemsTold as told
use Rattle.ch_laws_log.proofs.HostTold.{number_found}
use Rattle.ch_laws_log.proofs.Stored.{number_is, number_same, same_is, self_same, find_name}
use Rattle.ch_laws_ends.proofs.Came.{come_as, come_socket, come_sockets}
use Rattle.ch_laws_ends.proofs.Changes.{cells_stay, told_cells}
use Rattle.ch_laws_ends.proofs.Found.{none_found}
use Rattle.ch_laws_ends.proofs.Happen.{its_place, its_stage}
use Rattle.ch_laws_ends.proofs.Known.{TargetIs, pending_is}
use Rattle.ch_laws_ends.proofs.Places.{got_same, some_is}
use Rattle.ch_laws_reads.specs.Reads.{Reads, AllRead}
use Rattle.ch_laws_reads.proofs.HostEventsRead.{event_read}
use Rattle.ch_laws_reads.proofs.HostItemsRead as read
use Rattle.ch_laws_bytes.specs.Streams.{Reader, reader_in, readers_of, first_at, reads_at}
use Rattle.ch_laws_bytes.proofs.Event.{given_readers, readers_set}
use Rattle.ch_laws_bytes.proofs.Feeds.{ReadElsewhere, reads_elsewhere, reads_there, same_end_gone}
use Rattle.ch_laws_bytes.proofs.Happen.{readers_there}
use Rattle.ch_laws_bytes.proofs.Sockets.{flip, not_found}
use Rattle.ch_laws_bytes.proofs.Stepped.{ReadsFirst}
use Rattle.ch_laws_calls.specs.Calls as calls
use Rattle.ch_laws_calls.specs.Calls.{IsIn, IsHeldBy, IsCalled, KeepsCalls, with_host, done_at, joined_in, come_in, fed_in}
use Rattle.ch_laws_calls.specs.Sound.{SoundEnds, Sound}
use Rattle.ch_laws_calls.proofs.SoundChanged.{but_at}
use Rattle.ch_laws_calls.proofs.SoundFed.{is_working}
use Rattle.ch_laws_calls.proofs.SoundHears.{Becomes, IsFed, IsJoined, joined_so, came_so, fed_so, found_after}
use Rattle.ch_laws_risen.specs.Firsts.{AreRisen}
use Rattle.ch_laws_risen.proofs.Firsts.{AllDials}
use Rattle.ch_laws_risen.proofs.Kept.{risen_kept}
use Rattle.ch_laws_risen.proofs.Logs.{is_feeding}
use Rattle.ch_laws_risen.proofs.Told.{told_unfed}
use Rattle.ch_laws_messages.specs.ArrivedFed.{EndsLast, HoldsNone, LastFed}
use Rattle.ch_laws_messages.proofs.ArrivedEmpty.{holds_on, holds_with, holds_set}
use Rattle.ch_laws_messages.proofs.ArrivedFronts.{stands_in}
use Rattle.ch_laws_messages.proofs.ArrivedHolds.{BothHold, AllHold, hold_as, hold_stored, hold_changed, done_hold, call_hold}
use Rattle.ch_laws_messages.proofs.ArrivedLast.{unfed_last, fed_last, last_as, last_stays, NoneWhole, none_at_all}
use Rattle.ch_laws_messages.proofs.ArrivedFinds.{not_ended}
use Rattle.ch_laws_messages.proofs.ArrivedWithin.{same_itself}

-- ---- all ends of a world

-- as the claim says of them
abbrev AllLast : List Entry → (ℕ → ℕ → Option Reader) → List WorldSocket → Type 0
AllLast log readers sockets = AllHold (EndsLast log) readers sockets

as_all : (log : List Entry) (world : World) → LastFed log world → AllLast log (readers_of world.cells) world.sockets
as_all log world j s socket found e reader r = j.ends s socket e reader found r

as_claim : (log : List Entry) (world : World) → AreRisen log world → AllLast log (readers_of world.cells) world.sockets → HoldsNone world.cells → LastFed log world
as_claim log world risen all empty = record { risen = risen; ends = λ s socket e reader found r. all s socket found e reader r; empty = empty }

-- the last feeding is the same
all_as : (one two : List Entry) (readers : ℕ → ℕ → Option Reader) (sockets : List WorldSocket) → last_of feeding two ≡ last_of feeding one → AllLast one readers sockets → AllLast two readers sockets
all_as one two readers sockets same all s socket found e reader r = last_as one two socket.name e reader same (all s socket found e reader r)

-- nothing stands whole
all_none : (log : List Entry) (readers : ℕ → ℕ → Option Reader) (sockets : List WorldSocket) → AllHold NoneWhole readers sockets → AllLast log readers sockets
all_none log readers sockets all s socket found e reader r item w = none (all s socket found e reader r item w) where
  none : {A : Type 0} → ⊥ → A
  none h = absurd h

one_unfed : (x : Entry) → is_feeding x ≡ false → list_any is_feeding (x ∷ []) ≡ false
one_unfed x h = ap (λ b. b || false) h

-- ---- what calls no host

pub note_unfed : (known : Names) (last : Option Place) (note : Note) → is_feeding (note_entry known last note) ≡ false
note_unfed known last (notes.Made process origin) = refl
note_unfed known last note = refl

seated_last : (log : List Entry) (world : World) (place : ℕ) (cell : Cell × ℕ) (nodes : List (ℕ × NodeState)) → slice_get world.cells place ≡ Some cell → AreRisen log (with_cell place (record (cell.0) { nodes = nodes }, cell.1) world) → LastFed log world → LastFed log (with_cell place (record (cell.0) { nodes = nodes }, cell.1) world)
seated_last log world place cell nodes at risen j = as_claim log (with_cell place now world) risen
    (hold_as (EndsLast log) (readers_of world.cells) (readers_of (slice_set world.cells place now)) world.sockets (λ p n. readers_set world.cells place cell now at p n ∙ readers_there world.cells place cell at p n) (as_all log world j))
    (holds_set world.cells place cell now at (λ n known found p. j.empty place cell n known at found p) j.empty)
  where
    now : Cell × ℕ
    now = (record (cell.0) { nodes = nodes }, cell.1)

-- ---- a call

-- a host that was called
call_last : {E : Type 0} (journal : List Line) (before log : List Entry) (world : World) (place : ℕ) (cell : Cell × ℕ) (steps : List Step) (host : HostState) (done : Result (List Step × HostState) E) → done ≡ Ok (steps, host) → SoundEnds journal before world → slice_get world.cells place ≡ Some cell
    → AllTold cell.0.host done → AllRead cell.0.host done → AllLast log (readers_of world.cells) world.sockets → HoldsNone world.cells → AreRisen (log ++ (done_at place cell steps host world).0) (done_at place cell steps host world).1
    → LastFed (log ++ (done_at place cell steps host world).0) (done_at place cell steps host world).1
call_last {E = E} journal before log world place cell steps host done is s at tells reads all empty risen = as_claim (log ++ after.0) after.1 risen
    (all_as log (log ++ after.0) (readers_of after.1.cells) after.1.sockets (unfed_last log after.0 (told_unfed place (with_host cell host) steps kept))
    (call_hold (EndsLast log) (last_stays log) world place cell steps host at s.sure.ends.each (s.sure.ends.agrees.ends place cell at) told.new read all))
    (subst HoldsNone (sym (told_cells place (with_host cell host) (told_steps steps) kept)) (holds_set world.cells place cell (with_host cell host, cell.1) at (holds_on cell.0.host host steps told read (λ n known found p. empty place cell n known at found p)) empty))
  where
    kept : World
    kept = with_cell place (with_host cell host, cell.1) world

    after : List Entry × World
    after = done_at place cell steps host world

    sound : IsSound cell.0.host
    sound = s.sure.ends.agrees.sound place cell at

    told : Tells cell.0.host steps host
    told = subst (λ (d : Result (List Step × HostState) E). AllTold cell.0.host d) is tells sound

    read : Reads cell.0.host steps host
    read = subst (λ (d : Result (List Step × HostState) E). AllRead cell.0.host d) is reads sound

-- the same after an entry of the world's own
after_own : (log : List Entry) (x : Entry) (told : List Entry) (world : World) → LastFed ((log ++ x ∷ []) ++ told) world → LastFed (log ++ x ∷ told) world
after_own log x told world j = subst (λ (l : List Entry). LastFed l world) (append_assoc log (x ∷ []) told) j

own_first : (log : List Entry) (x : Entry) (told : List Entry) (world : World) → AreRisen (log ++ x ∷ told) world → AreRisen ((log ++ x ∷ []) ++ told) world
own_first log x told world r = subst (λ (l : List Entry). AreRisen l world) (sym (append_assoc log (x ∷ []) told)) r

-- a host of which one record is another, or new
becomes_last : (log : List Entry) (world : World) (place : ℕ) (cell : Cell × ℕ) (steps : List Step) (host : HostState) (new : Socket) (told : List Step) → Becomes cell.0.host new told steps host → is_pending new.stage ≡ false → slice_get world.cells place ≡ Some cell → AllDials (λ n. ReadsFirst (reader_in (find (is_socket n) host.sockets))) told
    → AllLast log (given_readers place host world.cells) world.sockets → HoldsNone world.cells → AreRisen (log ++ (done_at place cell steps host world).0) (done_at place cell steps host world).1 → LastFed (log ++ (done_at place cell steps host world).0) (done_at place cell steps host world).1
becomes_last log world place cell steps host new told b off at dials all empty risen = as_claim (log ++ after.0) after.1 risen
    (all_as log (log ++ after.0) (readers_of after.1.cells) after.1.sockets (unfed_last log after.0 (told_unfed place (with_host cell host) steps kept))
    (done_hold (EndsLast log) (last_stays log) world place cell steps host at (subst (AllDials (λ n. ReadsFirst (reader_in (find (is_socket n) host.sockets)))) (sym b.steps_are) dials) all))
    (subst HoldsNone (sym (told_cells place (with_host cell host) (told_steps steps) kept)) (holds_set world.cells place cell (with_host cell host, cell.1) at (holds_with cell.0.host new told steps host b off (λ n known found p. empty place cell n known at found p)) empty))
  where
    kept : World
    kept = with_cell place (with_host cell host, cell.1) world

    after : List Entry × World
    after = done_at place cell steps host world

-- ---- an end is joined

joined_last : (journal : List Line) (log : List Entry) (world : World) (socket : WorldSocket) (place n : ℕ) (cell : Cell × ℕ) (steps : List Step) (host : HostState) → IsIn socket world → is_pending socket.o.stage ≡ true → IsHeldBy place n socket.o → IsCalled world place cell (sockets.Joined n) steps host → SoundEnds journal log world → LastFed log world
    → let done = done_at place cell steps host (joined_in socket world) in AreRisen (log ++ entries.Joined socket.name ∷ done.0) done.1 → LastFed (log ++ entries.Joined socket.name ∷ done.0) done.1
joined_last journal log world socket place n cell steps host is p held c s r risen = after_own log (entries.Joined socket.name) (done_at place cell steps host now).0 (done_at place cell steps host now).1
    (becomes_last log_now now place cell steps host new (Write j.socket.number j.bytes None ∷ []) j.now refl (ap (λ (l : List (Cell × ℕ)). slice_get l place) same_cells ∙ c.at) (tt, tt) all
    (subst HoldsNone (sym same_cells) r.empty) (own_first log (entries.Joined socket.name) (done_at place cell steps host now).0 (done_at place cell steps host now).1 risen)) where
      now : World
      now = joined_in socket world

      log_now : List Entry
      log_now = log ++ entries.Joined socket.name ∷ []

      same_cells : now.cells ≡ world.cells
      same_cells = cells_stay socket.name O opened world

      stage : stage_at cell.0.host n ≡ Some Pending
      stage = s.sure.ends.agrees.ends place cell c.at n ∙ its_stage journal log world socket O place n s.sure is held.cell held.number ∙ ap Some (pending_is socket.o.stage p)

      j : IsJoined cell.0.host n steps host
      j = joined_so cell.0.host n steps host (s.sure.ends.agrees.sound place cell c.at) stage c.does

      new : Socket
      new = record (j.socket) { stage = Open }

      -- the host reads on it what it did
      reader_now : (m : ℕ) → reader_in (find (is_socket m) host.sockets) ≡ reader_in (find (is_socket m) cell.0.host.sockets)
      reader_now m = ap reader_in (found_after cell.0.host new (Write j.socket.number j.bytes None ∷ []) steps host j.now m) ∙ by_number (j.socket.number == m) refl where
        by_number : (b : Bool) → (j.socket.number == m) ≡ b → reader_in (cond b (Some new) (find (is_socket m) cell.0.host.sockets)) ≡ reader_in (find (is_socket m) cell.0.host.sockets)
        by_number false e = refl
        by_number true e =
            let there : find (is_socket m) cell.0.host.sockets ≡ Some j.socket = subst (λ (k : ℕ). find (is_socket k) cell.0.host.sockets ≡ Some j.socket) (sym (number_found n cell.0.host.sockets j.socket j.found) ∙ number_is j.socket.number m e) j.found in
            sym (ap reader_in there ∙ ap (λ (x : Stage). cond (is_ended x) None (Some (j.socket.expected, j.socket.since))) (pending_is j.socket.stage j.stands))

      readers_now : (q m : ℕ) → given_readers place host now.cells q m ≡ readers_of world.cells q m
      readers_now q m = ap (λ (l : List (Cell × ℕ)). cond (place == q) (reader_in (find (is_socket m) host.sockets)) (readers_of l q m)) same_cells
          ∙ ap (λ (o : Option Reader). cond (place == q) o (readers_of world.cells q m)) (reader_now m) ∙ readers_there world.cells place cell c.at q m

      all : AllLast log_now (given_readers place host now.cells) now.sockets
      all = hold_as (EndsLast log_now) (readers_of world.cells) (given_readers place host now.cells) now.sockets readers_now
          (hold_changed (EndsLast log_now) (readers_of world.cells) socket.name O opened world (λ end. (refl, refl)) (all_as log log_now (readers_of world.cells) world.sockets (unfed_last log (entries.Joined socket.name ∷ []) refl) (as_all log world r)))

-- ---- an end comes

came_last : (journal : List Line) (log : List Entry) (world : World) (socket : WorldSocket) (place : ℕ) (cell : Cell × ℕ) (steps : List Step) (host : HostState) → IsIn socket world → is_pending socket.t.stage ≡ true → socket.t.cell ≡ Some place → IsCalled world place cell (sockets.Came (2 * cell.1 + 1) socket.from_host) steps host → SoundEnds journal log world → LastFed log world
    → let done = done_at place (cell.0, cell.1 + 1) steps host (come_in place cell socket world) in AreRisen (log ++ entries.Came socket.name ∷ done.0) done.1 → LastFed (log ++ entries.Came socket.name ∷ done.0) done.1
came_last journal log world socket place cell steps host is p led c s r risen = after_own log (entries.Came socket.name) (done_at place (cell.0, cell.1 + 1) steps host now).0 (done_at place (cell.0, cell.1 + 1) steps host now).1
    (becomes_last log_now now place (cell.0, cell.1 + 1) steps host new [] b refl (ap (λ (l : List (Cell × ℕ)). slice_get l place) same_cells ∙ counted_at) tt
    (subst (λ (l : List (Cell × ℕ)). AllLast log_now (given_readers place host l) now.sockets) (sym same_cells) (subst (AllLast log_now two) (sym (come_sockets number socket counted is)) (hold_stored (EndsLast log_now) two (come_socket number socket) world.sockets mine others)))
    (subst HoldsNone (sym same_cells) (holds_set world.cells place cell (cell.0, cell.1 + 1) c.at (λ n known found q. r.empty place cell n known c.at found q) r.empty))
    (own_first log (entries.Came socket.name) (done_at place (cell.0, cell.1 + 1) steps host now).0 (done_at place (cell.0, cell.1 + 1) steps host now).1 risen))
  where
    number : ℕ
    number = 2 * cell.1 + 1

    counted : World
    counted = with_cell place (cell.0, cell.1 + 1) world

    now : World
    now = come_in place cell socket world

    log_now : List Entry
    log_now = log ++ entries.Came socket.name ∷ []

    same_cells : now.cells ≡ counted.cells
    same_cells = cells_stay socket.name T (come_as number) counted

    counted_at : slice_get counted.cells place ≡ Some (cell.0, cell.1 + 1)
    counted_at = got_same world.cells place cell (cell.0, cell.1 + 1) c.at

    known : TargetIs Pending socket.t.cell socket.t.number
    known = subst (λ (x : Stage). TargetIs x socket.t.cell socket.t.number) (pending_is socket.t.stage p) (s.sure.ends.sorted.1 socket.name socket is).t

    same : (k : ℕ) → k ≤ k
    same k = omega arith

    free : find_end place number world.sockets ≡ None
    free = none_found place number world.sockets (s.sure.ends.agrees.accepted place cell c.at cell.1 (same cell.1))

    new : Socket
    new = accepted number socket.from_host

    b : Becomes cell.0.host new [] steps host
    b = came_so cell.0.host number socket.from_host steps host c.does

    one : ℕ → ℕ → Option Reader
    one = readers_of counted.cells

    two : ℕ → ℕ → Option Reader
    two = given_readers place host counted.cells

    reads : ReadElsewhere place number one two
    reads q n h = but_at place number q n (reader_in (find (is_socket n) host.sockets)) (reader_in (find (is_socket n) cell.0.host.sockets)) (one q n)
        (λ e. ap reader_in (found_after cell.0.host new [] steps host b n ∙ ap (λ a. cond a (Some new) (find (is_socket n) cell.0.host.sockets)) (flip number n ∙ e))) (readers_there counted.cells place (cell.0, cell.1 + 1) counted_at q n) h

    request : two place number ≡ Some (expected.Request, [])
    request = ap (λ a. cond a (reader_in (find (is_socket number) host.sockets)) (one place number)) (number_same place) ∙ ap reader_in (found_after cell.0.host new [] steps host b number ∙ ap (λ a. cond a (Some new) (find (is_socket number) cell.0.host.sockets)) (number_same number))

    reads_t : reads_at two expected.Request socket.t.cell (Some number) ≡ reads_at one expected.Request socket.t.cell socket.t.number
    reads_t = ap (λ (o : Option ℕ). reads_at two expected.Request o (Some number)) led ∙ request ∙ sym (ap (λ (o : Option ℕ). reads_at one expected.Request o socket.t.number) led ∙ ap (λ (o : Option ℕ). reads_at one expected.Request (Some place) o) known.1)

    before : AllLast log_now one world.sockets
    before = hold_as (EndsLast log_now) (readers_of world.cells) one world.sockets (λ q n. readers_set world.cells place cell (cell.0, cell.1 + 1) c.at q n ∙ readers_there world.cells place cell c.at q n)
        (all_as log log_now (readers_of world.cells) world.sockets (unfed_last log (entries.Came socket.name ∷ []) refl) (as_all log world r))

    off : (t : SockName) (v : WorldSocket) (e : End) → find (is_socket_named t) world.sockets ≡ Some v → is_end_of place number (end_of e v) ≡ false
    off t v e f = not_found place number world.sockets t v e s.sure.ends.each f (λ m. never m) where
      never : find_end place number world.sockets ≡ Some (t, e) → ⊥
      never m = let clash : ◌≡◌ {A = Option (SockName × End)} None (Some (t, e)) = sym free ∙ m in absurd cc

    others : AllLast log_now two world.sockets
    others t v f e reader x = before t v f e reader (sym (reads_elsewhere place number one two (first_at e) (end_of e v) reads (off t v e f)) ∙ x)

    mine : BothHold (EndsLast log_now) two (come_socket number socket)
    mine O reader x = others socket.name socket is O reader x
    mine T reader x = before socket.name socket is T reader (sym reads_t ∙ x)

-- ---- bytes are fed

pub both : (a b : Bool) → a ≡ true → b ≡ true → (a && b) ≡ true
both true b h g = g
both false b h g = absurd cc

same_end_is : (a b : End) → same_end a b ≡ true → a ≡ b
same_end_is O O e = refl
same_end_is T T e = refl
same_end_is O T e = absurd cc
same_end_is T O e = absurd cc

not_pending : (stage : Stage) → is_open stage ≡ true → is_pending stage ≡ false
not_pending Pending e = absurd cc
not_pending Open e = refl
not_pending Ended e = refl

-- an item that stands whole once the bytes have come ends within them
ends_within : (log : List Entry) (s : SockName) (e : End) (k : Expected) (since bytes : List ℕ) → NoneWhole s e (k, since) → EndsLast (log ++ entries.Fed s e (length bytes) ∷ []) s e (k, since ++ bytes)
ends_within log s e k since bytes none item w = record {
  last = record { sock = s; end = e; count = length bytes };
  is = fed_last log s e (length bytes);
  sock = refl;
  end = refl;
  past = by_size (cases_lt (length since) (reading k (since ++ bytes)).1);
} where
  more : (held new n all : ℕ) → all ≡ held + new → held < n → all < n + new
  more held new n all e l = omega arith

  by_size : (length since < (reading k (since ++ bytes)).1) ⊎ ((reading k (since ++ bytes)).1 ≤ length since) → length (since ++ bytes) < (reading k (since ++ bytes)).1 + length bytes
  by_size (inl lt) = more (length since) (length bytes) (reading k (since ++ bytes)).1 (length (since ++ bytes)) (length-append since bytes) lt
  by_size (inr le) = absurd (none item (stands_in k since bytes item w le))

fed_ends : (journal : List Line) (log : List Entry) (world : World) (socket : WorldSocket) (which : End) (count b : ℕ) (bytes : List ℕ) (place n : ℕ) (cell : Cell × ℕ) (steps : List Step) (host : HostState) → IsIn socket world → can_feed which socket ≡ true → IsHeldBy place n (end_of which socket)
    → IsCalled world place cell (sockets.Fed n (b ∷ bytes)) steps host → calls.AllRead world → SoundEnds journal log world → LastFed log world → let done = done_at place cell steps host (fed_in which count socket world) in AreRisen (log ++ entries.Fed socket.name which (length (b ∷ bytes)) ∷ done.0) done.1
    → LastFed (log ++ entries.Fed socket.name which (length (b ∷ bytes)) ∷ done.0) done.1
fed_ends journal log world socket which count b bytes place n cell steps host is may held c all_read s r risen = after_own log x (done_at place cell steps host now).0 (done_at place cell steps host now).1
    (becomes_last log_now now place cell steps host new [] h.now (not_pending h.socket.stage h.stands) (ap (λ (l : List (Cell × ℕ)). slice_get l place) same_cells ∙ c.at) tt
    (subst (λ (l : List (Cell × ℕ)). AllLast log_now (given_readers place host l) now.sockets) (sym same_cells) (hold_changed (EndsLast log_now) two socket.name which taken world (λ end. (refl, refl)) all))
    (subst HoldsNone (sym same_cells) r.empty) (own_first log x (done_at place cell steps host now).0 (done_at place cell steps host now).1 risen))
  where
    x : Entry
    x = entries.Fed socket.name which (length (b ∷ bytes))

    taken : WorldEnd → WorldEnd
    taken end = record end { unread = drop count end.unread }

    now : World
    now = fed_in which count socket world

    log_now : List Entry
    log_now = log ++ x ∷ []

    stands : is_open (end_of which socket).stage ≡ true
    stands = (is_working which socket may).0

    same_cells : now.cells ≡ world.cells
    same_cells = cells_stay socket.name which taken world

    stage : stage_at cell.0.host n ≡ Some (end_of which socket).stage
    stage = s.sure.ends.agrees.ends place cell c.at n ∙ its_stage journal log world socket which place n s.sure is held.cell held.number

    h : IsFed cell.0.host n (b ∷ bytes) steps host
    h = fed_so cell.0.host n (b ∷ bytes) steps host (end_of which socket).stage stage stands c.does

    new : Socket
    new = record (h.socket) { since = h.socket.since ++ (b ∷ bytes) }

    named_so : h.socket.number ≡ n
    named_so = number_found n cell.0.host.sockets h.socket h.found

    found : find_end place n world.sockets ≡ Some (socket.name, which)
    found = s.sure.ends.each socket.name socket which place n is (its_place (end_of which socket) place n held.cell held.number place n ∙ ap (λ a. a && (n == n)) (number_same place) ∙ number_same n)

    none : AllHold NoneWhole (readers_of world.cells) world.sockets
    none = none_at_all world all_read r.empty

    -- ---- what is read

    one : ℕ → ℕ → Option Reader
    one = readers_of world.cells

    two : ℕ → ℕ → Option Reader
    two = given_readers place host world.cells

    here : {A : Type 0} (y z : A) → cond (place == place) y z ≡ y
    here y z = ap (λ a. cond a y z) (number_same place)

    found_now : (m : ℕ) → find (is_socket m) host.sockets ≡ cond (h.socket.number == m) (Some new) (find (is_socket m) cell.0.host.sockets)
    found_now m = found_after cell.0.host new [] steps host h.now m

    reads : ReadElsewhere place n one two
    reads q m e = but_at place n q m (reader_in (find (is_socket m) host.sockets)) (reader_in (find (is_socket m) cell.0.host.sockets)) (one q m)
        (λ k. ap reader_in (found_now m ∙ ap (λ a. cond a (Some new) (find (is_socket m) cell.0.host.sockets)) (ap (λ (i : ℕ). i == m) named_so ∙ flip n m ∙ k))) (readers_there world.cells place cell c.at q m) e

    live : (since : List ℕ) → cond {A = Option Reader} (is_ended h.socket.stage) None (Some (h.socket.expected, since)) ≡ Some (h.socket.expected, since)
    live since = ap (λ a. cond {A = Option Reader} a None (Some (h.socket.expected, since))) (not_ended h.socket.stage h.stands)

    reads_one : reads_at one (first_at which) (end_of which socket).cell (end_of which socket).number ≡ Some (h.socket.expected, h.socket.since)
    reads_one = reads_there one (first_at which) (end_of which socket) place n held.cell held.number ∙ sym (readers_there world.cells place cell c.at place n) ∙ here (reader_in (find (is_socket n) cell.0.host.sockets)) (one place n) ∙ ap reader_in h.found ∙ live h.socket.since

    reads_two : reads_at two (first_at which) (end_of which socket).cell (end_of which socket).number ≡ Some (h.socket.expected, h.socket.since ++ (b ∷ bytes))
    reads_two = reads_there two (first_at which) (end_of which socket) place n held.cell held.number ∙ here (reader_in (find (is_socket n) host.sockets)) (one place n)
        ∙ ap reader_in (found_now n ∙ ap (λ a. cond a (Some new) (find (is_socket n) cell.0.host.sockets)) (ap (λ (i : ℕ). i == n) named_so ∙ number_same n)) ∙ live (h.socket.since ++ (b ∷ bytes))

    mine : EndsLast log_now socket.name which (h.socket.expected, h.socket.since ++ (b ∷ bytes))
    mine = ends_within log socket.name which h.socket.expected h.socket.since (b ∷ bytes) (none socket.name socket is which (h.socket.expected, h.socket.since) reads_one)

    all : AllLast log_now two world.sockets
    all t v f e reader y = by_same (same_socket socket.name v.name && same_end which e) refl where
      named : v.name ≡ t
      named = find_name t world.sockets v f

      elsewhere : (same_socket socket.name v.name && same_end which e) ≡ false → find_end place n world.sockets ≡ Some (t, e) → ⊥
      elsewhere off m =
          let same = some_is (t, e) (socket.name, which) (sym m ∙ found) in
          let yes : (same_socket socket.name v.name && same_end which e) ≡ true = both (same_socket socket.name v.name) (same_end which e)
          (subst (λ (k : SockName). same_socket socket.name k ≡ true) (sym (named ∙ ap (λ (a : SockName × End). a.0) same)) (self_same socket.name)) (subst (λ (k : End). same_end which k ≡ true) (sym (ap (λ (a : SockName × End). a.1) same)) (same_itself which)) in absurd cc

      here_is : socket.name ≡ v.name → which ≡ e → EndsLast log_now v.name e reader
      here_is name end =
          let itself : socket ≡ v = same_end_gone socket v socket.name world.sockets is (subst (λ (k : SockName). find (is_socket_named k) world.sockets ≡ Some v) (sym named ∙ sym name) f) in
          let there : reads_at two (first_at which) (end_of which socket).cell (end_of which socket).number ≡ Some reader = subst (λ (w : WorldSocket). reads_at two (first_at which) (end_of which w).cell (end_of which w).number ≡ Some reader) (sym itself)
          (subst (λ (k : End). reads_at two (first_at k) (end_of k v).cell (end_of k v).number ≡ Some reader) (sym end) y) in
          subst (λ (k : End). EndsLast log_now v.name k reader) end (subst (λ (k : SockName). EndsLast log_now k which reader) name
          (subst (EndsLast log_now socket.name which) (some_is (h.socket.expected, h.socket.since ++ (b ∷ bytes)) reader (sym reads_two ∙ there)) mine))

      none_there : {A : Type 0} → ⊥ → A
      none_there k = absurd k

      by_same : (a : Bool) → (same_socket socket.name v.name && same_end which e) ≡ a → EndsLast log_now v.name e reader
      by_same true on = let parts = and_parts (same_socket socket.name v.name) (same_end which e) on in here_is (same_is socket.name v.name parts.0) (same_end_is which e parts.1)
      by_same false off = λ item w. none_there (none t v f e reader (sym (reads_elsewhere place n one two (first_at e) (end_of e v) reads (not_found place n world.sockets t v e s.sure.ends.each f (elsewhere off))) ∙ y) item w)

-- ---- all that happens

pub last_kept : (journal : List Line) → KeepsCalls journal (Sound journal) (Sound journal) LastFed
last_kept journal = record {
  marked = λ log world number answer p j q. as_claim (log ++ entries.Line number answer ∷ []) world (k.marked log world number answer p j.risen q) (all_as log _ (readers_of world.cells) world.sockets (unfed_last log (entries.Line number answer ∷ []) refl) (as_all log world j)) j.empty;
  noted = λ log world note p j q. as_claim (log ++ note_entry world.names world.last note ∷ []) _ (k.noted log world note p j.risen q) (all_as log _ (readers_of world.cells) world.sockets (unfed_last log (note_entry world.names world.last note ∷ []) (one_unfed (note_entry world.names world.last note) (note_unfed world.names world.last note))) (as_all log world j)) j.empty;
  seated = λ log world place cell nodes at seats p j q. seated_last log world place cell nodes at (k.seated log world place cell nodes at seats p j.risen q) j;
  connected = λ log world place cell end peer conn steps host at does p j q. call_last journal log log world place cell steps host (host_connect cell.0.host end peer conn) does p.ends at (told.connected cell.0.host end peer conn) (read.connected cell.0.host end peer conn) (as_all log world j) j.empty (k.connected log world place cell end peer conn steps host at does p j.risen q);
  sent = λ log world place cell end conn payload weight steps host at does p j q. call_last journal log log world place cell steps host (host_send cell.0.host end conn payload weight) does p.ends at (told.sent cell.0.host end conn payload weight) (read.sent cell.0.host end conn payload weight) (as_all log world j) j.empty (k.sent log world place cell end conn payload weight steps host at does p j.risen q);
  closed = λ log world place cell end conn steps host at does p j q. call_last journal log log world place cell steps host (host_close cell.0.host end conn) does p.ends at (told.closed_conn cell.0.host end conn) (read.closed_conn cell.0.host end conn) (as_all log world j) j.empty (k.closed log world place cell end conn steps host at does p j.risen q);
  joined = λ log world socket place n cell steps host is may held c all p j q. joined_last journal log world socket place n cell steps host is (and_parts (is_pending socket.o.stage) (is_some socket.t.cell) may).0 held c p.ends j (k.joined log world socket place n cell steps host is may held c all p j.risen q);
  came = λ log world socket place cell steps host is may led c all p j q. came_last journal log world socket place cell steps host is may led c p.ends j (k.came log world socket place cell steps host is may led c all p j.risen q);
  fed = λ log world socket which count b bytes place n cell steps host is may takes held c all p j q. fed_ends journal log world socket which count b bytes place n cell steps host is may held c all p.ends j (k.fed log world socket which count b bytes place n cell steps host is may takes held c all p j.risen q);
  ended = λ log world socket which place n cell steps host is may none held c all p j q. after_own log (entries.Fed socket.name which 0) (done_at place cell steps host world).0 (done_at place cell steps host world).1
      (call_last journal log (log ++ entries.Fed socket.name which 0 ∷ []) world place cell steps host (host_on cell.0.host (sockets.Ended n)) c.does p.ends c.at (event_told cell.0.host (sockets.Ended n) refl) (event_read cell.0.host (sockets.Ended n))
      (all_none (log ++ entries.Fed socket.name which 0 ∷ []) (readers_of world.cells) world.sockets (none_at_all world all j.empty)) j.empty (own_first log (entries.Fed socket.name which 0) (done_at place cell steps host world).0 (done_at place cell steps host world).1 (k.ended log world socket which place n cell steps host is may none held c all p j.risen q)));
  item = λ log world place cell steps host at does p j q. item_last log world place cell steps host at does p j (k.item log world place cell steps host at does p j.risen q);
} where
  k : KeepsCalls journal (Sound journal) (Sound journal) AreRisen
  k = risen_kept journal

  item_last : (log : List Entry) (world : World) (place : ℕ) (cell : Cell × ℕ) (steps : List Step) (host : HostState) → slice_get world.cells place ≡ Some cell → host_next cell.0.host ≡ Ok (Some steps, host) → Sound journal log world → LastFed log world
      → AreRisen (log ++ (done_at place cell steps host world).0) (done_at place cell steps host world).1 → LastFed (log ++ (done_at place cell steps host world).0) (done_at place cell steps host world).1
  item_last log world place cell steps host at does p j risen = call_last {E = ℕ} journal log log world place cell steps host (Ok (steps, host)) refl p.ends at
      (λ sound. told.next_told cell.0.host host steps sound does) (λ sound. read.next_told cell.0.host host steps sound does) (as_all log world j) j.empty risen
