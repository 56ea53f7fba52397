-- An end that comes reads first what it would have: nothing was fed to it.
use Rattle.std.proofs.Common.{◌≡◌, ℕ, ◌+◌, ◌*◌, ◌≤◌, true, false, cond, List, [], ◌∷◌, ◌++◌, refl, sym, ap, ◌∙◌, subst, arith}
use Rattle.std.specs.Prelude.{find, slice_get, Option, Some, None}
use Rattle.ch_reader.specs.declared.item.Expected.TheVariants as expected
use Rattle.ch_model.specs.declared.entry.Entry.{Entry}
use Rattle.ch_model.specs.declared.entry.Entry.TheVariants as entries
use Rattle.ch_model.specs.declared.line.Line.{Line}
use Rattle.ch_model.specs.declared.name.End.{End}
use Rattle.ch_model.specs.declared.name.End.TheVariants.{O, T}
use Rattle.ch_model.specs.declared.name.SockName.{SockName}
use Rattle.ch_model.specs.declared.step.SocketEvent.TheVariants as sockets
use Rattle.ch_model.specs.declared.step.Step.{Step}
use Rattle.ch_model.specs.Host.{accepted}
use Rattle.ch_model.specs.HostState.{Socket, HostState}
use Rattle.ch_model.specs.HostSteps.{is_socket}
use Rattle.ch_model.specs.Stages.{Stage, Pending, is_pending}
use Rattle.ch_model.specs.WorldHappenings.{with_cell}
use Rattle.ch_model.specs.WorldSockets.{end_of, is_socket_named, is_end_of, find_end}
use Rattle.ch_model.specs.WorldState.{Cell, WorldSocket, World}
use Rattle.ch_laws_log.proofs.Agreeing.{Good, keeps_good}
use Rattle.ch_laws_log.proofs.Stored.{number_same}
use Rattle.ch_laws_ends.proofs.Came.{come_as, come_socket, come_sockets}
use Rattle.ch_laws_ends.proofs.Changes.{cells_stay}
use Rattle.ch_laws_ends.proofs.Found.{none_found}
use Rattle.ch_laws_ends.proofs.Known.{TargetIs, pending_is}
use Rattle.ch_laws_ends.proofs.Places.{got_same}
use Rattle.ch_laws_bytes.specs.Streams.{Reader, reader_in, readers_of, first_at, reads_at}
use Rattle.ch_laws_bytes.proofs.Event.{given_readers, readers_set}
use Rattle.ch_laws_bytes.proofs.Feeds.{ReadElsewhere, reads_elsewhere}
use Rattle.ch_laws_bytes.proofs.Happen.{readers_there}
use Rattle.ch_laws_bytes.proofs.Sockets.{flip, not_found}
use Rattle.ch_laws_bytes.proofs.Stepped.{ReadsFirst}
use Rattle.ch_laws_accounts.proofs.Ups.{on_raises_none}
use Rattle.ch_laws_calls.specs.Calls.{IsIn, IsCalled, done_at, come_in}
use Rattle.ch_laws_calls.specs.Sound.{SoundEnds}
use Rattle.ch_laws_calls.proofs.SoundChanged.{but_at}
use Rattle.ch_laws_calls.proofs.SoundHears.{Becomes, came_so, found_after}
use Rattle.ch_laws_risen.specs.Firsts.{HasBoth, AllHave, AreRisen}
use Rattle.ch_laws_risen.proofs.Calls.{quietly_grown, quiet_risen, after_own}
use Rattle.ch_laws_risen.proofs.Firsts.{have_more, have_as, have_stored, AllDials, done_have}
use Rattle.ch_laws_risen.proofs.Logs.{unfed}

pub came_risen : (journal : List Line) (log : List Entry) (world : World) (socket : WorldSocket) (place : ℕ) (cell : Cell × ℕ) (steps : List Step) (host : HostState) → IsIn socket world → is_pending socket.t.stage ≡ true → socket.t.cell ≡ Some place → IsCalled world place cell (sockets.Came (2 * cell.1 + 1) socket.from_host) steps host → SoundEnds journal log world → AreRisen log world
    → let done = done_at place (cell.0, cell.1 + 1) steps host (come_in place cell socket world) in AreRisen (log ++ entries.Came socket.name ∷ done.0) done.1
came_risen journal log world socket place cell steps host is p led c s r = after_own log (entries.Came socket.name) (done_at place (cell.0, cell.1 + 1) steps host now).0 (done_at place (cell.0, cell.1 + 1) steps host now).1
    (quiet_risen log_now now place (cell.0, cell.1 + 1) steps host good (on_raises_none cell.0.host host (sockets.Came number socket.from_host) steps c.does) (quietly_grown log (entries.Came socket.name ∷ []) refl (r.read, r.accepted))
    (done_have journal log_now now place (cell.0, cell.1 + 1) steps host (ap (λ (l : List (Cell × ℕ)). slice_get l place) same_cells ∙ counted_at) (good journal) (subst (AllDials (λ m. ReadsFirst (reader_in (find (is_socket m) host.sockets)))) (sym b.steps_are) tt)
    (subst (λ (l : List (Cell × ℕ)). AllHave log_now (given_readers place host l) now.sockets) (sym same_cells) (subst (AllHave log_now two) (sym (come_sockets number socket counted is)) (have_stored log_now two (come_socket number socket) world.sockets mine others)))))
  where
    number : ℕ
    number = 2 * cell.1 + 1

    counted : World
    counted = with_cell place (cell.0, cell.1 + 1) world

    now : World
    now = come_in place cell socket world

    log_now : List Entry
    log_now = log ++ entries.Came socket.name ∷ []

    good : (other : List Line) → Good other log_now now
    good other = (keeps_good other).came log counted socket number is p ((keeps_good other).cell log world place (cell.0, cell.1 + 1) (r.good other))

    same_cells : now.cells ≡ counted.cells
    same_cells = cells_stay socket.name T (come_as number) counted

    counted_at : slice_get counted.cells place ≡ Some (cell.0, cell.1 + 1)
    counted_at = got_same world.cells place cell (cell.0, cell.1 + 1) c.at

    known : TargetIs Pending socket.t.cell socket.t.number
    known = subst (λ (x : Stage). TargetIs x socket.t.cell socket.t.number) (pending_is socket.t.stage p) (s.sure.ends.sorted.1 socket.name socket is).t

    same : (k : ℕ) → k ≤ k
    same k = omega arith

    free : find_end place number world.sockets ≡ None
    free = none_found place number world.sockets (s.sure.ends.agrees.accepted place cell c.at cell.1 (same cell.1))

    new : Socket
    new = accepted number socket.from_host

    b : Becomes cell.0.host new [] steps host
    b = came_so cell.0.host number socket.from_host steps host c.does

    one : ℕ → ℕ → Option Reader
    one = readers_of counted.cells

    two : ℕ → ℕ → Option Reader
    two = given_readers place host counted.cells

    reads : ReadElsewhere place number one two
    reads q n h = but_at place number q n (reader_in (find (is_socket n) host.sockets)) (reader_in (find (is_socket n) cell.0.host.sockets)) (one q n)
        (λ e. ap reader_in (found_after cell.0.host new [] steps host b n ∙ ap (λ a. cond a (Some new) (find (is_socket n) cell.0.host.sockets)) (flip number n ∙ e))) (readers_there counted.cells place (cell.0, cell.1 + 1) counted_at q n) h

    request : two place number ≡ Some (expected.Request, [])
    request = ap (λ a. cond a (reader_in (find (is_socket number) host.sockets)) (one place number)) (number_same place) ∙ ap reader_in (found_after cell.0.host new [] steps host b number ∙ ap (λ a. cond a (Some new) (find (is_socket number) cell.0.host.sockets)) (number_same number))

    reads_t : reads_at two expected.Request socket.t.cell (Some number) ≡ reads_at one expected.Request socket.t.cell socket.t.number
    reads_t = ap (λ (o : Option ℕ). reads_at two expected.Request o (Some number)) led ∙ request ∙ sym (ap (λ (o : Option ℕ). reads_at one expected.Request o socket.t.number) led ∙ ap (λ (o : Option ℕ). reads_at one expected.Request (Some place) o) known.1)

    before : AllHave log_now one world.sockets
    before = have_as log_now (readers_of world.cells) one world.sockets (λ q n. readers_set world.cells place cell (cell.0, cell.1 + 1) c.at q n ∙ readers_there world.cells place cell c.at q n)
        (have_more log (entries.Came socket.name ∷ []) (readers_of world.cells) world.sockets (unfed (entries.Came socket.name ∷ []) refl) r.have)

    off : (t : SockName) (v : WorldSocket) (e : End) → find (is_socket_named t) world.sockets ≡ Some v → is_end_of place number (end_of e v) ≡ false
    off t v e f = not_found place number world.sockets t v e s.sure.ends.each f (λ m. never m) where
      never : find_end place number world.sockets ≡ Some (t, e) → ⊥
      never m = let clash : ◌≡◌ {A = Option (SockName × End)} None (Some (t, e)) = sym free ∙ m in absurd cc

    others : AllHave log_now two world.sockets
    others t v f e next since x = before t v f e next since (sym (reads_elsewhere place number one two (first_at e) (end_of e v) reads (off t v e f)) ∙ x)

    mine : HasBoth log_now two (come_socket number socket)
    mine O next since x = others socket.name socket is O next since x
    mine T next since x = before socket.name socket is T next since (sym reads_t ∙ x)
