-- A target's end comes: the world and the host have it under the host's next odd number.
use Rattle.std.proofs.Common.{◌≡◌, ◌≤◌, ℕ, ◌+◌, ◌*◌, Bool, true, false, cond, ◌||◌, List, [], ◌∷◌, ◌++◌, refl, sym, ap, ◌∙◌, subst, append_assoc, arith}
use Rattle.std.proofs.lemmas.Bool.{ne_eqb}
use Rattle.std.specs.Option.{option_map}
use Rattle.std.specs.Prelude.{find, slice_get, slice_set, Option, Some, None, ◌==◌}
use Rattle.ch_reader.specs.declared.item.Expected.TheVariants as expected
use Rattle.ch_model.specs.declared.entry.Entry.{Entry}
use Rattle.ch_model.specs.declared.entry.Entry.TheVariants as entries
use Rattle.ch_model.specs.declared.line.Line.{Line}
use Rattle.ch_model.specs.declared.name.End.{End}
use Rattle.ch_model.specs.declared.name.End.TheVariants.{T}
use Rattle.ch_model.specs.declared.name.SockName.{SockName}
use Rattle.ch_model.specs.declared.step.SocketEvent.TheVariants as sockets
use Rattle.ch_model.specs.declared.step.Step.{Step}
use Rattle.ch_model.specs.CellSteps.{told_steps}
use Rattle.ch_model.specs.Host.{accepted}
use Rattle.ch_model.specs.HostState.{Socket, HostState}
use Rattle.ch_model.specs.HostSteps.{Stepped, is_socket}
use Rattle.ch_model.specs.Naming.{Names}
use Rattle.ch_model.specs.Stages.{Stage, Pending, is_pending, is_ended}
use Rattle.ch_model.specs.World.{names_of}
use Rattle.ch_model.specs.WorldHappenings.{with_cell}
use Rattle.ch_model.specs.WorldSockets.{store_in, find_end}
use Rattle.ch_model.specs.WorldState.{Cell, WorldSocket, World}
use Rattle.ch_laws_items.proofs.Hosts as hosts
use Rattle.ch_laws_world.specs.Grows.{Grows, homes_of}
use Rattle.ch_laws_world.proofs.Steps.{celled}
use Rattle.ch_laws_log.specs.HostEnds.{stage_at, Tells, steps_in}
use Rattle.ch_laws_log.specs.WorldEnds.{stage_held}
use Rattle.ch_laws_log.proofs.HostTold as ends
use Rattle.ch_laws_log.proofs.Kept.{IsIn}
use Rattle.ch_laws_log.proofs.Stored.{number_same}
use Rattle.ch_laws_ends.specs.Agree.{AgreesOnEnds}
use Rattle.ch_laws_ends.proofs.Came.{come_as, come_socket, MayCome, come_held, come_each, come_sockets}
use Rattle.ch_laws_ends.proofs.Changes.{cells_stay}
use Rattle.ch_laws_ends.proofs.Found.{EachFound, none_found}
use Rattle.ch_laws_ends.proofs.Known.{TargetIs, keeps_sorted, pending_is}
use Rattle.ch_laws_ends.proofs.Over.{refused_in, same_over, end_over, refused_still}
use Rattle.ch_laws_ends.proofs.Places.{got_same, set_twice, set_split}
use Rattle.ch_laws_ends.proofs.Told.{Sure, opened_agrees}
use Rattle.ch_laws_reads.specs.Reads.{Reads}
use Rattle.ch_laws_reads.proofs.HostReads as host_reads
use Rattle.ch_laws_writes.specs.Dues.{Due, Answering, due_at}
use Rattle.ch_laws_writes.specs.Orderly.{IsOrderly, WritesOn, AllWrite}
use Rattle.ch_laws_writes.proofs.Events.{event_writes}
use Rattle.ch_laws_bytes.specs.Streams.{Reader, reader_in, readers_of, dues_of, reads_at, writes_at, Flows, is_over, AllFlow}
use Rattle.ch_laws_bytes.proofs.Event.{given_readers, given_dues, readers_set, dues_set}
use Rattle.ch_laws_bytes.proofs.Feeds.{ReadElsewhere}
use Rattle.ch_laws_bytes.proofs.Happen.{readers_there, dues_there}
use Rattle.ch_laws_bytes.proofs.Lines.{own_of}
use Rattle.ch_laws_bytes.proofs.Reading.{read_as}
use Rattle.ch_laws_bytes.proofs.Sockets.{flip, Elsewhere, all_as}
use Rattle.ch_laws_bytes.proofs.Told.{end_names}
use Rattle.ch_laws_many.proofs.Addresses.{AllNamed}
use Rattle.ch_laws_many.proofs.Led.{grown_set, opened_set}
use Rattle.ch_laws_calls.specs.Calls.{IsCalled, with_host, done_at, come_in}
use Rattle.ch_laws_calls.specs.Sound.{SoundEnds}
use Rattle.ch_laws_calls.proofs.SoundCalled.{called_sound, steps_told, home_kept}
use Rattle.ch_laws_calls.proofs.SoundChanged.{but_at, flow_changed}
use Rattle.ch_laws_calls.proofs.SoundHears.{Becomes, came_so, found_after, opens_to}

pub came_sound : (journal : List Line) → AllNamed (names_of journal) → (log : List Entry) (world : World) (socket : WorldSocket) (place : ℕ) (cell : Cell × ℕ) (steps : List Step) (host : HostState) → IsIn socket world → is_pending socket.t.stage ≡ true → socket.t.cell ≡ Some place → IsCalled world place cell (sockets.Came (2 * cell.1 + 1) socket.from_host) steps host → SoundEnds journal log world
    → let done = done_at place (cell.0, cell.1 + 1) steps host (come_in place cell socket world) in SoundEnds journal (log ++ entries.Came socket.name ∷ done.0) done.1
came_sound journal named log world socket place cell steps host is p led c s = subst (λ (l : List Entry). SoundEnds journal l (done_at place (cell.0, cell.1 + 1) steps host now).1) (append_assoc log (entries.Came socket.name ∷ []) (done_at place (cell.0, cell.1 + 1) steps host now).0)
    (called_sound journal log_now now place (cell.0, cell.1 + 1) host dues (told_steps steps) (with_host cell host) (record {
      named = named;
      at = ap (λ (l : List (Cell × ℕ)). slice_get l place) same_cells ∙ counted_at;
      sure = sure;
      set = opened_set (names_of journal) T (come_as number) socket counted (grown_set (names_of journal) world counted s.set grows s.set.led) is p (λ end. (refl, refl));
      homes = ap homes_of same_cells ∙ grows.homes ∙ s.homes;
      home = home_kept cell.0 host (subst (λ (d : Stepped). hosts.Stays cell.0.host d) c.does (hosts.on_event cell.0.host (sockets.Came number socket.from_host)));
      orderly = λ q x f. set_split world.cells place cell (cell.0, cell.1 + 1) c.at (λ q x. IsOrderly (own_of journal q) x.0.host) (s.flowing.orderly place cell c.at) (λ q x e f. s.flowing.orderly q x f) q x (ap (λ (l : List (Cell × ℕ)). slice_get l q) (sym same_cells) ∙ f);
      tells = subst (λ (l : List Step). Tells host l host) (sym told) (ends.at_rest host writes.orderly.sound);
      reads = subst (λ (l : List Step). Reads host l host) (sym told) (host_reads.at_rest host writes.orderly.sound);
      writes = subst (λ (l : List Step). WritesOn (own_of journal place) dues l host) (sym (steps_told steps)) writes;
      flow = subst (λ (known : Names). AllFlow (own_of journal) known (given_readers place host now.cells) (given_dues place dues now.cells) now.sockets) (sym (end_names socket.name T (come_as number) counted))
          (subst (λ (l : List (Cell × ℕ)). AllFlow (own_of journal) world.names (given_readers place host l) (given_dues place dues l) now.sockets) (sym same_cells) flow);
    }))
  where
    number : ℕ
    number = 2 * cell.1 + 1

    counted : World
    counted = with_cell place (cell.0, cell.1 + 1) world

    now : World
    now = come_in place cell socket world

    log_now : List Entry
    log_now = log ++ entries.Came socket.name ∷ []

    -- what is due before the call: the end that has come answers first
    dues : ℕ → Option Due
    dues n = cond (number == n) (Some Answering) (due_at cell.0.host n)

    same_cells : now.cells ≡ counted.cells
    same_cells = cells_stay socket.name T (come_as number) counted

    counted_at : slice_get counted.cells place ≡ Some (cell.0, cell.1 + 1)
    counted_at = got_same world.cells place cell (cell.0, cell.1 + 1) c.at

    grows : Grows world counted
    grows = celled place cell (cell.0, cell.1 + 1) world s.set.numbered c.at refl

    pending : socket.t.stage ≡ Pending
    pending = pending_is socket.t.stage p

    known : TargetIs Pending socket.t.cell socket.t.number
    known = subst (λ (x : Stage). TargetIs x socket.t.cell socket.t.number) pending (s.sure.ends.sorted.1 socket.name socket is).t

    -- ---- the host

    same : (k : ℕ) → k ≤ k
    same k = omega arith

    odd : (a b : ℕ) → 2 * a + 1 ≡ 2 * b → ⊥
    odd a b e = omega arith

    nowhere : stage_held place number world.sockets ≡ None
    nowhere = s.sure.ends.agrees.accepted place cell c.at cell.1 (same cell.1)

    none_at : stage_at cell.0.host number ≡ None → find (is_socket number) cell.0.host.sockets ≡ None
    none_at = by_socket (find (is_socket number) cell.0.host.sockets) where
      by_socket : (o : Option Socket) → option_map (λ (v : Socket). v.stage) o ≡ None → o ≡ None
      by_socket None e = refl
      by_socket (Some v) e = absurd cc

    new : Socket
    new = accepted number socket.from_host

    b : Becomes cell.0.host new [] steps host
    b = came_so cell.0.host number socket.from_host steps host c.does

    told : steps_in (told_steps steps) ≡ []
    told = steps_told steps ∙ b.steps_are

    writes : WritesOn (own_of journal place) dues steps host
    writes = subst (λ (d : Stepped). AllWrite (own_of journal place) dues d) c.does
        (event_writes (own_of journal place) cell.0.host (sockets.Came number socket.from_host) (s.flowing.orderly place cell c.at) (none_at (s.sure.ends.agrees.ends place cell c.at number ∙ nowhere), λ k l. ne_eqb number (2 * k) (odd cell.1 k)))

    -- ---- the ends

    free : find_end place number world.sockets ≡ None
    free = none_found place number world.sockets nowhere

    may : MayCome place number socket world.sockets
    may = record { is = is; apart = s.sure.ends.sorted.0.apart; each = s.sure.ends.each; cell = led; unnumbered = known.1; free = free }

    sockets_now : now.sockets ≡ store_in (come_socket number socket) world.sockets
    sockets_now = come_sockets number socket counted is

    other : (a k : ℕ) → a + 1 ≤ k → 2 * a + 1 ≡ 2 * k + 1 → ⊥
    other a k l e = omega arith

    below : (a k : ℕ) → a + 1 ≤ k → a ≤ k
    below a k l = omega arith

    agrees : AgreesOnEnds (with_cell place (with_host cell host, cell.1 + 1) now)
    agrees = opened_agrees world (with_cell place (with_host cell host, cell.1 + 1) now) place cell (with_host cell host) (cell.1 + 1) number s.sure.ends.agrees c.at
        (ap (λ (l : List (Cell × ℕ)). slice_set l place (with_host cell host, cell.1 + 1)) same_cells ∙ set_twice world.cells place (cell.0, cell.1 + 1) (with_host cell host, cell.1 + 1))
        (opens_to cell.0.host new [] steps host number b refl refl writes.orderly.sound) (λ q n. ap (stage_held q n) sockets_now ∙ come_held place number socket world.sockets may q n)
        (λ k l. (ne_eqb number (2 * k + 1) (other cell.1 k l), below cell.1 k l))

    sure : Sure journal log_now (with_cell place (with_host cell host, cell.1 + 1) now)
    sure = record {
      ends = record {
        sorted = (keeps_sorted journal).cell log_now now place (with_host cell host, cell.1 + 1) ((keeps_sorted journal).came log counted socket number is p ((keeps_sorted journal).cell log world place (cell.0, cell.1 + 1) s.sure.ends.sorted));
        each = subst EachFound (sym sockets_now) (come_each place number socket world.sockets may);
        agrees = agrees;
      };
      over = same_over (refused_in log) (refused_in log_now) now.sockets (λ t. refused_still log (entries.Came socket.name ∷ []) t refl) (end_over (refused_in log) socket.name T (come_as number) counted (λ old found e. e) s.sure.over);
    }

    -- ---- the streams

    one : ℕ → ℕ → Option Reader
    one = readers_of counted.cells

    two : ℕ → ℕ → Option Reader
    two = given_readers place host counted.cells

    was : ℕ → ℕ → Option Due
    was = dues_of counted.cells

    next : ℕ → ℕ → Option Due
    next = given_dues place dues counted.cells

    here : {A : Type 0} (x y : A) → cond (place == place) x y ≡ x
    here x y = ap (λ a. cond a x y) (number_same place)

    not_number : (n : ℕ) → (n == number) ≡ false → (number == n) ≡ false
    not_number n e = flip number n ∙ e

    reads : ReadElsewhere place number one two
    reads q n h = but_at place number q n (reader_in (find (is_socket n) host.sockets)) (reader_in (find (is_socket n) cell.0.host.sockets)) (one q n)
        (λ e. ap reader_in (found_after cell.0.host new [] steps host b n ∙ ap (λ a. cond a (Some new) (find (is_socket n) cell.0.host.sockets)) (not_number n e))) (readers_there counted.cells place (cell.0, cell.1 + 1) counted_at q n) h

    writings : Elsewhere place number was next
    writings q n h = but_at place number q n (dues n) (due_at cell.0.host n) (was q n) (λ e. ap (λ a. cond a (Some Answering) (due_at cell.0.host n)) (not_number n e)) (dues_there counted.cells place (cell.0, cell.1 + 1) counted_at q n) h

    request : two place number ≡ Some (expected.Request, [])
    request = here (reader_in (find (is_socket number) host.sockets)) (one place number) ∙ ap reader_in (found_after cell.0.host new [] steps host b number ∙ ap (λ a. cond a (Some new) (find (is_socket number) cell.0.host.sockets)) (number_same number))

    answer : next place number ≡ Some Answering
    answer = here (dues number) (was place number) ∙ ap (λ a. cond a (Some Answering) (due_at cell.0.host number)) (number_same number)

    reads_t : reads_at two expected.Request socket.t.cell (Some number) ≡ reads_at one expected.Request socket.t.cell socket.t.number
    reads_t = ap (λ (o : Option ℕ). reads_at two expected.Request o (Some number)) led ∙ request ∙ sym (ap (λ (o : Option ℕ). reads_at one expected.Request o socket.t.number) led ∙ ap (λ (o : Option ℕ). reads_at one expected.Request (Some place) o) known.1)

    writes_t : writes_at next socket.t.cell (Some number) ≡ writes_at was socket.t.cell socket.t.number
    writes_t = ap (λ (o : Option ℕ). writes_at next o (Some number)) led ∙ answer ∙ sym (ap (λ (o : Option ℕ). writes_at was o socket.t.number) led ∙ ap (λ (o : Option ℕ). writes_at was (Some place) o) known.1)

    over : is_over socket.t ≡ is_over (come_as number socket.t)
    over = ap (λ (x : Stage). is_ended x || socket.t.is_cut) pending

    only : (t : SockName) (e : End) → find_end place number world.sockets ≡ Some (t, e) → (t ≡ socket.name) × (e ≡ T)
    only t e found = let clash : ◌≡◌ {A = Option (SockName × End)} None (Some (t, e)) = sym free ∙ found in absurd cc

    counted_flow : AllFlow (own_of journal) world.names one was world.sockets
    counted_flow = read_as (own_of journal) world.names (readers_of world.cells) one was world.sockets (λ q n. readers_set world.cells place cell (cell.0, cell.1 + 1) c.at q n ∙ readers_there world.cells place cell c.at q n)
        (all_as (own_of journal) world.names (readers_of world.cells) (dues_of world.cells) was world.sockets (λ q n. dues_set world.cells place cell (cell.0, cell.1 + 1) c.at q n ∙ dues_there world.cells place cell c.at q n) s.flowing.flow)

    flow : AllFlow (own_of journal) world.names two next now.sockets
    flow = flow_changed (own_of journal) world.names one two was next place number T (come_as number) socket counted is s.sure.ends.each only reads writings refl
        (λ due f. subst (λ (r : Option Reader). Flows r (is_over (come_as number socket.t)) socket.t.unread due) (sym reads_t) (subst (λ (a : Bool). Flows (reads_at one expected.Request socket.t.cell socket.t.number) a socket.t.unread due) over f)) writes_t counted_flow
