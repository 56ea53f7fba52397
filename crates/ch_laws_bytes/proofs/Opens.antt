-- Ends that open keep the streams: an opener's that is joined, and a target's that comes.
use Rattle.std.proofs.Common.{◌≡◌, ◌≤◌, ℕ, ◌+◌, ◌*◌, Bool, true, false, cond, ◌&&◌, ◌||◌, List, [], ◌∷◌, ◌++◌, Ok, refl, sym, ap, ◌∙◌, subst, arith}
use Rattle.std.proofs.lemmas.Bool.{ne_eqb}
use Rattle.std.specs.Option.{option_map}
use Rattle.std.specs.Prelude.{find, is_some, slice_get, slice_set, Option, Some, None, ◌==◌}
use Rattle.ch_base.specs.declared.address.Address.{Address}
use Rattle.ch_reader.specs.declared.item.Expected.TheVariants as expected
use Rattle.ch_model.specs.declared.entry.Entry.{Entry}
use Rattle.ch_model.specs.declared.entry.Entry.TheVariants as entries
use Rattle.ch_model.specs.declared.entry.Verdict.{Verdict}
use Rattle.ch_model.specs.declared.entry.Verdict.TheVariants as verdicts
use Rattle.ch_model.specs.declared.line.Line.{Line}
use Rattle.ch_model.specs.declared.local.LocalEntry.{LocalEntry}
use Rattle.ch_model.specs.declared.local.LocalEvent.{LocalEvent}
use Rattle.ch_model.specs.declared.local.LocalEvent.TheVariants as events
use Rattle.ch_model.specs.declared.name.End.{End}
use Rattle.ch_model.specs.declared.name.End.TheVariants.{O, T}
use Rattle.ch_model.specs.declared.name.SockName.{SockName}
use Rattle.ch_model.specs.declared.step.SocketEvent.TheVariants as sockets
use Rattle.ch_model.specs.Cell.{Celled, cell_step}
use Rattle.ch_model.specs.Host.{accepted}
use Rattle.ch_model.specs.HostState.{Socket, HostState}
use Rattle.ch_model.specs.HostSteps.{is_socket, with_socket}
use Rattle.ch_model.specs.Naming.{Names}
use Rattle.ch_model.specs.Stages.{Stage, Pending, Open, is_pending, is_ended}
use Rattle.ch_model.specs.WorldHappenings.{Answered, after_entry, cell_told, cell_hears, end_hears, with_cell, joins, mark_of, comes_at, comes}
use Rattle.ch_model.specs.WorldSockets.{end_of, with_end, opened, is_socket_named, store_in, with_end_of, is_end_of, find_end}
use Rattle.ch_model.specs.WorldState.{Cell, WorldSocket, World}
use Rattle.ch_laws_items.proofs.Sockets.{stored_apart}
use Rattle.ch_laws_log.specs.HostEnds.{stage_at, AreNewTo, IsSound, steps_in}
use Rattle.ch_laws_log.specs.WorldEnds.{stage_found, stage_held}
use Rattle.ch_laws_log.proofs.HostTold as hosts
use Rattle.ch_laws_log.proofs.Kept.{IsIn}
use Rattle.ch_laws_log.proofs.Stored.{number_same}
use Rattle.ch_laws_ends.proofs.Came.{come_as, come_socket, MayCome, come_held, come_each, come_sockets}
use Rattle.ch_laws_ends.proofs.Changes.{cells_stay}
use Rattle.ch_laws_ends.proofs.Found.{EachFound, Stands, none_found, changed_held, each_kept}
use Rattle.ch_laws_ends.proofs.Happen.{its_place, its_stage}
use Rattle.ch_laws_ends.proofs.Known.{OpenerIs, TargetIs, keeps_sorted, pending_is}
use Rattle.ch_laws_ends.proofs.Opened.{AllOpenedOn, OpenedOn, joined_on, came_on}
use Rattle.ch_laws_ends.proofs.Places.{got_same, set_split}
use Rattle.ch_laws_ends.proofs.Told.{Sure}
use Rattle.ch_laws_writes.specs.Dues.{Due, Answering, due_at}
use Rattle.ch_laws_writes.specs.Orderly.{IsOrderly}
use Rattle.ch_laws_bytes.specs.Streams.{Reader, reader_in, readers_of, dues_of, reads_at, writes_at, is_over, ToOpener, FromOpener, BothFlow, AllFlow}
use Rattle.ch_laws_bytes.proofs.Event.{Flowing, given_readers, given_dues, readers_set, dues_set}
use Rattle.ch_laws_bytes.proofs.Feeds.{ReadElsewhere, reads_elsewhere, both_read_as, same_end_gone}
use Rattle.ch_laws_bytes.proofs.Happen.{Flown, entry_flown, given_flown, readers_there, dues_there, is_some_map, changed_flowing}
use Rattle.ch_laws_bytes.proofs.Reading.{read_as}
use Rattle.ch_laws_bytes.proofs.Sockets.{flip, Elsewhere, writes_elsewhere, both_as, all_as, not_found, end_flow}
use Rattle.ch_laws_bytes.proofs.Told.{end_names}

-- ---- an end is joined

held_some : (place n : ℕ) (l : List WorldSocket) (s : SockName) (socket : WorldSocket) (e : End) → EachFound l → find (is_socket_named s) l ≡ Some socket → is_end_of place n (end_of e socket) ≡ true → is_some (stage_held place n l) ≡ true
held_some place n l s socket e each is of = ap is_some (ap (λ (o : Option (SockName × End)). stage_found o l) (each s socket e place n is of) ∙ ap (Stands e) is)

pub joins_flown : (own : ℕ → ℕ → Address) (journal : List Line) (log : List Entry) (socket : WorldSocket) (world : World) → IsIn socket world → is_pending socket.o.stage ≡ true → Sure journal log world → Flowing own world → Flown own (joins socket world)
joins_flown own journal log socket world is p s w = entry_flown own (entries.Joined socket.name) (end_hears socket.o (λ sock. sockets.Joined sock) open_world)
    (by_end socket.o.cell socket.o.number refl refl (subst (λ (x : Stage). OpenerIs x socket.o.cell socket.o.number) (pending_is socket.o.stage p) (s.ends.sorted.1 socket.name socket is).o))
  where
    open_world : World
    open_world = with_end_of socket.name O opened world

    log_now : List Entry
    log_now = log ++ entries.Joined socket.name ∷ []

    same_cells : open_world.cells ≡ world.cells
    same_cells = cells_stay socket.name O opened world

    each : EachFound open_world.sockets
    each = each_kept socket.name O opened world (λ end. (refl, refl)) s.ends.each

    over : is_over socket.o ≡ is_over (opened socket.o)
    over = ap (λ (x : Stage). is_ended x || socket.o.is_cut) (pending_is socket.o.stage p)

    flowing : Flowing own open_world
    flowing = changed_flowing own socket.name O opened world (λ old f b. subst (λ (v : WorldSocket). BothFlow own world.names (readers_of world.cells) (dues_of world.cells) (with_end O (opened v.o) v)) (same_end_gone socket old socket.name world.sockets is f) mine) w where
      was : BothFlow own world.names (readers_of world.cells) (dues_of world.cells) socket
      was = w.flow socket.name socket is

      mine : BothFlow own world.names (readers_of world.cells) (dues_of world.cells) (with_end O (opened socket.o) socket)
      mine = record { opener = subst (λ (b : Bool). ToOpener (reads_at (readers_of world.cells) expected.Answer socket.o.cell socket.o.number) b socket.o.unread (writes_at (dues_of world.cells) socket.t.cell socket.t.number)) over was.opener; target = was.target }

    there : (place number : ℕ) (cell : Cell × ℕ) → socket.o.cell ≡ Some place → socket.o.number ≡ Some number → slice_get open_world.cells place ≡ Some cell → Flown own (cell_told place cell open_world (cell_step cell.0 (events.Socket (sockets.Joined number))))
    there place number cell c m at = given_flown own journal log_now open_world place cell (events.Socket (sockets.Joined number)) (record {
      at = at;
      sorted = (keeps_sorted journal).joined log world socket is p s.ends.sorted;
      each = each;
      orderly = flowing.orderly;
      sound = s.ends.agrees.sound place cell at_world;
      comes = tt;
      there = λ n. is_some_map (λ (v : Socket). v.stage) (find (is_socket n) cell.0.host.sockets) ∙ ap is_some (s.ends.agrees.ends place cell at_world n) ∙ sym (ap is_some (held n) ∙ by_open n (is_end_of place n socket.o) refl);
      flow = read_as own open_world.names (readers_of open_world.cells) (given_readers place cell.0.host open_world.cells) (given_dues place (due_at cell.0.host) open_world.cells) open_world.sockets (readers_there open_world.cells place cell at)
          (all_as own open_world.names (readers_of open_world.cells) (dues_of open_world.cells) (given_dues place (due_at cell.0.host) open_world.cells) open_world.sockets (dues_there open_world.cells place cell at) flowing.flow);
    }) (λ after verdict told e n. subst (λ (o : Option Stage). AreNewTo n (steps_in told) o) (stages after verdict told e n) ((opens after verdict told e).tells.new n)) where
      at_world : slice_get world.cells place ≡ Some cell
      at_world = ap (λ (l : List (Cell × ℕ)). slice_get l place) (sym same_cells) ∙ at

      held : (n : ℕ) → stage_held place n open_world.sockets ≡ cond (is_end_of place n socket.o) (Some Open) (stage_held place n world.sockets)
      held n = changed_held place n socket.name O opened world socket s.ends.sorted.0.apart s.ends.each is (λ end. (refl, refl))

      by_open : (n : ℕ) (b : Bool) → is_end_of place n socket.o ≡ b → is_some (cond b (Some Open) (stage_held place n world.sockets)) ≡ is_some (stage_held place n world.sockets)
      by_open n true e = sym (held_some place n world.sockets socket.name socket O s.ends.each is e)
      by_open n false e = refl

      pending : stage_at cell.0.host number ≡ Some Pending
      pending = s.ends.agrees.ends place cell at_world number ∙ its_stage journal log world socket O place number s is c m ∙ ap Some (pending_is socket.o.stage p)

      opens : (after : Cell) (verdict : Verdict) (told : List LocalEntry) → cell_step cell.0 (events.Socket (sockets.Joined number)) ≡ Ok ((verdict, told), after) → OpenedOn cell.0 after number verdict told
      opens after verdict told e = subst (λ (d : Celled). AllOpenedOn cell.0 number d) e (joined_on cell.0 number (s.ends.agrees.sound place cell at_world) pending)

      stages : (after : Cell) (verdict : Verdict) (told : List LocalEntry) (e : cell_step cell.0 (events.Socket (sockets.Joined number)) ≡ Ok ((verdict, told), after)) (n : ℕ) → stage_at (opens after verdict told e).opened n ≡ stage_held place n open_world.sockets
      stages after verdict told e n = (opens after verdict told e).to.stages n ∙ ap (λ (o : Option Stage). cond (number == n) (Some Open) o) (s.ends.agrees.ends place cell at_world n)
          ∙ sym (held n ∙ ap (λ b. cond b (Some Open) (stage_held place n world.sockets)) (its_place socket.o place number c m place n ∙ ap (λ b. b && (number == n)) (number_same place)))

    by_cell : (place number : ℕ) → socket.o.cell ≡ Some place → socket.o.number ≡ Some number → (o : Option (Cell × ℕ)) → slice_get open_world.cells place ≡ o → Flown own (elim o as (λ o. Answered) [
      | None ↦ Ok ((verdicts.Nothing, []), open_world)
      | Some cell ↦ cell_told place cell open_world (cell_step cell.0 (events.Socket (sockets.Joined number)))
    ])
    by_cell place number c m None at = flowing
    by_cell place number c m (Some cell) at = there place number cell c m at

    by_end : (c n : Option ℕ) → socket.o.cell ≡ c → socket.o.number ≡ n → (is_some c ≡ true) × (is_some n ≡ true) → Flown own (elim c as (λ o. Answered) [
      | None ↦ Ok ((verdicts.Nothing, []), open_world)
      | Some place ↦ elim n [
        | None ↦ Ok ((verdicts.Nothing, []), open_world)
        | Some number ↦ cell_hears place (events.Socket (sockets.Joined number)) open_world
      ]
    ])
    by_end None n c m k = flowing
    by_end (Some place) None c m k = flowing
    by_end (Some place) (Some number) c m k = by_cell place number c m (slice_get open_world.cells place) refl

-- ---- an end comes

-- the host with a socket that has come
came_sound : (k : ℕ) (peer_host : List ℕ) (host : HostState) → IsSound host → IsSound (with_socket (accepted (2 * k + 1) peer_host) host)
came_sound k peer_host host s = record {
  apart = stored_apart new host.sockets s.apart;
  free = λ j l. hosts.find_stored new host.sockets (2 * j) ∙ ap (λ b. cond b (Some new) (find (is_socket (2 * j)) host.sockets)) (ne_eqb (2 * k + 1) (2 * j) (odd k j)) ∙ s.free j l;
  used = λ n socket f. by_used n socket (new.number == n) (sym (hosts.find_stored new host.sockets n) ∙ f);
} where
  new : Socket
  new = accepted (2 * k + 1) peer_host

  odd : (a b : ℕ) → 2 * a + 1 ≡ 2 * b → ⊥
  odd a b e = omega arith

  by_used : (n : ℕ) (socket : Socket) (b : Bool) → cond b (Some new) (find (is_socket n) host.sockets) ≡ Some socket → is_pending socket.stage ≡ true → is_some socket.user ≡ true
  by_used n socket true f p = let is : new ≡ socket = cc in let gone : is_pending Open ≡ true = subst (λ (v : Socket). is_pending v.stage ≡ true) (sym is) p in absurd cc
  by_used n socket false f p = s.used n socket f p

-- its target's end reads and writes as before, under its number from now on, and all other ends do as before
came_flow : (own : ℕ → ℕ → Address) (known : Names) (one two : ℕ → ℕ → Option Reader) (was now : ℕ → ℕ → Option Due) (place number : ℕ) (socket : WorldSocket) (world : World) → MayCome place number socket world.sockets → socket.t.stage ≡ Pending
    → ReadElsewhere place number one two → two place number ≡ Some (expected.Request, []) → Elsewhere place number was now → now place number ≡ Some Answering → AllFlow own known one was world.sockets → AllFlow own known two now (with_end_of socket.name T (come_as number) world).sockets
came_flow own known one two was now place number socket world m pending reads request writes answer all = end_flow own known two now socket.name T (come_as number) world
    (λ old f. subst (λ (v : WorldSocket). BothFlow own known two now (with_end T (come_as number v.t) v)) (same_end_gone socket old socket.name world.sockets m.is f) mine)
    (λ t other h f. both_as own known two was now other (writes_elsewhere place number was now other.o writes (apart t other O f)) (writes_elsewhere place number was now other.t writes (apart t other T f))
    (both_read_as own known one two was other (reads_elsewhere place number one two expected.Answer other.o reads (apart t other O f)) (reads_elsewhere place number one two expected.Request other.t reads (apart t other T f)) (all t other f)))
  where
    apart : (t : SockName) (other : WorldSocket) (e : End) → find (is_socket_named t) world.sockets ≡ Some other → is_end_of place number (end_of e other) ≡ false
    apart t other e f = not_found place number world.sockets t other e m.each f (λ h. gone t e h) where
      gone : (t : SockName) (e : End) → find_end place number world.sockets ≡ Some (t, e) → ⊥
      gone t e h = let clash : ◌≡◌ {A = Option (SockName × End)} None (Some (t, e)) = sym m.free ∙ h in absurd cc

    f : BothFlow own known one was socket
    f = all socket.name socket m.is

    reads_o : reads_at two expected.Answer socket.o.cell socket.o.number ≡ reads_at one expected.Answer socket.o.cell socket.o.number
    reads_o = reads_elsewhere place number one two expected.Answer socket.o reads (apart socket.name socket O m.is)

    writes_o : writes_at now socket.o.cell socket.o.number ≡ writes_at was socket.o.cell socket.o.number
    writes_o = writes_elsewhere place number was now socket.o writes (apart socket.name socket O m.is)

    reads_t : reads_at two expected.Request socket.t.cell (Some number) ≡ reads_at one expected.Request socket.t.cell socket.t.number
    reads_t = ap (λ (c : Option ℕ). reads_at two expected.Request c (Some number)) m.cell ∙ request
        ∙ sym (ap (λ (c : Option ℕ). reads_at one expected.Request c socket.t.number) m.cell ∙ ap (λ (n : Option ℕ). reads_at one expected.Request (Some place) n) m.unnumbered)

    writes_t : writes_at now socket.t.cell (Some number) ≡ writes_at was socket.t.cell socket.t.number
    writes_t = ap (λ (c : Option ℕ). writes_at now c (Some number)) m.cell ∙ answer
        ∙ sym (ap (λ (c : Option ℕ). writes_at was c socket.t.number) m.cell ∙ ap (λ (n : Option ℕ). writes_at was (Some place) n) m.unnumbered)

    over : is_over (come_as number socket.t) ≡ is_over socket.t
    over = sym (ap (λ (x : Stage). is_ended x || socket.t.is_cut) pending)

    mine : BothFlow own known two now (with_end T (come_as number socket.t) socket)
    mine = record {
      opener = subst (λ (r : Option Reader). ToOpener r (is_over socket.o) socket.o.unread (writes_at now socket.t.cell (Some number))) (sym reads_o)
          (subst (λ (d : Option Due). ToOpener (reads_at one expected.Answer socket.o.cell socket.o.number) (is_over socket.o) socket.o.unread d) (sym writes_t) f.opener);
      target = subst (λ (r : Option Reader). FromOpener own known socket.name socket.o.cell r (is_over (come_as number socket.t)) socket.t.unread (writes_at now socket.o.cell socket.o.number)) (sym reads_t)
          (subst (λ (b : Bool). FromOpener own known socket.name socket.o.cell (reads_at one expected.Request socket.t.cell socket.t.number) b socket.t.unread (writes_at now socket.o.cell socket.o.number)) (sym over)
          (subst (λ (d : Option Due). FromOpener own known socket.name socket.o.cell (reads_at one expected.Request socket.t.cell socket.t.number) (is_over socket.t) socket.t.unread d) (sym writes_o) f.target));
    }

pub comes_flown : (own : ℕ → ℕ → Address) (journal : List Line) (log : List Entry) (socket : WorldSocket) (world : World) → IsIn socket world → is_pending socket.t.stage ≡ true → Sure journal log world → Flowing own world → Flown own (comes socket world)
comes_flown own journal log socket world is p s w = by_place socket.t.cell refl where
  log_now : List Entry
  log_now = log ++ entries.Came socket.name ∷ []

  known : TargetIs Pending socket.t.cell socket.t.number
  known = subst (λ (x : Stage). TargetIs x socket.t.cell socket.t.number) (pending_is socket.t.stage p) (s.ends.sorted.1 socket.name socket is).t

  counted : ℕ → Cell × ℕ → World
  counted place cell = with_cell place (cell.0, cell.1 + 1) world

  come_world : ℕ → Cell × ℕ → World
  come_world place cell = with_end_of socket.name T (come_as (2 * cell.1 + 1)) (counted place cell)

  there : (place : ℕ) (cell : Cell × ℕ) → socket.t.cell ≡ Some place → slice_get world.cells place ≡ Some cell → Flown own (cell_hears place (events.Came (mark_of socket.o) (2 * cell.1 + 1) socket.from_host) (come_world place cell))
  there place cell c at = subst (λ (o : Option (Cell × ℕ)). Flown own (elim o as (λ o. Answered) [
    | None ↦ Ok ((verdicts.Nothing, []), now)
    | Some v ↦ cell_told place v now (cell_step v.0 event)
  ])) (sym at_now) (given_flown own journal log_now now place (cell.0, cell.1 + 1) event (record {
    at = at_now;
    sorted = (keeps_sorted journal).came log (counted place cell) socket number is p ((keeps_sorted journal).cell log world place (cell.0, cell.1 + 1) s.ends.sorted);
    each = subst EachFound (sym sockets_now) (come_each place number socket world.sockets may);
    orderly = λ q x f. set_split world.cells place cell (cell.0, cell.1 + 1) at (λ q x. IsOrderly (own q) x.0.host) (w.orderly place cell at) (λ q x e f. w.orderly q x f) q x (ap (λ (l : List (Cell × ℕ)). slice_get l q) (sym same_cells) ∙ f);
    sound = came_sound cell.1 socket.from_host cell.0.host (s.ends.agrees.sound place cell at);
    comes = (none_at (s.ends.agrees.ends place cell at number ∙ s.ends.agrees.accepted place cell at cell.1 (same cell.1)), λ k l. ne_eqb number (2 * k) (odd cell.1 k));
    there = λ n. ap is_some (hosts.find_stored new cell.0.host.sockets n) ∙ by_some n (number == n) ∙ sym (ap is_some (held n));
    flow = subst (λ (names : Names). AllFlow own names two due now.sockets) (sym (end_names socket.name T (come_as number) (counted place cell)))
        (came_flow own world.names (readers_of world.cells) two (dues_of world.cells) due place number socket (counted place cell) may (pending_is socket.t.stage p)
        reads (here (reader_in (find (is_socket number) host.sockets)) (readers_of now.cells place number) ∙ ap reader_in (hosts.find_stored new cell.0.host.sockets number ∙ ap (λ b. cond b (Some new) (find (is_socket number) cell.0.host.sockets)) (number_same number)))
        writes (here (cond (number == number) (Some Answering) (due_at cell.0.host number)) (dues_of now.cells place number) ∙ ap (λ b. cond b (Some Answering) (due_at cell.0.host number)) (number_same number)) w.flow);
  }) (λ after verdict told e n. subst (λ (o : Option Stage). AreNewTo n (steps_in told) o) (stages after verdict told e n) ((opens after verdict told e).tells.new n))) where
    number : ℕ
    number = 2 * cell.1 + 1

    event : LocalEvent
    event = events.Came (mark_of socket.o) number socket.from_host

    now : World
    now = come_world place cell

    new : Socket
    new = accepted number socket.from_host

    host : HostState
    host = with_socket new cell.0.host

    two : ℕ → ℕ → Option Reader
    two = given_readers place host now.cells

    due : ℕ → ℕ → Option Due
    due = given_dues place (λ n. cond (number == n) (Some Answering) (due_at cell.0.host n)) now.cells

    same_cells : now.cells ≡ slice_set world.cells place (cell.0, cell.1 + 1)
    same_cells = cells_stay socket.name T (come_as number) (counted place cell)

    at_now : slice_get now.cells place ≡ Some (cell.0, cell.1 + 1)
    at_now = ap (λ (l : List (Cell × ℕ)). slice_get l place) same_cells ∙ got_same world.cells place cell (cell.0, cell.1 + 1) at

    sockets_now : now.sockets ≡ store_in (come_socket number socket) world.sockets
    sockets_now = come_sockets number socket (counted place cell) is

    here : {A : Type 0} (x y : A) → cond (place == place) x y ≡ x
    here x y = ap (λ b. cond b x y) (number_same place)

    same : (k : ℕ) → k ≤ k
    same k = omega arith

    odd : (a b : ℕ) → 2 * a + 1 ≡ 2 * b → ⊥
    odd a b e = omega arith

    none_at : stage_at cell.0.host number ≡ None → find (is_socket number) cell.0.host.sockets ≡ None
    none_at = by_socket (find (is_socket number) cell.0.host.sockets) where
      by_socket : (o : Option Socket) → option_map (λ (v : Socket). v.stage) o ≡ None → o ≡ None
      by_socket None e = refl
      by_socket (Some v) e = absurd cc

    may : MayCome place number socket world.sockets
    may = record { is = is; apart = s.ends.sorted.0.apart; each = s.ends.each; cell = c; unnumbered = known.1; free = none_found place number world.sockets (s.ends.agrees.accepted place cell at cell.1 (same cell.1)) }

    held : (n : ℕ) → stage_held place n now.sockets ≡ cond (number == n) (Some Open) (stage_held place n world.sockets)
    held n = ap (stage_held place n) sockets_now ∙ come_held place number socket world.sockets may place n ∙ ap (λ b. cond (b && (number == n)) (Some Open) (stage_held place n world.sockets)) (number_same place)

    by_some : (n : ℕ) (b : Bool) → is_some (cond b (Some new) (find (is_socket n) cell.0.host.sockets)) ≡ is_some (cond b (Some Open) (stage_held place n world.sockets))
    by_some n true = refl
    by_some n false = is_some_map (λ (v : Socket). v.stage) (find (is_socket n) cell.0.host.sockets) ∙ ap is_some (s.ends.agrees.ends place cell at n)

    -- what the cells read and write elsewhere is as before
    were_read : (q n : ℕ) → readers_of now.cells q n ≡ readers_of world.cells q n
    were_read q n = ap (λ (l : List (Cell × ℕ)). readers_of l q n) same_cells ∙ readers_set world.cells place cell (cell.0, cell.1 + 1) at q n ∙ readers_there world.cells place cell at q n

    were_due : (q n : ℕ) → dues_of now.cells q n ≡ dues_of world.cells q n
    were_due q n = ap (λ (l : List (Cell × ℕ)). dues_of l q n) same_cells ∙ dues_set world.cells place cell (cell.0, cell.1 + 1) at q n ∙ dues_there world.cells place cell at q n

    reads : ReadElsewhere place number (readers_of world.cells) two
    reads q n h = by_tests (place == q) refl (number == n) refl (ap (λ b. b && (number == n)) (flip place q) ∙ ap (λ b. (q == place) && b) (flip number n) ∙ h) where
      by_tests : (a : Bool) → (place == q) ≡ a → (b : Bool) → (number == n) ≡ b → (a && b) ≡ false → cond a (reader_in (find (is_socket n) host.sockets)) (readers_of now.cells q n) ≡ readers_of world.cells q n
      by_tests true g true k h = absurd cc
      by_tests true g false k h = ap reader_in (hosts.find_stored new cell.0.host.sockets n ∙ ap (λ b. cond b (Some new) (find (is_socket n) cell.0.host.sockets)) k)
          ∙ sym (ap (λ b. cond b (reader_in (find (is_socket n) cell.0.host.sockets)) (readers_of world.cells q n)) g) ∙ readers_there world.cells place cell at q n
      by_tests false g b k h = were_read q n

    writes : Elsewhere place number (dues_of world.cells) due
    writes q n h = by_tests (place == q) refl (number == n) refl (ap (λ b. b && (number == n)) (flip place q) ∙ ap (λ b. (q == place) && b) (flip number n) ∙ h) where
      by_tests : (a : Bool) → (place == q) ≡ a → (b : Bool) → (number == n) ≡ b → (a && b) ≡ false → cond a (cond b (Some Answering) (due_at cell.0.host n)) (dues_of now.cells q n) ≡ dues_of world.cells q n
      by_tests true g true k h = absurd cc
      by_tests true g false k h = sym (ap (λ b. cond b (due_at cell.0.host n) (dues_of world.cells q n)) g) ∙ dues_there world.cells place cell at q n
      by_tests false g b k h = were_due q n

    opens : (after : Cell) (verdict : Verdict) (told : List LocalEntry) → cell_step cell.0 event ≡ Ok ((verdict, told), after) → OpenedOn cell.0 after number verdict told
    opens after verdict told e = subst (λ (d : Celled). AllOpenedOn cell.0 number d) e (came_on cell.0 (mark_of socket.o) cell.1 socket.from_host (s.ends.agrees.sound place cell at))

    stages : (after : Cell) (verdict : Verdict) (told : List LocalEntry) (e : cell_step cell.0 event ≡ Ok ((verdict, told), after)) (n : ℕ) → stage_at (opens after verdict told e).opened n ≡ stage_held place n now.sockets
    stages after verdict told e n = (opens after verdict told e).to.stages n ∙ ap (λ (o : Option Stage). cond (number == n) (Some Open) o) (s.ends.agrees.ends place cell at n) ∙ sym (held n)

  by_cell : (place : ℕ) → socket.t.cell ≡ Some place → (o : Option (Cell × ℕ)) → slice_get world.cells place ≡ o → Flown own (elim o as (λ o. Answered) [
    | None ↦ Ok ((verdicts.Nothing, []), world)
    | Some cell ↦ cell_hears place (events.Came (mark_of socket.o) (2 * cell.1 + 1) socket.from_host) (come_world place cell)
  ])
  by_cell place c None at = w
  by_cell place c (Some cell) at = there place cell c at

  by_place : (o : Option ℕ) → socket.t.cell ≡ o → Flown own (elim o as (λ o. Answered) [
    | None ↦ Ok ((verdicts.Nothing, []), world)
    | Some place ↦ after_entry (entries.Came socket.name) (comes_at place socket world)
  ])
  by_place None c = w
  by_place (Some place) c = entry_flown own (entries.Came socket.name) (comes_at place socket world) (by_cell place c (slice_get world.cells place) refl)
