-- What the calls of hosts keep: that what is unread fits.
use Rattle.std.proofs.Common.{◌≡◌, ℕ, true, false, List, [], ◌∷◌, ◌++◌, Ok, refl, sym, ap, ◌∙◌, subst}
use Rattle.std.proofs.lemmas.Bool.{and_parts}
use Rattle.std.specs.Prelude.{find, slice_get, slice_set, is_some, Option, Some, Result}
use Rattle.ch_base.specs.declared.address.Address.{Address}
use Rattle.ch_model.specs.declared.entry.Entry.{Entry}
use Rattle.ch_model.specs.declared.entry.Entry.TheVariants as entries
use Rattle.ch_model.specs.declared.line.Line.{Line}
use Rattle.ch_model.specs.declared.name.End.TheVariants.{O}
use Rattle.ch_model.specs.declared.name.SockName.{SockName}
use Rattle.ch_model.specs.declared.step.SocketEvent.TheVariants as sockets
use Rattle.ch_model.specs.declared.step.Step.{Step}
use Rattle.ch_model.specs.declared.step.Weight.{Weight}
use Rattle.ch_model.specs.CellSteps.{told_steps}
use Rattle.ch_model.specs.Host.{host_on, host_next}
use Rattle.ch_model.specs.HostCalls.{host_connect, host_send, host_close}
use Rattle.ch_model.specs.HostState.{HostState}
use Rattle.ch_model.specs.Stages.{Stage, Pending, Open, Ended, is_pending, is_ended}
use Rattle.ch_model.specs.WorldHappenings.{with_cell}
use Rattle.ch_model.specs.WorldLines.{can_join}
use Rattle.ch_model.specs.WorldSockets.{opened, is_socket_named}
use Rattle.ch_model.specs.WorldState.{Cell, WorldSocket, World}
use Rattle.ch_laws_bytes.proofs.Lines.{own_of}
use Rattle.ch_laws_bytes.proofs.Told.{end_names, told_names}
use Rattle.ch_laws_calls.specs.Calls.{with_host, done_at, IsCalled, IsIn, joined_in}
use Rattle.ch_laws_calls.specs.Sound.{Sound}
use Rattle.ch_laws_ends.proofs.Changes.{cells_stay, told_cells}
use Rattle.ch_laws_ends.proofs.Found.{EachFound, each_kept}
use Rattle.ch_laws_ends.proofs.Known.{Sorted, keeps_sorted}
use Rattle.ch_laws_ends.proofs.Places.{got_same}
use Rattle.ch_laws_links.specs.Naming.{IsNaming}
use Rattle.ch_laws_log.specs.HostEnds.{IsSound, Tells, AllTold}
use Rattle.ch_laws_log.proofs.HostEventsTold as told_events
use Rattle.ch_laws_log.proofs.HostItemsTold as told_items
use Rattle.ch_laws_reads.specs.Reads.{Reads, AllRead}
use Rattle.ch_laws_reads.proofs.HostEventsRead as read_events
use Rattle.ch_laws_reads.proofs.HostItemsRead as read_items
use Rattle.ch_laws_writes.specs.Orderly.{IsOrderly}
use Rattle.ch_laws_calls.specs.FitsFit.{Fit}
use Rattle.ch_laws_calls.specs.FitsTurns.{NoDials, Turn, Carries}
use Rattle.ch_laws_calls.proofs.FitsCalls.{AllTurned, connected, sent, closed}
use Rattle.ch_laws_calls.proofs.FitsEvents.{ended_turned, joined_turned, AllAlone, joined_alone}
use Rattle.ch_laws_calls.proofs.FitsItems.{next_turned}
use Rattle.ch_laws_calls.proofs.FitsSockets.{WasThere, opened_goes, none_first_goes, told_goes}
use Rattle.ch_laws_calls.proofs.FitsTold.{carries_on, hosts_hold, there_fits, call_fits}

-- ---- what was done

turn_of : {E : Type 0} (own : ℕ → Address) (host after : HostState) (told : List Step) (done : Result (List Step × HostState) E) → AllTurned own host done → done ≡ Ok (told, after) → (end : ℕ) × (peer : Address) × Turn own host end peer told after
turn_of own host after told done t e = subst (AllTurned own host) e t

reads_of_done : {E : Type 0} (host after : HostState) (told : List Step) (done : Result (List Step × HostState) E) → AllRead host done → done ≡ Ok (told, after) → IsSound host → Reads host told after
reads_of_done host after told done r e = subst (AllRead host) e r

tells_of_done : {E : Type 0} (host after : HostState) (told : List Step) (done : Result (List Step × HostState) E) → AllTold host done → done ≡ Ok (told, after) → IsSound host → Tells host told after
tells_of_done host after told done t e = subst (AllTold host) e t

-- the host after is naming, as the world after says
later_naming : (journal : List Line) (log : List Entry) (before : World) (place : ℕ) (cell : Cell × ℕ) (told : List Step) (host : HostState) → slice_get before.cells place ≡ Some cell → Sound journal log (done_at place cell told host before).1 → IsNaming host
later_naming journal log before place cell told host at q = (q.links.naming place (with_host cell host, cell.1) (ap (λ (l : List (Cell × ℕ)). slice_get l place) (told_cells place (with_host cell host) (told_steps told) (with_cell place (with_host cell host, cell.1) before)) ∙ got_same before.cells place cell (with_host cell host, cell.1) at)).naming

-- a host of a sound world is orderly
orderly : (journal : List Line) (log : List Entry) (world : World) (place : ℕ) (cell : Cell × ℕ) → Sound journal log world → slice_get world.cells place ≡ Some cell → IsOrderly (own_of journal place) cell.0.host
orderly journal log world place cell p at = p.ends.flowing.orderly place cell at

-- ---- calls

done_fits : {E : Type 0} (journal : List Line) (log more : List Entry) (world : World) (place : ℕ) (cell : Cell × ℕ) (told : List Step) (host : HostState) (done : Result (List Step × HostState) E) → slice_get world.cells place ≡ Some cell → done ≡ Ok (told, host) → Sound journal log world → Fit journal log world → Sound journal more (done_at place cell told host world).1
    → AllTurned (own_of journal place) cell.0.host done → AllRead cell.0.host done → AllTold cell.0.host done → Fit journal more (done_at place cell told host world).1
done_fits journal log more world place cell told host done at is p j q turned read tells = call_fits journal log more world place cell told host
    (record {
      at = at;
      sure = p.ends.sure;
      flowing = p.ends.flowing;
      fit = j;
      before = (p.links.naming place cell at).naming;
      later = later_naming journal more world place cell told host at q;
      reads = reads_of_done cell.0.host host told done read is (orderly journal log world place cell p at).sound;
      turn = turn_of (own_of journal place) cell.0.host host told done turned is;
    })
    (tells_of_done cell.0.host host told done tells is (orderly journal log world place cell p at).sound).new

pub connected_fits : (journal : List Line) (log more : List Entry) (world : World) (place : ℕ) (cell : Cell × ℕ) (end : ℕ) (peer : Address) (conn : ℕ) (told : List Step) (host : HostState) → slice_get world.cells place ≡ Some cell → host_connect cell.0.host end peer conn ≡ Ok (told, host) → Sound journal log world → Fit journal log world → Sound journal more (done_at place cell told host world).1 → Fit journal more (done_at place cell told host world).1
connected_fits journal log more world place cell end peer conn told host at is p j q = done_fits journal log more world place cell told host (host_connect cell.0.host end peer conn) at is p j q (connected (own_of journal place) cell.0.host end peer conn (orderly journal log world place cell p at) (j.hosts place cell at)) (read_items.connected cell.0.host end peer conn) (told_items.connected cell.0.host end peer conn)

pub sent_fits : (journal : List Line) (log more : List Entry) (world : World) (place : ℕ) (cell : Cell × ℕ) (end conn : ℕ) (payload : List ℕ) (weight : Weight) (told : List Step) (host : HostState) → slice_get world.cells place ≡ Some cell → host_send cell.0.host end conn payload weight ≡ Ok (told, host) → Sound journal log world → Fit journal log world → Sound journal more (done_at place cell told host world).1 → Fit journal more (done_at place cell told host world).1
sent_fits journal log more world place cell end conn payload weight told host at is p j q = done_fits journal log more world place cell told host (host_send cell.0.host end conn payload weight) at is p j q (sent (own_of journal place) cell.0.host end conn payload weight (orderly journal log world place cell p at) (j.hosts place cell at)) (read_items.sent cell.0.host end conn payload weight) (told_items.sent cell.0.host end conn payload weight)

pub closed_fits : (journal : List Line) (log more : List Entry) (world : World) (place : ℕ) (cell : Cell × ℕ) (end conn : ℕ) (told : List Step) (host : HostState) → slice_get world.cells place ≡ Some cell → host_close cell.0.host end conn ≡ Ok (told, host) → Sound journal log world → Fit journal log world → Sound journal more (done_at place cell told host world).1 → Fit journal more (done_at place cell told host world).1
closed_fits journal log more world place cell end conn told host at is p j q = done_fits journal log more world place cell told host (host_close cell.0.host end conn) at is p j q (closed (own_of journal place) cell.0.host end conn (orderly journal log world place cell p at) (j.hosts place cell at)) (read_items.closed_conn cell.0.host end conn) (told_items.closed_conn cell.0.host end conn)

pub ended_fits : (journal : List Line) (log more : List Entry) (world : World) (place : ℕ) (cell : Cell × ℕ) (n : ℕ) (told : List Step) (host : HostState) → IsCalled world place cell (sockets.Ended n) told host → Sound journal log world → Fit journal log world → Sound journal more (done_at place cell told host world).1 → Fit journal more (done_at place cell told host world).1
ended_fits journal log more world place cell n told host c p j q = done_fits journal log more world place cell told host (host_on cell.0.host (sockets.Ended n)) c.at c.does p j q (ended_turned (own_of journal place) cell.0.host n (orderly journal log world place cell p c.at) (j.hosts place cell c.at)) (read_events.event_read cell.0.host (sockets.Ended n)) (told_events.event_told cell.0.host (sockets.Ended n) refl)

pub item_fits : (journal : List Line) (log more : List Entry) (world : World) (place : ℕ) (cell : Cell × ℕ) (told : List Step) (host : HostState) → slice_get world.cells place ≡ Some cell → host_next cell.0.host ≡ Ok (Some told, host) → Sound journal log world → Fit journal log world → Sound journal more (done_at place cell told host world).1 → Fit journal more (done_at place cell told host world).1
item_fits journal log more world place cell told host at is p j q = call_fits journal log more world place cell told host
    (record {
      at = at;
      sure = p.ends.sure;
      flowing = p.ends.flowing;
      fit = j;
      before = (p.links.naming place cell at).naming;
      later = later_naming journal more world place cell told host at q;
      reads = read_items.next_told cell.0.host host told sound is;
      turn = next_turned (own_of journal place) cell.0.host host told (p.links.naming place cell at).naming (orderly journal log world place cell p at) (j.hosts place cell at) is;
    })
    (told_items.next_told cell.0.host host told sound is).new
  where
    sound : IsSound cell.0.host
    sound = (orderly journal log world place cell p at).sound

-- ---- an opener's end is joined

pub joined_fits : (journal : List Line) (log more : List Entry) (world : World) (socket : WorldSocket) (place n : ℕ) (cell : Cell × ℕ) (told : List Step) (host : HostState) → IsIn socket world → can_join socket ≡ true → IsCalled world place cell (sockets.Joined n) told host → Sound journal log world → Fit journal log world → Sound journal more (done_at place cell told host (joined_in socket world)).1 → Fit journal more (done_at place cell told host (joined_in socket world)).1
joined_fits journal log more world socket place n cell told host is can c p j q = record {
  hosts = hosts_hold world after place cell (with_host cell host, cell.1) c.at cells j.hosts carries.holds;
  ends = λ s w e found may. there_fits journal log world after place cell (with_host cell host, cell.1) told p.ends.sure p.ends.flowing j c.at cells names carries s w e (were s w found) may;
} where
  open_world : World
  open_world = joined_in socket world

  kept : World
  kept = with_cell place (with_host cell host, cell.1) open_world

  after : World
  after = (done_at place cell told host open_world).1

  pending : is_pending socket.o.stage ≡ true
  pending = (and_parts (is_pending socket.o.stage) (is_some socket.t.cell) can).0

  stay : open_world.cells ≡ world.cells
  stay = cells_stay socket.name O opened world

  cells : after.cells ≡ slice_set world.cells place (with_host cell host, cell.1)
  cells = told_cells place (with_host cell host) (told_steps told) kept ∙ ap (λ (l : List (Cell × ℕ)). slice_set l place (with_host cell host, cell.1)) stay

  names : after.names ≡ world.names
  names = told_names place (with_host cell host) (told_steps told) kept ∙ end_names socket.name O opened world

  turned : (end : ℕ) × (peer : Address) × Turn (own_of journal place) cell.0.host end peer told host
  turned = turn_of (own_of journal place) cell.0.host host told (host_on cell.0.host (sockets.Joined n)) (joined_turned (own_of journal place) cell.0.host n (orderly journal log world place cell p c.at) (j.hosts place cell c.at)) c.does

  carries : Carries (own_of journal place) cell.0.host told host
  carries = carries_on journal log world place cell told host (record {
    at = c.at;
    sure = p.ends.sure;
    flowing = p.ends.flowing;
    fit = j;
    before = (p.links.naming place cell c.at).naming;
    later = later_naming journal more open_world place cell told host (ap (λ (l : List (Cell × ℕ)). slice_get l place) stay ∙ c.at) q;
    reads = reads_of_done cell.0.host host told (host_on cell.0.host (sockets.Joined n)) (read_events.event_read cell.0.host (sockets.Joined n)) c.does (orderly journal log world place cell p c.at).sound;
    turn = turned;
  })

  sorted : Sorted journal (log ++ entries.Joined socket.name ∷ []) open_world
  sorted = (keeps_sorted journal).joined log world socket is pending p.ends.sure.ends.sorted

  each : EachFound open_world.sockets
  each = each_kept socket.name O opened world (λ end. (refl, refl)) p.ends.sure.ends.each

  alone : NoDials told
  alone = subst AllAlone c.does (joined_alone cell.0.host n)

  not_ended : (stage : Stage) → is_pending stage ≡ true → is_ended stage ≡ false
  not_ended Pending e = refl
  not_ended Open e = refl
  not_ended Ended e = absurd cc

  live : (old : WorldSocket) → find (is_socket_named socket.name) world.sockets ≡ Some old → is_ended old.o.stage ≡ false
  live old found = let same : ◌≡◌ {A = Option WorldSocket} (Some socket) (Some old) = sym is ∙ found in subst (λ (w : WorldSocket). is_ended w.o.stage ≡ false) (one same) (not_ended socket.o.stage pending) where
    one : ◌≡◌ {A = Option WorldSocket} (Some socket) (Some old) → socket ≡ old
    one e = cc

  were : (s : SockName) (w : WorldSocket) → find (is_socket_named s) after.sockets ≡ Some w → WasThere place told world s w
  were s w found =
      let later = told_goes journal place (with_host cell host) told (log ++ entries.Joined socket.name ∷ []) kept ((keeps_sorted journal).cell (log ++ entries.Joined socket.name ∷ []) open_world place (with_host cell host, cell.1) sorted) each alone s w found in
      let first = opened_goes place socket.name O world live s later.before later.found in
      record { before = first.before; found = first.found; goes = none_first_goes place told first.before later.before w first.goes later.goes }
