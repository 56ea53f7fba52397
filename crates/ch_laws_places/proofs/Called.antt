-- What the calls of hosts keep: that the places stand by their items.
use Rattle.std.proofs.Common.{◌≡◌, ◌⊎◌, inl, inr, ℕ, true, false, List, [], ◌∷◌, ◌++◌, Ok, refl, sym, ap, ◌∙◌, subst}
use Rattle.std.proofs.lemmas.Bool.{and_parts}
use Rattle.std.specs.Prelude.{find, slice_get, slice_set, is_some, Option, Some, Result}
use Rattle.ch_base.specs.declared.address.Address.{Address}
use Rattle.ch_model.specs.declared.entry.Entry.{Entry}
use Rattle.ch_model.specs.declared.entry.Entry.TheVariants as entries
use Rattle.ch_model.specs.declared.line.Line.{Line}
use Rattle.ch_model.specs.declared.name.End.TheVariants.{O}
use Rattle.ch_model.specs.declared.name.SockName.{SockName}
use Rattle.ch_model.specs.declared.step.SocketEvent.TheVariants as sockets
use Rattle.ch_model.specs.declared.step.Step.{Step}
use Rattle.ch_model.specs.declared.step.Step.TheVariants as steps
use Rattle.ch_model.specs.declared.step.Weight.{Weight}
use Rattle.ch_model.specs.CellSteps.{told_steps}
use Rattle.ch_model.specs.Host.{host_on, host_next}
use Rattle.ch_model.specs.HostCalls.{host_connect, host_send, host_close}
use Rattle.ch_model.specs.HostState.{HostState}
use Rattle.ch_model.specs.Stages.{Stage, Pending, Open, Ended, is_pending, is_ended}
use Rattle.ch_model.specs.WorldHappenings.{with_cell}
use Rattle.ch_model.specs.WorldLines.{can_join}
use Rattle.ch_model.specs.WorldSockets.{opened, is_socket_named}
use Rattle.ch_model.specs.WorldState.{Cell, WorldSocket, World}
use Rattle.ch_laws_bytes.proofs.Lines.{own_of}
use Rattle.ch_laws_bytes.proofs.Told.{end_names, told_names}
use Rattle.ch_laws_calls.specs.Calls.{with_host, done_at, IsCalled, IsIn, joined_in}
use Rattle.ch_laws_calls.specs.Sound.{Sound}
use Rattle.ch_laws_ends.proofs.Changes.{cells_stay, told_cells}
use Rattle.ch_laws_ends.proofs.Found.{EachFound, each_kept}
use Rattle.ch_laws_ends.proofs.Known.{Sorted, keeps_sorted}
use Rattle.ch_laws_log.specs.HostEnds.{IsSound, Tells, AllTold}
use Rattle.ch_laws_log.proofs.HostEventsTold as told_events
use Rattle.ch_laws_log.proofs.HostItemsTold as told_items
use Rattle.ch_laws_reads.specs.Reads.{Reads, AllRead}
use Rattle.ch_laws_reads.proofs.HostEventsRead as read_events
use Rattle.ch_laws_reads.proofs.HostItemsRead as read_items
use Rattle.ch_laws_writes.specs.Dues.{Due, due_at, AllDue}
use Rattle.ch_laws_writes.specs.Orderly.{IsOrderly, AllWrite}
use Rattle.ch_laws_writes.proofs.Calls as write_calls
use Rattle.ch_laws_writes.proofs.Events as write_events
use Rattle.ch_laws_writes.proofs.Items as write_items
use Rattle.ch_laws_calls.specs.FitsTurns.{NoDials, DialsAlone}
use Rattle.ch_laws_calls.proofs.FitsEvents.{AllAlone, joined_alone}
use Rattle.ch_laws_calls.proofs.FitsStores.{no_dials}
use Rattle.ch_laws_places.specs.Places.{Placed}
use Rattle.ch_laws_places.specs.Said.{said_at, AllSaid, Says, AllSay, Written}
use Rattle.ch_laws_places.proofs.Calls as own_calls
use Rattle.ch_laws_places.proofs.Ends.{Calls}
use Rattle.ch_laws_places.proofs.Items as own_items
use Rattle.ch_laws_places.proofs.Sockets.{WasThere, opened_goes, none_first_goes, told_goes}
use Rattle.ch_laws_places.proofs.Told.{alone_split, hosts_placed, there_placed, call_placed}
use Rattle.ch_laws_places.proofs.Waits.{Undialed}
use Rattle.ch_laws_places.proofs.Writes.{none_written, all_written}

-- ---- what was done

says_of_done : {E : Type 0} (due : ℕ → Option Due) (after : HostState) (told : List Step) (done : Result (List Step × HostState) E) → AllSay due done → done ≡ Ok (told, after) → Says due told after
says_of_done due after told done s e = subst (AllSay due) e s

due_of_done : {E : Type 0} (own : ℕ → Address) (host after : HostState) (told : List Step) (done : Result (List Step × HostState) E) → AllWrite own (due_at host) done → done ≡ Ok (told, after) → (n : ℕ) → AllDue own n told (due_at host n)
due_of_done own host after told done w e = (subst (AllWrite own (due_at host)) e w).writes.due

reads_of_done : {E : Type 0} (host after : HostState) (told : List Step) (done : Result (List Step × HostState) E) → AllRead host done → done ≡ Ok (told, after) → IsSound host → Reads host told after
reads_of_done host after told done r e = subst (AllRead host) e r

tells_of_done : {E : Type 0} (host after : HostState) (told : List Step) (done : Result (List Step × HostState) E) → AllTold host done → done ≡ Ok (told, after) → IsSound host → Tells host told after
tells_of_done host after told done t e = subst (AllTold host) e t

-- what is said where it was due is items with their places
all_said : (own : ℕ → Address) (due : ℕ → Option Due) (told : List Step) → DialsAlone told → ((n : ℕ) → AllDue own n told (due n)) → AllSaid due told → (n : ℕ) → Written own (due n) (said_at n told)
all_said own due told alone all said n = by_split (alone_split told alone) where
  by_split : NoDials told ⊎ ((sock : ℕ) × (end : ℕ) × (peer : Address) × (told ≡ steps.Dial sock end peer ∷ [])) → Written own (due n) (said_at n told)
  by_split (inl none) = all_written own due n told (due n) none (λ h. h) (all n) said
  by_split (inr d) = subst (λ (l : List Step). Written own (due n) (said_at n l)) (sym d.3) (none_written own (due n))

-- a host of a sound world is orderly
orderly : (journal : List Line) (log : List Entry) (world : World) (place : ℕ) (cell : Cell × ℕ) → Sound journal log world → slice_get world.cells place ≡ Some cell → IsOrderly (own_of journal place) cell.0.host
orderly journal log world place cell p at = p.ends.flowing.orderly place cell at

-- ---- calls

done_placed : {E : Type 0} (journal : List Line) (log more : List Entry) (world : World) (place : ℕ) (cell : Cell × ℕ) (told : List Step) (host : HostState) (done : Result (List Step × HostState) E) → slice_get world.cells place ≡ Some cell → done ≡ Ok (told, host) → Sound journal log world → Placed journal log world
    → AllSay (due_at cell.0.host) done → AllWrite (own_of journal place) (due_at cell.0.host) done → AllRead cell.0.host done → AllTold cell.0.host done → Placed journal more (done_at place cell told host world).1
done_placed journal log more world place cell told host done at is p j say write read tells = call_placed journal log more world place cell told host
    (record {
      at = at;
      sure = p.ends.sure;
      flowing = p.ends.flowing;
      placed = j;
      calls = record {
        reads = reads_of_done cell.0.host host told done read is (orderly journal log world place cell p at).sound;
        writes = all_said (own_of journal place) (due_at cell.0.host) told says.alone (due_of_done (own_of journal place) cell.0.host host told done write is) says.said;
      };
      waits = says.placed;
      alone = says.alone;
    })
    (tells_of_done cell.0.host host told done tells is (orderly journal log world place cell p at).sound).new
  where
    says : Says (due_at cell.0.host) told host
    says = says_of_done (due_at cell.0.host) host told done say is

pub connected_placed : (journal : List Line) (log more : List Entry) (world : World) (place : ℕ) (cell : Cell × ℕ) (end : ℕ) (peer : Address) (conn : ℕ) (told : List Step) (host : HostState) → slice_get world.cells place ≡ Some cell → host_connect cell.0.host end peer conn ≡ Ok (told, host) → Sound journal log world → Placed journal log world → Placed journal more (done_at place cell told host world).1
connected_placed journal log more world place cell end peer conn told host at is p j = let o = orderly journal log world place cell p at in done_placed journal log more world place cell told host (host_connect cell.0.host end peer conn) at is p j (own_calls.connected (own_of journal place) cell.0.host end peer conn o (j.hosts place cell at)) (write_calls.connected (own_of journal place) cell.0.host end peer conn o) (read_items.connected cell.0.host end peer conn) (told_items.connected cell.0.host end peer conn)

pub sent_placed : (journal : List Line) (log more : List Entry) (world : World) (place : ℕ) (cell : Cell × ℕ) (end conn : ℕ) (payload : List ℕ) (weight : Weight) (told : List Step) (host : HostState) → slice_get world.cells place ≡ Some cell → host_send cell.0.host end conn payload weight ≡ Ok (told, host) → Sound journal log world → Placed journal log world → Placed journal more (done_at place cell told host world).1
sent_placed journal log more world place cell end conn payload weight told host at is p j = let o = orderly journal log world place cell p at in done_placed journal log more world place cell told host (host_send cell.0.host end conn payload weight) at is p j (own_calls.sent (own_of journal place) cell.0.host end conn payload weight o (j.hosts place cell at)) (write_calls.sent (own_of journal place) cell.0.host end conn payload weight o) (read_items.sent cell.0.host end conn payload weight) (told_items.sent cell.0.host end conn payload weight)

pub closed_placed : (journal : List Line) (log more : List Entry) (world : World) (place : ℕ) (cell : Cell × ℕ) (end conn : ℕ) (told : List Step) (host : HostState) → slice_get world.cells place ≡ Some cell → host_close cell.0.host end conn ≡ Ok (told, host) → Sound journal log world → Placed journal log world → Placed journal more (done_at place cell told host world).1
closed_placed journal log more world place cell end conn told host at is p j = let o = orderly journal log world place cell p at in done_placed journal log more world place cell told host (host_close cell.0.host end conn) at is p j (own_calls.closed (own_of journal place) cell.0.host end conn o (j.hosts place cell at)) (write_calls.closed_conn (own_of journal place) cell.0.host end conn o) (read_items.closed_conn cell.0.host end conn) (told_items.closed_conn cell.0.host end conn)

pub ended_placed : (journal : List Line) (log more : List Entry) (world : World) (place : ℕ) (cell : Cell × ℕ) (n : ℕ) (told : List Step) (host : HostState) → IsCalled world place cell (sockets.Ended n) told host → Sound journal log world → Placed journal log world → Placed journal more (done_at place cell told host world).1
ended_placed journal log more world place cell n told host c p j = let o = orderly journal log world place cell p c.at in done_placed journal log more world place cell told host (host_on cell.0.host (sockets.Ended n)) c.at c.does p j (own_items.ended (own_of journal place) cell.0.host n o (j.hosts place cell c.at)) (write_events.event_writes (own_of journal place) cell.0.host (sockets.Ended n) o tt) (read_events.event_read cell.0.host (sockets.Ended n)) (told_events.event_told cell.0.host (sockets.Ended n) refl)

pub item_placed : (journal : List Line) (log more : List Entry) (world : World) (place : ℕ) (cell : Cell × ℕ) (told : List Step) (host : HostState) → slice_get world.cells place ≡ Some cell → host_next cell.0.host ≡ Ok (Some told, host) → Sound journal log world → Placed journal log world → Placed journal more (done_at place cell told host world).1
item_placed journal log more world place cell told host at is p j = call_placed journal log more world place cell told host
    (record {
      at = at;
      sure = p.ends.sure;
      flowing = p.ends.flowing;
      placed = j;
      calls = record {
        reads = read_items.next_told cell.0.host host told o.sound is;
        writes = all_said (own_of journal place) (due_at cell.0.host) told (no_dials told read.alone) (write_items.next_writes (own_of journal place) cell.0.host host told o is).writes.due read.said;
      };
      waits = read.placed;
      alone = no_dials told read.alone;
    })
    (told_items.next_told cell.0.host host told o.sound is).new
  where
    o : IsOrderly (own_of journal place) cell.0.host
    o = orderly journal log world place cell p at

    read : Undialed (due_at cell.0.host) told host
    read = own_items.next_read (own_of journal place) cell.0.host host told (p.links.naming place cell at).naming o (j.hosts place cell at) is

-- ---- an opener's end is joined

pub joined_placed : (journal : List Line) (log more : List Entry) (world : World) (socket : WorldSocket) (place n : ℕ) (cell : Cell × ℕ) (told : List Step) (host : HostState) → IsIn socket world → can_join socket ≡ true → IsCalled world place cell (sockets.Joined n) told host → Sound journal log world → Placed journal log world → Placed journal more (done_at place cell told host (joined_in socket world)).1
joined_placed journal log more world socket place n cell told host is can c p j = record {
  hosts = hosts_placed world after place cell (with_host cell host, cell.1) c.at cells j.hosts says.placed;
  ends = λ s w e found may. there_placed journal log world after place cell (with_host cell host, cell.1) told p.ends.sure p.ends.flowing j c.at cells names calls s w e (were s w found) may;
} where
  open_world : World
  open_world = joined_in socket world

  kept : World
  kept = with_cell place (with_host cell host, cell.1) open_world

  after : World
  after = (done_at place cell told host open_world).1

  o : IsOrderly (own_of journal place) cell.0.host
  o = orderly journal log world place cell p c.at

  pending : is_pending socket.o.stage ≡ true
  pending = (and_parts (is_pending socket.o.stage) (is_some socket.t.cell) can).0

  cells : after.cells ≡ slice_set world.cells place (with_host cell host, cell.1)
  cells = told_cells place (with_host cell host) (told_steps told) kept ∙ ap (λ (l : List (Cell × ℕ)). slice_set l place (with_host cell host, cell.1)) (cells_stay socket.name O opened world)

  names : after.names ≡ world.names
  names = told_names place (with_host cell host) (told_steps told) kept ∙ end_names socket.name O opened world

  says : Says (due_at cell.0.host) told host
  says = says_of_done (due_at cell.0.host) host told (host_on cell.0.host (sockets.Joined n)) (own_items.joined cell.0.host n (j.hosts place cell c.at)) c.does

  calls : Calls (own_of journal place) cell.0.host told host
  calls = record {
    reads = reads_of_done cell.0.host host told (host_on cell.0.host (sockets.Joined n)) (read_events.event_read cell.0.host (sockets.Joined n)) c.does o.sound;
    writes = all_said (own_of journal place) (due_at cell.0.host) told says.alone (due_of_done (own_of journal place) cell.0.host host told (host_on cell.0.host (sockets.Joined n)) (write_events.event_writes (own_of journal place) cell.0.host (sockets.Joined n) o tt) c.does) says.said;
  }

  sorted : Sorted journal (log ++ entries.Joined socket.name ∷ []) open_world
  sorted = (keeps_sorted journal).joined log world socket is pending p.ends.sure.ends.sorted

  each : EachFound open_world.sockets
  each = each_kept socket.name O opened world (λ end. (refl, refl)) p.ends.sure.ends.each

  alone : NoDials told
  alone = subst AllAlone c.does (joined_alone cell.0.host n)

  not_ended : (stage : Stage) → is_pending stage ≡ true → is_ended stage ≡ false
  not_ended Pending e = refl
  not_ended Open e = refl
  not_ended Ended e = absurd cc

  live : (old : WorldSocket) → find (is_socket_named socket.name) world.sockets ≡ Some old → is_ended old.o.stage ≡ false
  live old found = let same : ◌≡◌ {A = Option WorldSocket} (Some socket) (Some old) = sym is ∙ found in subst (λ (w : WorldSocket). is_ended w.o.stage ≡ false) (one same) (not_ended socket.o.stage pending) where
    one : ◌≡◌ {A = Option WorldSocket} (Some socket) (Some old) → socket ≡ old
    one e = cc

  were : (s : SockName) (w : WorldSocket) → find (is_socket_named s) after.sockets ≡ Some w → WasThere place told world s w
  were s w found =
      let later = told_goes journal place (with_host cell host) told (log ++ entries.Joined socket.name ∷ []) kept ((keeps_sorted journal).cell (log ++ entries.Joined socket.name ∷ []) open_world place (with_host cell host, cell.1) sorted) each alone s w found in
      let first = opened_goes place socket.name O world live s later.before later.found in
      record { before = first.before; found = first.found; goes = none_first_goes place told first.before later.before w first.goes later.goes }
