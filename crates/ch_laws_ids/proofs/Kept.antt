-- Whatever happens keeps that what each end wrote leads to the ids that its host has given there.
use Rattle.std.proofs.Common.{◌≡◌, ◌⊎◌, inl, inr, ◌≤◌, ℕ, ◌+◌, ◌*◌, Bool, true, false, cond, List, [], ◌∷◌, ◌++◌, length, drop, Ok, Err, refl, sym, ap, ◌∙◌, subst, append_assoc, arith}
use Rattle.std.proofs.lemmas.Bool.{and_parts}
use Rattle.std.proofs.lemmas.List.{append-nil}
use Rattle.std.specs.Prelude.{find, slice_get, slice_set, is_some, Option, Some, None, Result, ◌==◌}
use Rattle.ch_base.specs.declared.address.Address.{Address}
use Rattle.ch_model.specs.declared.entry.Entry.{Entry}
use Rattle.ch_model.specs.declared.entry.Entry.TheVariants as entries
use Rattle.ch_model.specs.declared.line.Line.{Line}
use Rattle.ch_model.specs.declared.name.End.{End}
use Rattle.ch_model.specs.declared.name.End.TheVariants.{O, T}
use Rattle.ch_model.specs.declared.name.SockName.{SockName}
use Rattle.ch_model.specs.declared.note.Note.{Note}
use Rattle.ch_model.specs.declared.note.Note.TheVariants as notes
use Rattle.ch_model.specs.declared.step.Place.{Place}
use Rattle.ch_model.specs.declared.step.SocketEvent.TheVariants as sockets
use Rattle.ch_model.specs.declared.step.Step.{Step}
use Rattle.ch_model.specs.declared.step.Step.TheVariants as steps
use Rattle.ch_model.specs.Host.{accepted, keeps, host_on, host_next}
use Rattle.ch_model.specs.HostCalls.{host_connect, host_send, host_close}
use Rattle.ch_model.specs.HostState.{Link, Socket, HostState}
use Rattle.ch_model.specs.HostSteps.{Stepped, still, is_socket, link_or_new, is_link, with_socket}
use Rattle.ch_model.specs.Naming.{Names}
use Rattle.ch_model.specs.NodeState.{NodeState}
use Rattle.ch_model.specs.Same.{same_socket}
use Rattle.ch_model.specs.Sockets.{writing, writings}
use Rattle.ch_model.specs.Stages.{Stage, Pending, Open, Ended, is_pending, is_open}
use Rattle.ch_model.specs.WorldHappenings.{with_cell}
use Rattle.ch_model.specs.WorldLines.{can_join}
use Rattle.ch_model.specs.WorldSockets.{end_of, with_end, opened, is_socket_named, with_socket as keep_socket, with_end_of}
use Rattle.ch_model.specs.WorldState.{Cell, WorldEnd, WorldSocket, World}
use Rattle.ch_model.specs.WorldSteps.{note_entry, place_after}
use Rattle.ch_laws_bytes.proofs.Lines.{own_of}
use Rattle.ch_laws_calls.specs.Calls.{KeepsCalls, with_host, done_at, IsCalled, IsIn, joined_in, come_in, fed_in}
use Rattle.ch_laws_calls.specs.Sound.{Sound}
use Rattle.ch_laws_ends.proofs.Changes.{cells_stay}
use Rattle.ch_laws_ends.proofs.Found.{each_kept, new_name}
use Rattle.ch_laws_ends.proofs.Known.{TargetIs, keeps_sorted}
use Rattle.ch_laws_ends.proofs.Places.{got_same, set_twice}
use Rattle.ch_laws_links.specs.Naming.{IsNaming}
use Rattle.ch_laws_links.specs.Standing.{standing_at, TellsEnds}
use Rattle.ch_laws_links.proofs.Hosts.{GoesOn, AllNaming, connect_naming, send_naming, close_naming, next_naming, event_naming, done_so}
use Rattle.ch_laws_links.proofs.Says.{risen}
use Rattle.ch_laws_log.specs.HostEnds.{IsSound}
use Rattle.ch_laws_log.proofs.HostTold as hosts
use Rattle.ch_laws_log.proofs.Stored.{number_is, number_same, same_is, find_stored}
use Rattle.ch_laws_reads.specs.Reads.{Reads, AllRead}
use Rattle.ch_laws_reads.proofs.HostEventsRead as read_events
use Rattle.ch_laws_reads.proofs.HostItemsRead as read_items
use Rattle.ch_laws_writes.specs.Dues.{Due, Answering, due_staged, due_of, due_at}
use Rattle.ch_laws_writes.specs.Orderly.{IsOrderly, WritesOn, AllWrite}
use Rattle.ch_laws_writes.proofs.Calls as writes_calls
use Rattle.ch_laws_writes.proofs.Events.{event_writes}
use Rattle.ch_laws_writes.proofs.Found.{kept_absent}
use Rattle.ch_laws_writes.proofs.Items.{next_writes}
use Rattle.ch_laws_writes.proofs.Written.{wrote_more}
use Rattle.ch_laws_calls.specs.FitsFit.{up_on, ids_of, given_at, final_in, final_at, Leads, LinkHolds, HostHolds}
use Rattle.ch_laws_calls.specs.FitsTurns.{Turn}
use Rattle.ch_laws_calls.proofs.FitsCalls as turns_calls
use Rattle.ch_laws_calls.proofs.FitsCalls.{AllTurned}
use Rattle.ch_laws_calls.proofs.FitsEnds.{IsKept}
use Rattle.ch_laws_calls.proofs.FitsEvents.{ended_turned, joined_turned}
use Rattle.ch_laws_calls.proofs.FitsItems.{next_turned}
use Rattle.ch_laws_calls.proofs.FitsTold.{end_kept, hosts_hold}
use Rattle.ch_laws_calls.proofs.FitsTurns.{carried}
use Rattle.ch_laws_calls.proofs.FitsUps.{none_up}
use Rattle.ch_laws_calls.specs.Tables.{frames_on}
use Rattle.ch_laws_ids.specs.Runs.{frames_from, Runs, RunsThere, RunsFor, AllRun}
use Rattle.ch_laws_ids.proofs.Asks.{asks_quietly, joined_short, AllShort, IsShort, short_alone, asks_joined, dials_new, dial_asks}
use Rattle.ch_laws_ids.proofs.Hosts.{Does, fits_some}
use Rattle.ch_laws_ids.proofs.Worlds.{Was, Same, same_change, none_for, HostRuns, ends_on, call_runs}

-- ---- an entry that writes nothing

pub entry_runs : (log : List Entry) (world : World) (x : Entry) → ((s : SockName) (e : End) → writing s e x ≡ None) → AllRun log world → AllRun (log ++ x ∷ []) world
entry_runs log world x none r = record {
  hosts = r.hosts;
  unopened = λ s e gone. wrote_more log x s e (none s e) ∙ r.unopened s e gone;
  ends = λ s socket e found. subst (RunsFor world.cells (end_of e socket).cell (end_of e socket).number e) (sym (wrote_more log x s e (none s e))) (r.ends s socket e found);
}

note_none : (known : Names) (last : Option Place) (note : Note) (s : SockName) (e : End) → writing s e (note_entry known last note) ≡ None
note_none known last (notes.Made process origin) s e = refl
note_none known last note s e = refl

-- ---- other sockets, in the same cells; or a cell whose host runs on and tells nothing

pub sockets_run : (log : List Entry) (world after : World) → after.cells ≡ world.cells → Same world after → AllRun log world → AllRun log after
sockets_run log world after cells same r = record {
  hosts = λ p c at. r.hosts p c (ap (λ (l : List (Cell × ℕ)). slice_get l p) (sym cells) ∙ at);
  unopened = λ s e none. r.unopened s e (same.none s none);
  ends = λ s socket e found. by_was s socket e (same.was s socket found);
} where
  by_was : (s : SockName) (socket : WorldSocket) (e : End) → Was world s socket → RunsFor after.cells (end_of e socket).cell (end_of e socket).number e (writings log s e)
  by_was s socket e w = subst (λ (m : Option ℕ). RunsFor after.cells (end_of e socket).cell m e (writings log s e)) (sym (w.number e))
      (subst (λ (k : Option ℕ). RunsFor after.cells k (end_of e w.before).number e (writings log s e)) (sym (w.cell e))
      (subst (λ (l : List (Cell × ℕ)). RunsFor l (end_of e w.before).cell (end_of e w.before).number e (writings log s e)) (sym cells) (r.ends s w.before e w.found)))

silent_on : (cells : List (Cell × ℕ)) (place : ℕ) (cell now : Cell × ℕ) (c m : Option ℕ) (which : End) (pieces : List (List ℕ)) → slice_get cells place ≡ Some cell → HostRuns cell.0.host [] now.0.host → IsKept place cell.0.host c m → RunsFor cells c m which pieces → RunsFor (slice_set cells place now) c m which pieces
silent_on cells place cell now c m which pieces at h k r = subst (RunsFor (slice_set cells place now) c m which) (ap (λ l. pieces ++ l) (none_for place c m) ∙ append-nil pieces) (ends_on cells place cell now [] c m which pieces at h k r)

pub cell_runs : (log : List Entry) (world : World) (place : ℕ) (cell now : Cell × ℕ) → slice_get world.cells place ≡ Some cell → HostRuns cell.0.host [] now.0.host → HostHolds now.0.host
    → ((s : SockName) (socket : WorldSocket) (e : End) → find (is_socket_named s) world.sockets ≡ Some socket → IsKept place cell.0.host (end_of e socket).cell (end_of e socket).number) → AllRun log world → AllRun log (with_cell place now world)
cell_runs log world place cell now at h holds kept r = record {
  hosts = hosts_hold world (with_cell place now world) place cell now at refl r.hosts holds;
  unopened = r.unopened;
  ends = λ s socket e found. silent_on world.cells place cell now (end_of e socket).cell (end_of e socket).number e (writings log s e) at h (kept s socket e found) (r.ends s socket e found);
}

still_runs : (host after : HostState) → ((n : ℕ) → due_at after n ≡ due_at host n) → ((n : ℕ) → final_at after n ≡ final_at host n) → HostRuns host [] after
still_runs host after dues finals n known which pieces found r = subst (Runs after n which) (sym (append-nil pieces)) (record {
  due = λ due e. r.due due (sym (dues n) ∙ e);
  leads = subst (λ (f : Option (List Bool)). Leads f (frames_on (frames_from pieces) [])) (sym (finals n)) r.leads;
})

-- ---- what was done

turn_of : {E : Type 0} (own : ℕ → Address) (host after : HostState) (told : List Step) (done : Result (List Step × HostState) E) → AllTurned own host done → done ≡ Ok (told, after) → (end : ℕ) × (peer : Address) × Turn own host end peer told after
turn_of own host after told done t e = subst (AllTurned own host) e t

reads_of_done : {E : Type 0} (host after : HostState) (told : List Step) (done : Result (List Step × HostState) E) → AllRead host done → done ≡ Ok (told, after) → IsSound host → Reads host told after
reads_of_done host after told done r e = subst (AllRead host) e r

writes_of_done : {E : Type 0} (own : ℕ → Address) (before : ℕ → Option Due) (after : HostState) (told : List Step) (done : Result (List Step × HostState) E) → AllWrite own before done → done ≡ Ok (told, after) → WritesOn own before told after
writes_of_done own before after told done w e = subst (AllWrite own before) e w

-- what a call of a host does, all taken together
record Done (own : ℕ → Address) (host : HostState) (told : List Step) (after : HostState) : Type 0 where
  before : IsNaming host
  later : IsNaming after
  tells : TellsEnds (standing_at host) told after
  holds : HostHolds host
  reads : Reads host told after
  writes : WritesOn own (due_at host) told after
  turn : (end : ℕ) × (peer : Address) × Turn own host end peer told after

does_of : (own : ℕ → Address) (host : HostState) (told : List Step) (after : HostState) → Done own host told after → Does own host told after
does_of own host told after d = record {
  carries = carried own host d.turn.0 d.turn.1 told after d.before d.later d.reads d.holds d.turn.2;
  writes = d.writes.writes;
  dials = dials_new host told d.turn.2.alone d.tells.right;
  asks = asks_quietly host after told d.tells d.later;
}

-- ---- a call that opens no end

all_kept : (journal : List Line) (log : List Entry) (world : World) (place : ℕ) (cell : Cell × ℕ) → Sound journal log world → slice_get world.cells place ≡ Some cell → (s : SockName) (socket : WorldSocket) (e : End) → find (is_socket_named s) world.sockets ≡ Some socket → IsKept place cell.0.host (end_of e socket).cell (end_of e socket).number
all_kept journal log world place cell p at s socket e found = end_kept journal log world s socket e place cell p.ends.sure found at

done_runs : (journal : List Line) (log more : List Entry) (world : World) (place : ℕ) (cell : Cell × ℕ) (told : List Step) (host : HostState) → slice_get world.cells place ≡ Some cell → Sound journal log world → Done (own_of journal place) cell.0.host told host → AllRun more world
    → AllRun (more ++ (done_at place cell told host world).0) (done_at place cell told host world).1
done_runs journal log more world place cell told host at p d r = call_runs journal (own_of journal place) log more world place cell told host (record {
  at = at;
  sorted = p.ends.sure.ends.sorted;
  each = p.ends.sure.ends.each;
  kept = all_kept journal log world place cell p at;
  does = does_of (own_of journal place) cell.0.host told host d;
  fresh = λ sock end peer is. dial_asks (own_of journal place) (due_at cell.0.host) (standing_at cell.0.host) host told d.writes.writes d.tells d.later sock end peer is;
}) r

orderly : (journal : List Line) (log : List Entry) (world : World) (place : ℕ) (cell : Cell × ℕ) → Sound journal log world → slice_get world.cells place ≡ Some cell → IsOrderly (own_of journal place) cell.0.host
orderly journal log world place cell p at = p.ends.flowing.orderly place cell at

naming : (journal : List Line) (log : List Entry) (world : World) (place : ℕ) (cell : Cell × ℕ) → Sound journal log world → slice_get world.cells place ≡ Some cell → IsNaming cell.0.host
naming journal log world place cell p at = (p.links.naming place cell at).naming

-- of what an endpoint asks of its host
asked_runs : {E : Type 0} (journal : List Line) (log : List Entry) (world : World) (place : ℕ) (cell : Cell × ℕ) (told : List Step) (host : HostState) (done : Result (List Step × HostState) E) → slice_get world.cells place ≡ Some cell → done ≡ Ok (told, host) → Sound journal log world → AllRun log world
    → AllNaming cell.0.host done → AllRead cell.0.host done → AllWrite (own_of journal place) (due_at cell.0.host) done → AllTurned (own_of journal place) cell.0.host done → AllRun (log ++ (done_at place cell told host world).0) (done_at place cell told host world).1
asked_runs journal log world place cell told host done at is p r names reads writes turned =
    let goes = done_so cell.0.host host told done names (naming journal log world place cell p at) is in
    done_runs journal log log world place cell told host at p (record {
      before = naming journal log world place cell p at;
      later = goes.naming;
      tells = goes.tells;
      holds = r.hosts place cell at;
      reads = reads_of_done cell.0.host host told done reads is (orderly journal log world place cell p at).sound;
      writes = writes_of_done (own_of journal place) (due_at cell.0.host) host told done writes is;
      turn = turn_of (own_of journal place) cell.0.host host told done turned is;
    }) r

item_runs : (journal : List Line) (log : List Entry) (world : World) (place : ℕ) (cell : Cell × ℕ) (told : List Step) (host : HostState) → slice_get world.cells place ≡ Some cell → host_next cell.0.host ≡ Ok (Some told, host) → Sound journal log world → AllRun log world → AllRun (log ++ (done_at place cell told host world).0) (done_at place cell told host world).1
item_runs journal log world place cell told host at is p r =
    let goes = next_naming cell.0.host host told (naming journal log world place cell p at) is in
    done_runs journal log log world place cell told host at p (record {
      before = naming journal log world place cell p at;
      later = goes.naming;
      tells = goes.tells;
      holds = r.hosts place cell at;
      reads = read_items.next_told cell.0.host host told (orderly journal log world place cell p at).sound is;
      writes = next_writes (own_of journal place) cell.0.host host told (orderly journal log world place cell p at) is;
      turn = next_turned (own_of journal place) cell.0.host host told (naming journal log world place cell p at) (orderly journal log world place cell p at) (r.hosts place cell at) is;
    }) r

ended_runs : (journal : List Line) (log more : List Entry) (world : World) (place n : ℕ) (cell : Cell × ℕ) (told : List Step) (host : HostState) → IsCalled world place cell (sockets.Ended n) told host → Sound journal log world → AllRun more world → AllRun (more ++ (done_at place cell told host world).0) (done_at place cell told host world).1
ended_runs journal log more world place n cell told host c p r =
    let goes = event_naming cell.0.host host (sockets.Ended n) told tt (naming journal log world place cell p c.at) c.does in
    done_runs journal log more world place cell told host c.at p (record {
      before = naming journal log world place cell p c.at;
      later = goes.naming;
      tells = goes.tells;
      holds = r.hosts place cell c.at;
      reads = reads_of_done cell.0.host host told (host_on cell.0.host (sockets.Ended n)) (read_events.event_read cell.0.host (sockets.Ended n)) c.does (orderly journal log world place cell p c.at).sound;
      writes = writes_of_done (own_of journal place) (due_at cell.0.host) host told (host_on cell.0.host (sockets.Ended n)) (event_writes (own_of journal place) cell.0.host (sockets.Ended n) (orderly journal log world place cell p c.at) tt) c.does;
      turn = turn_of (own_of journal place) cell.0.host host told (host_on cell.0.host (sockets.Ended n)) (ended_turned (own_of journal place) cell.0.host n (orderly journal log world place cell p c.at) (r.hosts place cell c.at)) c.does;
    }) r

-- ---- an opener's end is joined

kept_there : (world mid : World) (place : ℕ) (host : HostState) → Same world mid → ((s : SockName) (socket : WorldSocket) (e : End) → find (is_socket_named s) world.sockets ≡ Some socket → IsKept place host (end_of e socket).cell (end_of e socket).number)
    → (s : SockName) (socket : WorldSocket) (e : End) → find (is_socket_named s) mid.sockets ≡ Some socket → IsKept place host (end_of e socket).cell (end_of e socket).number
kept_there world mid place host same kept s socket e found = let w = same.was s socket found in subst (λ (m : Option ℕ). IsKept place host (end_of e socket).cell m) (sym (w.number e)) (subst (λ (k : Option ℕ). IsKept place host k (end_of e w.before).number) (sym (w.cell e)) (kept s w.before e w.found))

joined_runs : (journal : List Line) (log : List Entry) (world : World) (socket : WorldSocket) (place n : ℕ) (cell : Cell × ℕ) (told : List Step) (host : HostState) → IsIn socket world → can_join socket ≡ true → IsCalled world place cell (sockets.Joined n) told host → Sound journal log world → AllRun log world
    → let done = done_at place cell told host (joined_in socket world) in AllRun ((log ++ entries.Joined socket.name ∷ []) ++ done.0) done.1
joined_runs journal log world socket place n cell told host is can c p r = call_runs journal (own_of journal place) (log ++ entries.Joined socket.name ∷ []) (log ++ entries.Joined socket.name ∷ []) mid place cell told host (record {
  at = ap (λ (l : List (Cell × ℕ)). slice_get l place) cells ∙ c.at;
  sorted = (keeps_sorted journal).joined log world socket is (and_parts (is_pending socket.o.stage) (is_some socket.t.cell) can).0 p.ends.sure.ends.sorted;
  each = each_kept socket.name O opened world (λ end. (refl, refl)) p.ends.sure.ends.each;
  kept = kept_there world mid place cell.0.host same (all_kept journal log world place cell p c.at);
  does = record {
    carries = carried (own_of journal place) cell.0.host turn.0 turn.1 told host (naming journal log world place cell p c.at) goes.naming (reads_of_done cell.0.host host told (host_on cell.0.host (sockets.Joined n)) (read_events.event_read cell.0.host (sockets.Joined n)) c.does (orderly journal log world place cell p c.at).sound) (r.hosts place cell c.at) turn.2;
    writes = writes.writes;
    dials = inl (short_alone told short);
    asks = asks_joined cell.0.host host told n short goes.tells goes.naming;
  };
  fresh = λ sock end peer is. absurd (undialed sock end peer (subst IsShort is short));
}) (entry_runs log mid (entries.Joined socket.name) (λ s e. refl) (sockets_run log world mid cells same r))
  where
    mid : World
    mid = joined_in socket world

    cells : mid.cells ≡ world.cells
    cells = cells_stay socket.name O opened world

    same : Same world mid
    same = same_change socket.name O opened world (λ end. (refl, refl))

    goes : GoesOn (sockets.Joined n) cell.0.host told host
    goes = event_naming cell.0.host host (sockets.Joined n) told tt (naming journal log world place cell p c.at) c.does

    turn : (end : ℕ) × (peer : Address) × Turn (own_of journal place) cell.0.host end peer told host
    turn = turn_of (own_of journal place) cell.0.host host told (host_on cell.0.host (sockets.Joined n)) (joined_turned (own_of journal place) cell.0.host n (orderly journal log world place cell p c.at) (r.hosts place cell c.at)) c.does

    writes : WritesOn (own_of journal place) (due_at cell.0.host) told host
    writes = writes_of_done (own_of journal place) (due_at cell.0.host) host told (host_on cell.0.host (sockets.Joined n)) (event_writes (own_of journal place) cell.0.host (sockets.Joined n) (orderly journal log world place cell p c.at) tt) c.does

    short : IsShort told
    short = subst AllShort c.does (joined_short cell.0.host n)

    undialed : (sock end : ℕ) (peer : Address) → IsShort (steps.Dial sock end peer ∷ []) → ⊥
    undialed sock end peer s = s

-- ---- bytes are handed to an end

-- nothing is told, and no link is another; each end stands as it did
abbrev IsFed : HostState → List Step → HostState → Type 0
IsFed host told after = (told ≡ []) × (after.links ≡ host.links) × ((n : ℕ) → due_at after n ≡ due_at host n) × ((n : ℕ) → final_at after n ≡ final_at host n)

abbrev AllFed : HostState → Stepped → Type 0
AllFed host (Ok done) = IsFed host done.0 done.1
AllFed host (Err stop) = Unit {0}

fed_host : (host : HostState) (sock : ℕ) (bytes : List ℕ) → AllFed host (host_on host (sockets.Fed sock bytes))
unfolding host_on
fed_host host sock bytes = by_socket (find (is_socket sock) host.sockets) refl where
  by_test : (socket : Socket) → find (is_socket socket.number) host.sockets ≡ Some socket → (b : Bool) → AllFed host (cond b (keeps bytes socket host) (still host))
  by_test socket found true = (refl, refl, λ n. dues n (socket.number == n) refl, λ n. finals n (socket.number == n) refl) where
    there : (n : ℕ) (b : Bool) → (socket.number == n) ≡ b → find (is_socket n) (with_socket (record socket { since = socket.since ++ bytes }) host).sockets ≡ cond b (Some (record socket { since = socket.since ++ bytes })) (find (is_socket n) host.sockets)
    there n b h = hosts.find_stored (record socket { since = socket.since ++ bytes }) host.sockets n ∙ ap (λ b. cond b (Some (record socket { since = socket.since ++ bytes })) (find (is_socket n) host.sockets)) h

    same : (n : ℕ) → (socket.number == n) ≡ true → find (is_socket n) host.sockets ≡ Some socket
    same n h = subst (λ (m : ℕ). find (is_socket m) host.sockets ≡ Some socket) (number_is socket.number n h) found

    due_kept : (stage : Stage) → due_staged stage (record socket { since = socket.since ++ bytes }) ≡ due_staged stage socket
    due_kept Pending = refl
    due_kept Open = refl
    due_kept Ended = refl

    dues : (n : ℕ) (b : Bool) → (socket.number == n) ≡ b → due_at (with_socket (record socket { since = socket.since ++ bytes }) host) n ≡ due_at host n
    dues n true h = ap due_of (there n true h) ∙ due_kept socket.stage ∙ ap due_of (sym (same n h))
    dues n false h = ap due_of (there n false h)

    finals : (n : ℕ) (b : Bool) → (socket.number == n) ≡ b → final_at (with_socket (record socket { since = socket.since ++ bytes }) host) n ≡ final_at host n
    finals n true h = ap (λ (o : Option Socket). final_in o (given_at host n)) (there n true h) ∙ ap (λ (o : Option Socket). final_in o (given_at host n)) (sym (same n h))
    finals n false h = ap (λ (o : Option Socket). final_in o (given_at host n)) (there n false h)
  by_test socket found false = (refl, refl, λ n. refl, λ n. refl)

  by_socket : (x : Option Socket) → find (is_socket sock) host.sockets ≡ x → AllFed host (elim x as (λ x. Stepped) [
    | None ↦ still host
    | Some socket ↦ cond (is_open socket.stage) (keeps bytes socket host) (still host)
  ])
  by_socket None e = (refl, refl, λ n. refl, λ n. refl)
  by_socket (Some socket) e = by_test socket (subst (λ (m : ℕ). find (is_socket m) host.sockets ≡ Some socket) (sym (hosts.number_found sock host.sockets socket e)) e) (is_open socket.stage)

holds_still : (host after : HostState) → after.links ≡ host.links → HostHolds host → HostHolds after
holds_still host after links h end peer = subst (λ (l : List Link). LinkHolds (link_or_new end peer (find (is_link end peer) l))) (sym links) (h end peer)

fed_runs : (journal : List Line) (log : List Entry) (world : World) (socket : WorldSocket) (which : End) (count b : ℕ) (bytes : List ℕ) (place n : ℕ) (cell : Cell × ℕ) (told : List Step) (host : HostState) (x : Entry) → ((s : SockName) (e : End) → writing s e x ≡ None) → IsCalled world place cell (sockets.Fed n (b ∷ bytes)) told host → Sound journal log world → AllRun log world
    → let done = done_at place cell told host (fed_in which count socket world) in AllRun ((log ++ x ∷ []) ++ done.0) done.1
fed_runs journal log world socket which count b bytes place n cell told host x none c p r = subst (λ (l : List Step). let done = done_at place cell l host mid in AllRun ((log ++ x ∷ []) ++ done.0) done.1) (sym fed.0)
    (subst (λ (l : List Entry). AllRun l (with_cell place (with_host cell host, cell.1) mid)) (sym (append-nil (log ++ x ∷ [])))
    (cell_runs (log ++ x ∷ []) mid place cell (with_host cell host, cell.1) (ap (λ (l : List (Cell × ℕ)). slice_get l place) cells ∙ c.at) (still_runs cell.0.host host fed.2 fed.3) (holds_still cell.0.host host fed.1 (r.hosts place cell c.at))
    (kept_there world mid place cell.0.host same (all_kept journal log world place cell p c.at)) (entry_runs log mid x none (sockets_run log world mid cells same r))))
  where
    mid : World
    mid = fed_in which count socket world

    cells : mid.cells ≡ world.cells
    cells = cells_stay socket.name which (λ end. record end { unread = drop count end.unread }) world

    same : Same world mid
    same = same_change socket.name which (λ end. record end { unread = drop count end.unread }) world (λ end. (refl, refl))

    fed : IsFed cell.0.host told host
    fed = subst (AllFed cell.0.host) c.does (fed_host cell.0.host n (b ∷ bytes))

-- ---- a target's end comes

-- the socket of this name is the one whose end was changed, or another
came_or : (s : SockName) (e : End) (f : WorldEnd → WorldEnd) (world : World) (old : WorldSocket) (t : SockName) (socket : WorldSocket) → find (is_socket_named s) world.sockets ≡ Some old → find (is_socket_named t) (with_end_of s e f world).sockets ≡ Some socket
    → ((s ≡ t) × (with_end e (f (end_of e old)) old ≡ socket)) ⊎ (find (is_socket_named t) world.sockets ≡ Some socket)
came_or s e f world old t socket is found = by_socket (find (is_socket_named s) world.sockets) is found where
  by_name : (b : Bool) → same_socket s t ≡ b → cond b (Some (with_end e (f (end_of e old)) old)) (find (is_socket_named t) world.sockets) ≡ Some socket → ((s ≡ t) × (with_end e (f (end_of e old)) old ≡ socket)) ⊎ (find (is_socket_named t) world.sockets ≡ Some socket)
  by_name true h g = let new : with_end e (f (end_of e old)) old ≡ socket = cc in inl (same_is s t h, new)
  by_name false h g = inr g

  by_socket : (o : Option WorldSocket) → o ≡ Some old → find (is_socket_named t) (elim o as (λ o. World) [
    | None ↦ world
    | Some socket ↦ keep_socket (with_end e (f (end_of e socket)) socket) world
  ]).sockets ≡ Some socket → ((s ≡ t) × (with_end e (f (end_of e old)) old ≡ socket)) ⊎ (find (is_socket_named t) world.sockets ≡ Some socket)
  by_socket None h g = absurd cc
  by_socket (Some one) h g = let same : one ≡ old = cc in as_old (subst (λ (w : WorldSocket). find (is_socket_named t) (keep_socket (with_end e (f (end_of e w)) w) world).sockets ≡ Some socket) same g) where
    as_old : find (is_socket_named t) (keep_socket (with_end e (f (end_of e old)) old) world).sockets ≡ Some socket → ((s ≡ t) × (with_end e (f (end_of e old)) old ≡ socket)) ⊎ (find (is_socket_named t) world.sockets ≡ Some socket)
    as_old g = by_name (same_socket s t) refl (ap (λ (n : SockName). cond (same_socket n t) (Some (with_end e (f (end_of e old)) old)) (find (is_socket_named t) world.sockets)) (sym (new_name s e (f (end_of e old)) world.sockets old is)) ∙ sym (find_stored (with_end e (f (end_of e old)) old) world.sockets t) ∙ g)

came_kept : (journal : List Line) (log : List Entry) (world : World) (socket : WorldSocket) (place : ℕ) (cell : Cell × ℕ) → IsIn socket world → is_pending socket.t.stage ≡ true → socket.t.cell ≡ Some place → slice_get world.cells place ≡ Some cell → Sound journal log world → AllRun log world
    → AllRun log (done_at place (cell.0, cell.1 + 1) [] (with_socket (accepted (2 * cell.1 + 1) socket.from_host) cell.0.host) (come_in place cell socket world)).1
came_kept journal log world socket place cell is pending at_cell at p r = record {
  hosts = hosts_hold world after place cell now at cells r.hosts (r.hosts place cell at);
  unopened = λ s e none. r.unopened s e (kept_absent socket.name T comes (with_cell place (cell.0, cell.1 + 1) world) s none);
  ends = λ s w e found. by_change s w e (came_or socket.name T comes (with_cell place (cell.0, cell.1 + 1) world) socket s w is found);
} where
  number : ℕ
  number = 2 * cell.1 + 1

  kept : Socket
  kept = accepted number socket.from_host

  now : Cell × ℕ
  now = (with_host cell (with_socket kept cell.0.host), cell.1 + 1)

  comes : WorldEnd → WorldEnd
  comes end = record (opened end) { number = Some number }

  after : World
  after = (done_at place (cell.0, cell.1 + 1) [] (with_socket kept cell.0.host) (come_in place cell socket world)).1

  cells : after.cells ≡ slice_set world.cells place now
  cells = ap (λ (l : List (Cell × ℕ)). slice_set l place now) (cells_stay socket.name T comes (with_cell place (cell.0, cell.1 + 1) world)) ∙ set_twice world.cells place (cell.0, cell.1 + 1) now

  self : (n : ℕ) → n ≤ n
  self n = omega arith

  new : find (is_socket number) cell.0.host.sockets ≡ None
  new = (p.links.naming place cell at).free cell.1 (self cell.1)

  none : up_on number cell.0.host.links ≡ None
  none = none_up cell.0.host number (naming journal log world place cell p at) (λ end peer probed e. let one = risen cell.0.host end peer number probed (naming journal log world place cell p at) e in
      let no : ◌≡◌ {A = Option Socket} None (Some one.0) = sym new ∙ one.1 in absurd cc)

  -- its number is none yet
  unnumbered : socket.t.number ≡ None
  unnumbered = by_stage socket.t.stage pending (p.ends.sure.ends.sorted.1 socket.name socket is).t where
    by_stage : (stage : Stage) → is_pending stage ≡ true → TargetIs stage socket.t.cell socket.t.number → socket.t.number ≡ None
    by_stage Pending e k = k.1
    by_stage Open e k = absurd cc
    by_stage Ended e k = absurd cc

  there : find (is_socket number) (with_socket kept cell.0.host).sockets ≡ Some kept
  there = hosts.find_stored kept cell.0.host.sockets number ∙ ap (λ b. cond b (Some kept) (find (is_socket number) cell.0.host.sockets)) (number_same number)

  elsewhere : (n : ℕ) (known : Socket) → find (is_socket n) cell.0.host.sockets ≡ Some known → find (is_socket n) (with_socket kept cell.0.host).sockets ≡ find (is_socket n) cell.0.host.sockets
  elsewhere n known found = hosts.find_stored kept cell.0.host.sockets n ∙ ap (λ b. cond b (Some kept) (find (is_socket n) cell.0.host.sockets)) (by_test (number == n) refl) where
    by_test : (b : Bool) → (number == n) ≡ b → b ≡ false
    by_test false h = refl
    by_test true h = let both : ◌≡◌ {A = Option Socket} None (Some known) = sym new ∙ subst (λ (m : ℕ). find (is_socket m) cell.0.host.sockets ≡ Some known) (sym (number_is number n h)) found in absurd cc

  runs : HostRuns cell.0.host [] (with_socket kept cell.0.host)
  runs n known which pieces found run = subst (Runs (with_socket kept cell.0.host) n which) (sym (append-nil pieces)) (record {
    due = λ due e. run.due due (sym (ap due_of (elsewhere n known found)) ∙ e);
    leads = subst (λ (o : Option Socket). Leads (final_in o (given_at cell.0.host n)) (frames_on (frames_from pieces) [])) (sym (elsewhere n known found)) run.leads;
  })

  others : (w : WorldSocket) (e : End) (pieces : List (List ℕ)) → IsKept place cell.0.host (end_of e w).cell (end_of e w).number → RunsFor world.cells (end_of e w).cell (end_of e w).number e pieces → RunsFor after.cells (end_of e w).cell (end_of e w).number e pieces
  others w e pieces k run = subst (λ (l : List (Cell × ℕ)). RunsFor l (end_of e w).cell (end_of e w).number e pieces) (sym cells) (silent_on world.cells place cell now (end_of e w).cell (end_of e w).number e pieces at runs k run)

  target : (pieces : List (List ℕ)) → RunsFor world.cells socket.t.cell socket.t.number T pieces → RunsFor after.cells socket.t.cell (Some number) T pieces
  target pieces run =
      let unwritten : pieces ≡ [] = subst (λ (m : Option ℕ). RunsFor world.cells (Some place) m T pieces) unnumbered (subst (λ (c : Option ℕ). RunsFor world.cells c socket.t.number T pieces) at_cell run) in
      subst (λ (c : Option ℕ). RunsFor after.cells c (Some number) T pieces) (sym at_cell)
      (subst (λ (o : Option (Cell × ℕ)). RunsThere o number T pieces) (sym (ap (λ (l : List (Cell × ℕ)). slice_get l place) cells ∙ got_same world.cells place cell now at))
      (subst (Runs (with_socket kept cell.0.host) number T) (sym unwritten) (record {
        due = λ due e. fits_some (Some Answering) T [] (refl, refl) due (sym (ap due_of there) ∙ e);
        leads = subst (λ (f : Option (List Bool)). Leads f (Some [])) (sym (ap (λ (o : Option Socket). final_in o (given_at cell.0.host number)) there ∙ ap (λ (o : Option Link). Some (ids_of (λ (link : Link). link.given) o)) none)) refl;
      })))

  come : (s : SockName) (e : End) → socket.name ≡ s → RunsFor after.cells (end_of e (with_end T (comes socket.t) socket)).cell (end_of e (with_end T (comes socket.t) socket)).number e (writings log s e)
  come s O same = others socket O (writings log s O) (all_kept journal log world place cell p at socket.name socket O is) (subst (λ (n : SockName). RunsFor world.cells socket.o.cell socket.o.number O (writings log n O)) same (r.ends socket.name socket O is))
  come s T same = target (writings log s T) (subst (λ (n : SockName). RunsFor world.cells socket.t.cell socket.t.number T (writings log n T)) same (r.ends socket.name socket T is))

  by_change : (s : SockName) (w : WorldSocket) (e : End) → ((socket.name ≡ s) × (with_end T (comes socket.t) socket ≡ w)) ⊎ (find (is_socket_named s) world.sockets ≡ Some w) → RunsFor after.cells (end_of e w).cell (end_of e w).number e (writings log s e)
  by_change s w e (inl c) = subst (λ (w : WorldSocket). RunsFor after.cells (end_of e w).cell (end_of e w).number e (writings log s e)) c.1 (come s e c.0)
  by_change s w e (inr found) = others w e (writings log s e) (all_kept journal log world place cell p at s w e found) (r.ends s w e found)

comes_there : (host : HostState) (sock : ℕ) (peer_host : List ℕ) → host_on host (sockets.Came sock peer_host) ≡ Ok ([], with_socket (accepted sock peer_host) host)
unfolding host_on
comes_there host sock peer_host = refl

came_runs : (journal : List Line) (log : List Entry) (world : World) (socket : WorldSocket) (place : ℕ) (cell : Cell × ℕ) (told : List Step) (host : HostState) → IsIn socket world → is_pending socket.t.stage ≡ true → socket.t.cell ≡ Some place → IsCalled world place cell (sockets.Came (2 * cell.1 + 1) socket.from_host) told host → Sound journal log world → AllRun log world
    → let done = done_at place (cell.0, cell.1 + 1) told host (come_in place cell socket world) in AllRun ((log ++ entries.Came socket.name ∷ []) ++ done.0) done.1
came_runs journal log world socket place cell told host is pending at_cell c p r = as_done (host_on cell.0.host (sockets.Came (2 * cell.1 + 1) socket.from_host)) c.does (comes_there cell.0.host (2 * cell.1 + 1) socket.from_host)
  where
    Goal : List Step → HostState → Type 0
    Goal l h = let done = done_at place (cell.0, cell.1 + 1) l h (come_in place cell socket world) in AllRun ((log ++ entries.Came socket.name ∷ []) ++ done.0) done.1

    by_done : (l : List Step) (h : HostState) → ◌≡◌ {A = List Step × HostState} ([], with_socket (accepted (2 * cell.1 + 1) socket.from_host) cell.0.host) (l, h) → Goal l h
    by_done l h e = subst (λ (d : List Step × HostState). Goal d.0 d.1) e (subst (λ (all : List Entry). AllRun all (done_at place (cell.0, cell.1 + 1) [] (with_socket (accepted (2 * cell.1 + 1) socket.from_host) cell.0.host) (come_in place cell socket world)).1) (sym (append-nil (log ++ entries.Came socket.name ∷ [])))
        (entry_runs log _ (entries.Came socket.name) (λ s e. refl) (came_kept journal log world socket place cell is pending at_cell c.at p r)))

    as_done : (done : Stepped) → done ≡ Ok (told, host) → done ≡ Ok ([], with_socket (accepted (2 * cell.1 + 1) socket.from_host) cell.0.host) → Goal told host
    as_done done e f = by_done told host (one (sym f ∙ e)) where
      one : {A E : Type 0} {x y : A} → ◌≡◌ {A = Result A E} (Ok x) (Ok y) → x ≡ y
      one e = cc

-- ---- all that happens

-- what follows an entry follows the log with it
after_entry : (log : List Entry) (x : Entry) (told : List Entry) (world : World) → AllRun ((log ++ x ∷ []) ++ told) world → AllRun (log ++ x ∷ told) world
after_entry log x told world r = subst (λ (all : List Entry). AllRun all world) (append_assoc log (x ∷ []) told) r

noted_runs : (log : List Entry) (world : World) (note : Note) → AllRun log world → AllRun (log ++ note_entry world.names world.last note ∷ []) (record world { last = place_after world.last note })
noted_runs log world note r = let more = entry_runs log world (note_entry world.names world.last note) (note_none world.names world.last note) r in record { hosts = more.hosts; unopened = more.unopened; ends = more.ends }

seated_runs : (journal : List Line) (log : List Entry) (world : World) (place : ℕ) (cell : Cell × ℕ) (nodes : List (ℕ × NodeState)) → slice_get world.cells place ≡ Some cell → Sound journal log world → AllRun log world → AllRun log (with_cell place (record (cell.0) { nodes = nodes }, cell.1) world)
seated_runs journal log world place cell nodes at p r = cell_runs log world place cell (record (cell.0) { nodes = nodes }, cell.1) at (still_runs cell.0.host cell.0.host (λ n. refl) (λ n. refl)) (r.hosts place cell at) (all_kept journal log world place cell p at) r

pub runs_kept : (journal : List Line) → KeepsCalls journal (Sound journal) (Sound journal) AllRun
runs_kept journal = record {
  marked = λ log world number answer p r q. entry_runs log world (entries.Line number answer) (λ s e. refl) r;
  noted = λ log world note p r q. noted_runs log world note r;
  seated = λ log world place cell nodes at seats p r q. seated_runs journal log world place cell nodes at p r;
  connected = λ log world place cell end peer conn told host at is p r q. asked_runs journal log world place cell told host (host_connect cell.0.host end peer conn) at is p r (connect_naming cell.0.host end peer conn) (read_items.connected cell.0.host end peer conn) (writes_calls.connected (own_of journal place) cell.0.host end peer conn (orderly journal log world place cell p at)) (turns_calls.connected (own_of journal place) cell.0.host end peer conn (orderly journal log world place cell p at) (r.hosts place cell at));
  sent = λ log world place cell end conn payload weight told host at is p r q. asked_runs journal log world place cell told host (host_send cell.0.host end conn payload weight) at is p r (send_naming cell.0.host end conn payload weight) (read_items.sent cell.0.host end conn payload weight) (writes_calls.sent (own_of journal place) cell.0.host end conn payload weight (orderly journal log world place cell p at)) (turns_calls.sent (own_of journal place) cell.0.host end conn payload weight (orderly journal log world place cell p at) (r.hosts place cell at));
  closed = λ log world place cell end conn told host at is p r q. asked_runs journal log world place cell told host (host_close cell.0.host end conn) at is p r (close_naming cell.0.host end conn) (read_items.closed_conn cell.0.host end conn) (writes_calls.closed_conn (own_of journal place) cell.0.host end conn (orderly journal log world place cell p at)) (turns_calls.closed (own_of journal place) cell.0.host end conn (orderly journal log world place cell p at) (r.hosts place cell at));
  joined = λ log world socket place n cell told host is can held c read p r q. after_entry log (entries.Joined socket.name) _ _ (joined_runs journal log world socket place n cell told host is can c p r);
  came = λ log world socket place cell told host is can led c read p r q. after_entry log (entries.Came socket.name) _ _ (came_runs journal log world socket place cell told host is can led c p r);
  fed = λ log world socket which count b bytes place n cell told host is can taken held c read p r q. after_entry log (entries.Fed socket.name which (length (b ∷ bytes))) _ _ (fed_runs journal log world socket which count b bytes place n cell told host (entries.Fed socket.name which (length (b ∷ bytes))) (λ s e. refl) c p r);
  ended = λ log world socket which place n cell told host is can none held c read p r q. after_entry log (entries.Fed socket.name which 0) _ _ (ended_runs journal log (log ++ entries.Fed socket.name which 0 ∷ []) world place n cell told host c p (entry_runs log world (entries.Fed socket.name which 0) (λ s e. refl) r));
  item = λ log world place cell told host at is p r q. item_runs journal log world place cell told host at is p r;
}
