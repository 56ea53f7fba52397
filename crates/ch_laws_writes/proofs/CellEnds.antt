-- Of all that follows at a cell the steps tell how the ends of its host stand, those of an event that opens an end too.
use Rattle.std.proofs.Common.{◌≡◌, ◌≤◌, ℕ, ◌+◌, ◌*◌, Bool, true, false, cond, List, [], ◌∷◌, Ok, Err, refl, sym, ap, ◌∙◌, subst, arith}
use Rattle.std.specs.Option.{option_map}
use Rattle.std.specs.Prelude.{find, is_some, Option, Some, None, ◌==◌}
use Rattle.ch_base.specs.declared.address.Address.{Address}
use Rattle.ch_wire.specs.Spelling.{request_spelling}
use Rattle.ch_model.specs.declared.entry.Verdict.{Verdict}
use Rattle.ch_model.specs.declared.entry.Verdict.TheVariants as verdicts
use Rattle.ch_model.specs.declared.local.LocalEntry.{LocalEntry}
use Rattle.ch_model.specs.declared.local.LocalEntry.TheVariants as local
use Rattle.ch_model.specs.declared.local.LocalEvent.{LocalEvent}
use Rattle.ch_model.specs.declared.local.LocalEvent.TheVariants as events
use Rattle.ch_model.specs.declared.step.SocketEvent.TheVariants as sockets
use Rattle.ch_model.specs.declared.step.Step.{Step}
use Rattle.ch_model.specs.declared.step.Step.TheVariants as steps
use Rattle.ch_model.specs.Cell.{Celled, answered, host_did, heard_as, cell_step}
use Rattle.ch_model.specs.CellSteps.{Followed, after_entries, ◌then◌, steps_on, all_items}
use Rattle.ch_model.specs.Host.{on_socket, joins, accepted, host_on, keeps}
use Rattle.ch_model.specs.HostState.{Socket, HostState}
use Rattle.ch_model.specs.HostSteps.{Stepped, still, is_socket, own_address, with_socket}
use Rattle.ch_model.specs.HostWrites.{writes}
use Rattle.ch_model.specs.Stages.{Stage, Open, is_pending, is_open}
use Rattle.ch_model.specs.WorldState.{Cell}
use Rattle.ch_laws_log.specs.HostEnds.{stage_at, stage_after_all, AreNewTo, IsSound, Tells, opens_no_end, steps_in}
use Rattle.ch_laws_log.proofs.CellTold.{cell_told}
use Rattle.ch_laws_log.proofs.HostTold.{number_found, find_stored}
use Rattle.ch_laws_items.proofs.Sockets.{number_is}
use Rattle.ch_laws_writes.specs.Dues.{due_at}
use Rattle.ch_laws_writes.specs.Orderly.{IsOrderly, AllWrite, ComesNewTo}
use Rattle.ch_laws_writes.proofs.Events.{event_writes}

-- how ends stand, by number
abbrev pub Stages : Type 0
Stages = ℕ → Option Stage

-- the socket that comes is there
abbrev pub has_after : LocalEvent → ℕ → Bool → Bool
has_after (events.Came mark sock peer_host) n b = cond (sock == n) true b
has_after (events.Socket (sockets.Came sock peer_host)) n b = cond (sock == n) true b
has_after event n b = b

-- The steps tell how ends stand, from how they stood when an end had opened.
pub record TellsFrom (before : HostState) (event : LocalEvent) (told : List LocalEntry) (after : HostState) : Type 0 where
  pub first : Stages
  pub has : (n : ℕ) → is_some (first n) ≡ has_after event n (is_some (stage_at before n))
  pub stages : (n : ℕ) → stage_at after n ≡ stage_after_all n (steps_in told) (first n)
  pub new : (n : ℕ) → AreNewTo n (steps_in told) (first n)
  pub even : (k : ℕ) → stage_after_all (2 * k + 1) (steps_in told) None ≡ None

-- ---- an event that opens none

plain : (cell after : Cell) (event : LocalEvent) (verdict : Verdict) (told : List LocalEntry) → opens_no_end event ≡ true → ((n : ℕ) (b : Bool) → has_after event n b ≡ b) → IsSound cell.host → cell_step cell event ≡ Ok ((verdict, told), after) → TellsFrom cell.host event told after.host
plain cell after event verdict told of has s e = let t : Tells cell.host (steps_in told) after.host = cell_told cell after event verdict told of s e in
    record { first = stage_at cell.host; has = λ n. sym (has n (is_some (stage_at cell.host n))); stages = t.stages; new = t.new; even = t.even }

-- ---- items alone

-- what follows where nothing was heard
items_tell : (cell after : Cell) (told : List LocalEntry) → IsSound cell.host → all_items cell ≡ Ok (told, after) → Tells cell.host (steps_in told) after.host
unfolding host_on
items_tell cell after told s e = cell_told cell after (events.Socket (sockets.Fed (2 * cell.host.dials) [])) verdicts.Nothing told refl s (by_none (find (is_socket (2 * cell.host.dials)) cell.host.sockets) (s.free cell.host.dials (self cell.host.dials))) where
  self : (n : ℕ) → n ≤ n
  self n = omega arith

  items : (done : Followed) → done ≡ Ok (told, after) → answered verdicts.Nothing (after_entries [] done) ≡ Ok ((verdicts.Nothing, told), after)
  items done is = ap (λ (d : Followed). answered verdicts.Nothing (after_entries [] d)) is

  by_none : (o : Option Socket) → o ≡ None → host_did (cond (elim o as (λ o. Bool) [
    | None ↦ false
    | Some socket ↦ is_open socket.stage
  ]) verdicts.Ok verdicts.Nothing) cell (elim o as (λ x. Stepped) [
    | None ↦ still cell.host
    | Some socket ↦ cond (is_open socket.stage) (keeps [] socket cell.host) (still cell.host)
  ]) ≡ Ok ((verdicts.Nothing, told), after)
  by_none None h = items (all_items cell) e
  by_none (Some socket) h = absurd cc

-- ---- an end that opens

abbrev told_in : Celled → List LocalEntry
told_in (Ok done) = done.0.1
told_in (Err stop) = []

abbrev after_in : Cell → Celled → Cell
after_in cell (Ok done) = done.1
after_in cell (Err stop) = cell

-- after no step or one that writes, items
after_opening : (cell after : Cell) (event : LocalEvent) (verdict given : Verdict) (told : List LocalEntry) (done : List Step) (now : HostState) → ((n : ℕ) → is_some (stage_at now n) ≡ has_after event n (is_some (stage_at cell.host n))) → IsSound now
    → (done ≡ []) → answered given (steps_on done (record cell { host = now }) then all_items) ≡ Ok ((verdict, told), after) → TellsFrom cell.host event told after.host
after_opening cell after event verdict given told done now has s none e = by_items (all_items (record cell { host = now })) refl (subst (λ (l : List Step). answered given (steps_on l (record cell { host = now }) then all_items) ≡ Ok ((verdict, told), after)) none e) where
  by_items : (items : Followed) → all_items (record cell { host = now }) ≡ items → answered given (after_entries [] items) ≡ Ok ((verdict, told), after) → TellsFrom cell.host event told after.host
  by_items (Ok items) h e =
      let t : Tells now (steps_in items.0) items.1.host = items_tell (record cell { host = now }) items.1 items.0 s h in
      let same_told : items.0 ≡ told = ap told_in e in
      let same_after : items.1 ≡ after = ap (after_in cell) e in
      subst (λ (c : Cell). TellsFrom cell.host event told c.host) same_after (subst (λ (l : List LocalEntry). TellsFrom cell.host event l items.1.host) same_told (record { first = stage_at now; has = has; stages = t.stages; new = t.new; even = t.even }))
  by_items (Err stop) h e = absurd cc

after_writing : (cell after : Cell) (event : LocalEvent) (verdict given : Verdict) (told : List LocalEntry) (sock : ℕ) (bytes : List ℕ) (now : HostState) → ((n : ℕ) → is_some (stage_at now n) ≡ has_after event n (is_some (stage_at cell.host n))) → IsSound now
    → answered given (steps_on (steps.Write sock bytes None ∷ []) (record cell { host = now }) then all_items) ≡ Ok ((verdict, told), after) → TellsFrom cell.host event told after.host
after_writing cell after event verdict given told sock bytes now has s e = by_items (all_items (record cell { host = now })) refl e where
  by_items : (items : Followed) → all_items (record cell { host = now }) ≡ items → answered given (after_entries (local.Step (steps.Write sock bytes None) ∷ []) items) ≡ Ok ((verdict, told), after) → TellsFrom cell.host event told after.host
  by_items (Ok items) h e =
      let t : Tells now (steps_in items.0) items.1.host = items_tell (record cell { host = now }) items.1 items.0 s h in
      let same_told : local.Step (steps.Write sock bytes None) ∷ items.0 ≡ told = ap told_in e in
      let same_after : items.1 ≡ after = ap (after_in cell) e in
      subst (λ (c : Cell). TellsFrom cell.host event told c.host) same_after (subst (λ (l : List LocalEntry). TellsFrom cell.host event l items.1.host) same_told
      (record { first = stage_at now; has = has; stages = t.stages; new = λ n. (tt, t.new n); even = t.even }))
  by_items (Err stop) h e = absurd cc

-- a socket is kept in place of one that is there
still_there : (new old : Socket) (host : HostState) (n : ℕ) → find (is_socket new.number) host.sockets ≡ Some old → is_some (stage_at (with_socket new host) n) ≡ is_some (stage_at host n)
still_there new old host n found = ap (λ (o : Option Socket). is_some (option_map (λ (w : Socket). w.stage) o)) (find_stored new host.sockets n) ∙ by_test (new.number == n) refl where
  by_test : (b : Bool) → (new.number == n) ≡ b → is_some (option_map (λ (w : Socket). w.stage) (cond b (Some new) (find (is_socket n) host.sockets))) ≡ is_some (stage_at host n)
  by_test true e = sym (ap (λ (o : Option Socket). is_some (option_map (λ (w : Socket). w.stage) o)) (subst (λ (m : ℕ). find (is_socket m) host.sockets ≡ Some old) (number_is new.number n e) found))
  by_test false e = refl

joined_tells : (own : ℕ → Address) (cell after : Cell) (sock : ℕ) (verdict given : Verdict) (told : List LocalEntry) → IsOrderly own cell.host → host_did given cell (on_socket is_pending sock joins cell.host) ≡ Ok ((verdict, told), after) → TellsFrom cell.host (events.Socket (sockets.Joined sock)) told after.host
unfolding host_on
joined_tells own cell after sock verdict given told o e = by_socket (find (is_socket sock) cell.host.sockets) refl (event_writes own cell.host (sockets.Joined sock) o tt) e where
  rested : host_did given cell (still cell.host) ≡ Ok ((verdict, told), after) → TellsFrom cell.host (events.Socket (sockets.Joined sock)) told after.host
  rested e = after_opening cell after (events.Socket (sockets.Joined sock)) verdict given told [] cell.host (λ n. refl) o.sound refl e

  by_user : (socket : Socket) → find (is_socket socket.number) cell.host.sockets ≡ Some socket → (user : Option (ℕ × Address)) → AllWrite own (due_at cell.host) (elim user as (λ x. Stepped) [
    | None ↦ still cell.host
    | Some user ↦ writes socket.number (request_spelling (record { target = user.1.id; from = own_address cell.host user.0 })) (with_socket (record socket { stage = Open }) cell.host)
  ]) → host_did given cell (elim user as (λ x. Stepped) [
    | None ↦ still cell.host
    | Some user ↦ writes socket.number (request_spelling (record { target = user.1.id; from = own_address cell.host user.0 })) (with_socket (record socket { stage = Open }) cell.host)
  ]) ≡ Ok ((verdict, told), after) → TellsFrom cell.host (events.Socket (sockets.Joined sock)) told after.host
  by_user socket found None w e = rested e
  by_user socket found (Some user) w e = after_writing cell after (events.Socket (sockets.Joined sock)) verdict given told socket.number (request_spelling (record { target = user.1.id; from = own_address cell.host user.0 })) (with_socket (record socket { stage = Open }) cell.host)
      (λ n. still_there (record socket { stage = Open }) socket cell.host n found) w.orderly.sound e

  by_test : (socket : Socket) → find (is_socket socket.number) cell.host.sockets ≡ Some socket → (b : Bool) → AllWrite own (due_at cell.host) (cond b (joins socket cell.host) (still cell.host)) → host_did given cell (cond b (joins socket cell.host) (still cell.host)) ≡ Ok ((verdict, told), after) → TellsFrom cell.host (events.Socket (sockets.Joined sock)) told after.host
  by_test socket found true w e = by_user socket found socket.user w e
  by_test socket found false w e = rested e

  by_socket : (x : Option Socket) → find (is_socket sock) cell.host.sockets ≡ x → AllWrite own (due_at cell.host) (elim x as (λ x. Stepped) [
    | None ↦ still cell.host
    | Some socket ↦ cond (is_pending socket.stage) (joins socket cell.host) (still cell.host)
  ]) → host_did given cell (elim x as (λ x. Stepped) [
    | None ↦ still cell.host
    | Some socket ↦ cond (is_pending socket.stage) (joins socket cell.host) (still cell.host)
  ]) ≡ Ok ((verdict, told), after) → TellsFrom cell.host (events.Socket (sockets.Joined sock)) told after.host
  by_socket None found w e = rested e
  by_socket (Some socket) found w e = by_test socket (subst (λ (n : ℕ). find (is_socket n) cell.host.sockets ≡ Some socket) (sym (number_found sock cell.host.sockets socket found)) found) (is_pending socket.stage) w e

came_has : (host : HostState) (sock : ℕ) (peer_host : List ℕ) (n : ℕ) → is_some (stage_at (with_socket (accepted sock peer_host) host) n) ≡ cond (sock == n) true (is_some (stage_at host n))
came_has host sock peer_host n = ap (λ (o : Option Socket). is_some (option_map (λ (w : Socket). w.stage) o)) (find_stored (accepted sock peer_host) host.sockets n) ∙ by_test (sock == n) where
  by_test : (b : Bool) → is_some (option_map (λ (w : Socket). w.stage) (cond b (Some (accepted sock peer_host)) (find (is_socket n) host.sockets))) ≡ cond b true (is_some (stage_at host n))
  by_test true = refl
  by_test false = refl

-- whatever event
pub cell_tells : (own : ℕ → Address) (cell after : Cell) (event : LocalEvent) (verdict : Verdict) (told : List LocalEntry) → IsOrderly own cell.host → ComesNewTo cell.host event → cell_step cell event ≡ Ok ((verdict, told), after) → TellsFrom cell.host event told after.host
unfolding host_on
cell_tells own cell after (events.Make end) verdict told o new e = plain cell after (events.Make end) verdict told refl (λ n b. refl) o.sound e
cell_tells own cell after (events.Command end by command) verdict told o new e = plain cell after (events.Command end by command) verdict told refl (λ n b. refl) o.sound e
cell_tells own cell after (events.Shut end) verdict told o new e = plain cell after (events.Shut end) verdict told refl (λ n b. refl) o.sound e
cell_tells own cell after (events.Came mark sock peer_host) verdict told o new e = after_opening cell after (events.Came mark sock peer_host) verdict verdicts.Ok told [] (with_socket (accepted sock peer_host) cell.host) (came_has cell.host sock peer_host) (event_writes own cell.host (sockets.Came sock peer_host) o new).orderly.sound refl e
cell_tells own cell after (events.Socket (sockets.Joined sock)) verdict told o new e = joined_tells own cell after sock verdict (heard_as cell.host (sockets.Joined sock)) told o e
cell_tells own cell after (events.Socket (sockets.Came sock peer_host)) verdict told o new e = after_opening cell after (events.Socket (sockets.Came sock peer_host)) verdict (heard_as cell.host (sockets.Came sock peer_host)) told [] (with_socket (accepted sock peer_host) cell.host) (came_has cell.host sock peer_host) (event_writes own cell.host (sockets.Came sock peer_host) o new).orderly.sound refl e
cell_tells own cell after (events.Socket (sockets.Refused sock)) verdict told o new e = plain cell after (events.Socket (sockets.Refused sock)) verdict told refl (λ n b. refl) o.sound e
cell_tells own cell after (events.Socket (sockets.Fed sock bytes)) verdict told o new e = plain cell after (events.Socket (sockets.Fed sock bytes)) verdict told refl (λ n b. refl) o.sound e
cell_tells own cell after (events.Socket (sockets.Ended sock)) verdict told o new e = plain cell after (events.Socket (sockets.Ended sock)) verdict told refl (λ n b. refl) o.sound e
cell_tells own cell after (events.Socket (sockets.Lost sock)) verdict told o new e = plain cell after (events.Socket (sockets.Lost sock)) verdict told refl (λ n b. refl) o.sound e
cell_tells own cell after (events.Socket (sockets.Late end peer)) verdict told o new e = plain cell after (events.Socket (sockets.Late end peer)) verdict told refl (λ n b. refl) o.sound e
