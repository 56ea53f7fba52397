-- What follows at a cell where an end of its host has opened: the steps tell how the ends stand, from the host on that has it open.
use Rattle.std.proofs.Common.{◌≡◌, ◌≤◌, ℕ, ◌+◌, ◌*◌, Bool, true, false, cond, List, [], ◌∷◌, Ok, Err, refl, sym, ap, ◌∙◌, subst, arith}
use Rattle.std.proofs.lemmas.Bool.{ne_eqb}
use Rattle.std.specs.Option.{option_map}
use Rattle.std.specs.Prelude.{find, is_some, ◌==◌, Option, Some, None}
use Rattle.ch_base.specs.declared.address.Address.{Address}
use Rattle.ch_wire.specs.Spelling.{request_spelling}
use Rattle.ch_model.specs.declared.entry.Verdict.{Verdict}
use Rattle.ch_model.specs.declared.entry.Verdict.TheVariants as verdicts
use Rattle.ch_model.specs.declared.local.LocalEntry.{LocalEntry}
use Rattle.ch_model.specs.declared.local.LocalEntry.TheVariants as local
use Rattle.ch_model.specs.declared.local.LocalEvent.TheVariants as events
use Rattle.ch_model.specs.declared.step.SocketEvent.TheVariants as sockets
use Rattle.ch_model.specs.declared.step.Step.TheVariants as steps
use Rattle.ch_model.specs.Cell.{Celled, answered, heard_as, host_did, cell_step}
use Rattle.ch_model.specs.CellSteps.{Followed, after_entries, all_items}
use Rattle.ch_model.specs.Host.{joins, accepted, host_on}
use Rattle.ch_model.specs.HostItems.{is_gone}
use Rattle.ch_model.specs.HostState.{Socket, HostState}
use Rattle.ch_model.specs.HostSteps.{Stepped, still, is_socket, own_address, with_socket}
use Rattle.ch_model.specs.HostWrites.{writes}
use Rattle.ch_model.specs.Stages.{Stage, Pending, Open, Ended, is_pending, is_open}
use Rattle.ch_model.specs.WorldState.{Cell}
use Rattle.ch_laws_items.proofs.Sockets.{stored_apart}
use Rattle.ch_laws_log.specs.HostEnds.{stage_at, IsSound, Tells, steps_in}
use Rattle.ch_laws_log.proofs.CellTold.{cell_told}
use Rattle.ch_laws_log.proofs.Stored.{number_is}
use Rattle.ch_laws_log.proofs.HostTold.{number_found, find_stored, plain_first}

-- ---- all items

-- nothing is lost of a socket that isn't there
lost_none : (host : HostState) → IsSound host → host_on host (sockets.Lost (2 * host.dials)) ≡ Ok ([], host)
unfolding host_on
lost_none host s = ap (λ (o : Option Socket). elim o as (λ o. Stepped) [
  | None ↦ still host
  | Some socket ↦ cond (is_open socket.stage) (is_gone socket host) (still host)
]) (s.free host.dials (same host.dials)) where
  same : (n : ℕ) → n ≤ n
  same n = omega arith

-- An event of a socket that isn't there does nothing but have all items handled, so the law of such events is theirs too.
pub items_told : (cell after : Cell) (told : List LocalEntry) → IsSound cell.host → all_items cell ≡ Ok (told, after) → Tells cell.host (steps_in told) after.host
items_told cell after told s e = cell_told cell after (events.Socket (sockets.Lost (2 * cell.host.dials))) verdict told refl s (ap (host_did verdict cell) (lost_none cell.host s) ∙ ap (λ (d : Followed). answered verdict (after_entries [] d)) e) where
  verdict : Verdict
  verdict = heard_as cell.host (sockets.Lost (2 * cell.host.dials))

-- ---- a host with an end that has opened

-- the host is sound, and stands as before but for that end, which is open
pub record OpensTo (host opened : HostState) (sock : ℕ) : Type 0 where
  pub sound : IsSound opened
  pub stages : (n : ℕ) → stage_at opened n ≡ cond (sock == n) (Some Open) (stage_at host n)

stored_open : (new : Socket) (host : HostState) → new.stage ≡ Open → IsSound host → ((k : ℕ) → host.dials ≤ k → (new.number == 2 * k) ≡ false) → OpensTo host (with_socket new host) new.number
stored_open new host stands s other = record {
  sound = record {
    apart = stored_apart new host.sockets s.apart;
    free = λ k l. find_stored new host.sockets (2 * k) ∙ ap (λ b. cond b (Some new) (find (is_socket (2 * k)) host.sockets)) (other k l) ∙ s.free k l;
    used = λ n socket f. by_used n socket (new.number == n) (sym (find_stored new host.sockets n) ∙ f);
  };
  stages = λ n. ap (option_map (λ (w : Socket). w.stage)) (find_stored new host.sockets n) ∙ by_stage n (new.number == n);
} where
  by_used : (n : ℕ) (socket : Socket) (b : Bool) → cond b (Some new) (find (is_socket n) host.sockets) ≡ Some socket → is_pending socket.stage ≡ true → is_some socket.user ≡ true
  by_used n socket true f p = let is : new ≡ socket = cc in let gone : is_pending Open ≡ true = subst (λ (x : Stage). is_pending x ≡ true) stands (subst (λ (w : Socket). is_pending w.stage ≡ true) (sym is) p) in absurd cc
  by_used n socket false f p = s.used n socket f p

  by_stage : (n : ℕ) (b : Bool) → option_map (λ (w : Socket). w.stage) (cond b (Some new) (find (is_socket n) host.sockets)) ≡ cond b (Some Open) (stage_at host n)
  by_stage n true = ap Some stands
  by_stage n false = refl

-- What followed where an end of the cell's host opened: it was done, and from the host on with that end open the steps tell how all ends stand.
pub record OpenedOn (cell after : Cell) (sock : ℕ) (verdict : Verdict) (told : List LocalEntry) : Type 0 where
  pub opened : HostState
  pub to : OpensTo cell.host opened sock
  pub tells : Tells opened (steps_in told) after.host
  pub done : verdict ≡ verdicts.Ok

abbrev pub AllOpenedOn : Cell → ℕ → Celled → Type 0
AllOpenedOn cell sock (Ok done) = OpenedOn cell done.1 sock done.0.0 done.0.1
AllOpenedOn cell sock (Err stop) = Unit {0}

-- ---- an end that is joined

host_joined : (host : HostState) (sock : ℕ) (socket : Socket) (user : ℕ × Address) → find (is_socket sock) host.sockets ≡ Some socket → is_pending socket.stage ≡ true → socket.user ≡ Some user
    → host_on host (sockets.Joined sock) ≡ Ok (steps.Write socket.number (request_spelling (record { target = user.1.id; from = own_address host user.0 })) None ∷ [], with_socket (record socket { stage = Open }) host)
unfolding host_on
host_joined host sock socket user found pending used = ap (λ (o : Option Socket). elim o as (λ o. Stepped) [
  | None ↦ still host
  | Some socket ↦ cond (is_pending socket.stage) (joins socket host) (still host)
]) found ∙ ap (λ b. cond b (joins socket host) (still host)) pending ∙ ap (λ (o : Option (ℕ × Address)). elim o as (λ o. Stepped) [
  | None ↦ still host
  | Some user ↦ writes socket.number (request_spelling (record { target = user.1.id; from = own_address host user.0 })) (with_socket (record socket { stage = Open }) host)
]) used

pub joined_on : (cell : Cell) (sock : ℕ) → IsSound cell.host → stage_at cell.host sock ≡ Some Pending → AllOpenedOn cell sock (cell_step cell (events.Socket (sockets.Joined sock)))
joined_on cell sock s pending = by_socket (find (is_socket sock) cell.host.sockets) refl pending where
  heard : Verdict
  heard = heard_as cell.host (sockets.Joined sock)

  is_heard_so : (socket : Socket) → find (is_socket sock) cell.host.sockets ≡ Some socket → is_pending socket.stage ≡ true → heard ≡ verdicts.Ok
  is_heard_so socket found p = ap (λ (o : Option Socket). cond (elim o as (λ o. Bool) [
    | None ↦ false
    | Some socket ↦ is_pending socket.stage
  ]) verdicts.Ok verdicts.Nothing) found ∙ ap (λ b. cond b verdicts.Ok verdicts.Nothing) p

  by_done : (socket : Socket) (bytes : List ℕ) → heard ≡ verdicts.Ok → OpensTo cell.host (with_socket (record socket { stage = Open }) cell.host) sock → (done : Followed) → all_items (record cell { host = with_socket (record socket { stage = Open }) cell.host }) ≡ done
      → AllOpenedOn cell sock (answered heard (after_entries (local.Step (steps.Write socket.number bytes None) ∷ []) done))
  by_done socket bytes ok to (Err stop) e = tt
  by_done socket bytes ok to (Ok done) e = record {
    opened = with_socket (record socket { stage = Open }) cell.host;
    to = to;
    tells = plain_first (steps.Write socket.number bytes None) tt (with_socket (record socket { stage = Open }) cell.host) done.1.host (steps_in done.0) (items_told (record cell { host = with_socket (record socket { stage = Open }) cell.host }) done.1 done.0 to.sound e);
    done = ok;
  }

  opens : (socket : Socket) → find (is_socket sock) cell.host.sockets ≡ Some socket → OpensTo cell.host (with_socket (record socket { stage = Open }) cell.host) sock
  opens socket found = subst (λ (n : ℕ). OpensTo cell.host (with_socket (record socket { stage = Open }) cell.host) n) (number_found sock cell.host.sockets socket found)
      (stored_open (record socket { stage = Open }) cell.host refl s (λ k l. by_test k l (socket.number == 2 * k) refl)) where
        by_test : (k : ℕ) → cell.host.dials ≤ k → (b : Bool) → (socket.number == 2 * k) ≡ b → b ≡ false
        by_test k l false e = refl
        by_test k l true e =
            let at : find (is_socket (2 * k)) cell.host.sockets ≡ Some socket = subst (λ (m : ℕ). find (is_socket m) cell.host.sockets ≡ Some socket) (sym (number_found sock cell.host.sockets socket found) ∙ number_is socket.number (2 * k) e) found in
            let none = s.free k l in absurd cc

  by_user : (socket : Socket) → find (is_socket sock) cell.host.sockets ≡ Some socket → is_pending socket.stage ≡ true → (user : Option (ℕ × Address)) → socket.user ≡ user → is_some user ≡ true → AllOpenedOn cell sock (cell_step cell (events.Socket (sockets.Joined sock)))
  by_user socket found p None u some = absurd cc
  by_user socket found p (Some user) u some = subst (λ (d : Celled). AllOpenedOn cell sock d) (sym (ap (host_did heard cell) (host_joined cell.host sock socket user found p u)))
      (by_done socket (request_spelling (record { target = user.1.id; from = own_address cell.host user.0 })) (is_heard_so socket found p) (opens socket found) (all_items (record cell { host = with_socket (record socket { stage = Open }) cell.host })) refl)

  is_so : (stage : Stage) → ◌≡◌ {A = Option Stage} (Some stage) (Some Pending) → is_pending stage ≡ true
  is_so Pending e = refl
  is_so Open e = absurd cc
  is_so Ended e = absurd cc

  by_socket : (o : Option Socket) → find (is_socket sock) cell.host.sockets ≡ o → option_map (λ (w : Socket). w.stage) o ≡ Some Pending → AllOpenedOn cell sock (cell_step cell (events.Socket (sockets.Joined sock)))
  by_socket None found p = absurd cc
  by_socket (Some socket) found p = by_user socket found (is_so socket.stage p) socket.user refl (s.used sock socket found (is_so socket.stage p))

-- ---- an end that comes

host_came : (host : HostState) (sock : ℕ) (peer_host : List ℕ) → host_on host (sockets.Came sock peer_host) ≡ Ok ([], with_socket (accepted sock peer_host) host)
unfolding host_on
host_came host sock peer_host = refl

pub came_on : (cell : Cell) (mark k : ℕ) (peer_host : List ℕ) → IsSound cell.host → AllOpenedOn cell (2 * k + 1) (cell_step cell (events.Came mark (2 * k + 1) peer_host))
came_on cell mark k peer_host s = subst (λ (d : Celled). AllOpenedOn cell (2 * k + 1) d) (sym (ap (host_did verdicts.Ok cell) (host_came cell.host (2 * k + 1) peer_host))) (by_done (all_items (record cell { host = opened })) refl) where
  opened : HostState
  opened = with_socket (accepted (2 * k + 1) peer_host) cell.host

  odd : (a b : ℕ) → 2 * a + 1 ≡ 2 * b → ⊥
  odd a b e = omega arith

  to : OpensTo cell.host opened (2 * k + 1)
  to = stored_open (accepted (2 * k + 1) peer_host) cell.host refl s (λ j l. ne_eqb (2 * k + 1) (2 * j) (odd k j))

  by_done : (done : Followed) → all_items (record cell { host = opened }) ≡ done → AllOpenedOn cell (2 * k + 1) (answered verdicts.Ok (after_entries [] done))
  by_done (Err stop) e = tt
  by_done (Ok done) e = record { opened = opened; to = to; tells = items_told (record cell { host = opened }) done.1 done.0 to.sound e; done = refl }
