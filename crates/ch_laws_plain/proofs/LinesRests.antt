-- A host that goes on as it was at its sockets carries on their streams; so does one whose end is joined.
use Rattle.std.proofs.Common.{◌≡◌, ℕ, Bool, true, false, cond, List, [], ◌∷◌, refl, sym, ap, ◌∙◌, subst}
use Rattle.std.specs.Prelude.{find, Option, Some, None, ◌==◌}
use Rattle.ch_base.specs.declared.address.Address.{Address}
use Rattle.ch_wire.specs.Spelling.{IsRequest, request_spelling}
use Rattle.ch_wire.specs.declared.request.Request.{Request}
use Rattle.ch_reader.specs.declared.item.Item.TheVariants as items
use Rattle.ch_model.specs.declared.step.SocketEvent.TheVariants as events
use Rattle.ch_model.specs.declared.step.Step.{Step}
use Rattle.ch_model.specs.CellSteps.{is_at}
use Rattle.ch_model.specs.Host.{joins, host_on}
use Rattle.ch_model.specs.HostState.{Link, Socket, HostState}
use Rattle.ch_model.specs.HostSteps.{Stepped, still, own_address, is_socket, with_socket}
use Rattle.ch_model.specs.HostWrites.{writes}
use Rattle.ch_model.specs.Stages.{Stage, Pending, Open, Ended, is_pending, is_ended}
use Rattle.ch_model.specs.WorldState.{Cell}
use Rattle.ch_laws_bytes.specs.Streams.{Reader, reader_in}
use Rattle.ch_laws_calls.specs.Calls.{with_host}
use Rattle.ch_laws_log.proofs.HostTold.{number_found, find_stored}
use Rattle.ch_laws_log.proofs.Stored.{number_is}
use Rattle.ch_laws_writes.specs.Dues.{Due, Asking, due_of, due_staged, due_asked, due_at}
use Rattle.ch_laws_writes.specs.Orderly.{IsOrderly, link_at}
use Rattle.ch_laws_calls.specs.FitsFit.{frames_in}
use Rattle.ch_laws_calls.specs.FitsTurns.{IsKind}
use Rattle.ch_laws_calls.proofs.FitsStores.{none_kind, only_at, only_kind, only_spelled}
use Rattle.ch_laws_plain.specs.Streams.{IsPlainStream}
use Rattle.ch_laws_plain.specs.Talks.{LinkIsPlain}
use Rattle.ch_laws_plain.specs.Plain.{is_unread_of, arrived_in, id_for, pending_by, pending_in, pending_at, CellIsPlain}
use Rattle.ch_laws_plain.specs.Turns.{ReaderPlain, CellCarries}
use Rattle.ch_laws_plain.specs.LinesRests.{SocketRests, Rests, AllRest}

-- ---- its cell

-- of the same links the same is pending
pub same_pending : (cell : Cell × ℕ) (host : HostState) (user : Option (ℕ × Address)) → host.links ≡ cell.0.host.links → pending_by (with_host cell host) user ≡ pending_by cell.0 user
same_pending cell host None same = refl
same_pending cell host (Some user) same = ap (λ (l : List Link). id_for (link_at l user.0 user.1).created (find (is_unread_of user.1) (arrived_in (find (is_at user.0) cell.0.nodes)))) same

-- nothing is read, and the same is pending
on_as_it_was : (reader : Option Reader) (pending : Option ℕ) → ReaderPlain reader pending reader pending
on_as_it_was None pending = tt
on_as_it_was (Some reader) pending = ([], (refl, refl), λ more p. p)

pub rests_carries : (own : ℕ → Address) (cell : Cell × ℕ) (told : List Step) (host : HostState) → Rests own cell.0.host told host → CellCarries own cell.0 told (with_host cell host)
rests_carries own cell told host r = record { reads = λ n known found. reads n known found (r.sockets n known found); writes = λ n known found. r.writes n } where
  reads : (n : ℕ) (known : Socket) → find (is_socket n) cell.0.host.sockets ≡ Some known → SocketRests host n known → ReaderPlain (reader_in (Some known)) (pending_at cell.0 n) (reader_in (find (is_socket n) host.sockets)) (pending_at (with_host cell host) n)
  reads n known found s = subst (λ (o : Option ℕ). ReaderPlain (reader_in (Some known)) o (reader_in (find (is_socket n) host.sockets)) (pending_at (with_host cell host) n)) (sym was)
      (subst (λ (r : Option Reader). ReaderPlain (reader_in (Some known)) (pending_by cell.0 known.user) r (pending_at (with_host cell host) n)) (sym reader)
      (subst (λ (o : Option ℕ). ReaderPlain (reader_in (Some known)) (pending_by cell.0 known.user) (reader_in (Some known)) o) (sym is_now) (on_as_it_was (reader_in (Some known)) (pending_by cell.0 known.user))))
    where
      was : pending_at cell.0 n ≡ pending_by cell.0 known.user
      was = ap (pending_in cell.0) found

      reader : reader_in (find (is_socket n) host.sockets) ≡ reader_in (Some known)
      reader = ap reader_in s.found ∙ s.reads

      is_now : pending_at (with_host cell host) n ≡ pending_by cell.0 known.user
      is_now = ap (pending_in (with_host cell host)) s.found ∙ ap (pending_by (with_host cell host)) s.user ∙ same_pending cell host known.user r.links

-- a plain cell stays one with a host of the same links
pub links_plain : (cell : Cell × ℕ) (host : HostState) → host.links ≡ cell.0.host.links → CellIsPlain cell.0 → CellIsPlain (with_host cell host)
links_plain cell host same p = record { host = λ end peer. subst (λ (l : List Link). LinkIsPlain (link_at l end peer)) (sym same) (p.host end peer); nodes = p.nodes }

-- ---- an end that is joined

-- nothing is done
rests_still : (own : ℕ → Address) (host : HostState) → AllRest own host (still host)
rests_still own host = record {
  links = refl;
  sockets = λ n known found. record { now = known; found = found; user = refl; reads = refl };
  writes = λ n. record { said = []; spelled = refl; kind = none_kind own (due_at host n); stream = refl };
}

-- its request is written
rests_asked : (own : ℕ → Address) (host : HostState) (socket : Socket) (user : ℕ × Address) → IsOrderly own host → find (is_socket socket.number) host.sockets ≡ Some socket → is_pending socket.stage ≡ true → socket.user ≡ Some user
    → AllRest own host (writes socket.number (request_spelling (record { target = user.1.id; from = own_address host user.0 })) (with_socket (record socket { stage = Open }) host))
rests_asked own host socket user o found pending u = record {
  links = refl;
  sockets = λ n known f. by_number n known f (socket.number == n) refl;
  writes = λ n. record {
    said = only_at socket.number (items.Request request ∷ []) n;
    spelled = only_spelled socket.number n (items.Request request ∷ []);
    kind = only_kind own (due_at host) socket.number (items.Request request ∷ []) (λ n h. number_is socket.number n h) (subst (λ (d : Option Due). IsKind own d (items.Request request ∷ [])) (sym asking) (λ r. (subst (λ (a : Address). IsRequest (record { target = user.1.id; from = a })) (sym (o.own_is user.0)) r, tt))) n;
    stream = subst IsPlainStream (sym (no_frames (socket.number == n))) refl;
  };
} where
  request : Request
  request = record { target = user.1.id; from = own_address host user.0 }

  kept : Socket
  kept = record socket { stage = Open }

  no_frames : (b : Bool) → frames_in (cond b (items.Request request ∷ []) []) ≡ []
  no_frames true = refl
  no_frames false = refl

  asking : due_at host socket.number ≡ Some (Asking user.0 user.1)
  asking = ap due_of found ∙ by_stage socket.stage pending where
    by_stage : (stage : Stage) → is_pending stage ≡ true → due_staged stage socket ≡ Some (Asking user.0 user.1)
    by_stage Pending e = ap due_asked u
    by_stage Open e = absurd cc
    by_stage Ended e = absurd cc

  live : (stage : Stage) → is_pending stage ≡ true → is_ended stage ≡ false
  live Pending e = refl
  live Open e = absurd cc
  live Ended e = absurd cc

  -- it reads what it read
  as_kept : (known : Socket) → socket ≡ known → (kept.user ≡ known.user) × (reader_in (Some kept) ≡ reader_in (Some known))
  as_kept known same = (ap (λ (s : Socket). s.user) same, sym (ap (λ b. cond b None (Some (socket.expected, socket.since))) (live socket.stage pending)) ∙ ap (λ (s : Socket). reader_in (Some s)) same)

  by_number : (n : ℕ) (known : Socket) → find (is_socket n) host.sockets ≡ Some known → (b : Bool) → (socket.number == n) ≡ b → SocketRests (with_socket kept host) n known
  by_number n known f true h =
      let same : socket ≡ known = one (sym found ∙ ap (λ (m : ℕ). find (is_socket m) host.sockets) (number_is socket.number n h) ∙ f) in
      let alike = as_kept known same in
      record { now = kept; found = find_stored kept host.sockets n ∙ ap (λ b. cond b (Some kept) (find (is_socket n) host.sockets)) h; user = alike.0; reads = alike.1 }
    where
      one : ◌≡◌ {A = Option Socket} (Some socket) (Some known) → socket ≡ known
      one e = cc
  by_number n known f false h = record { now = known; found = find_stored kept host.sockets n ∙ ap (λ b. cond b (Some kept) (find (is_socket n) host.sockets)) h ∙ f; user = refl; reads = refl }

pub rests_joined : (own : ℕ → Address) (host : HostState) (sock : ℕ) → IsOrderly own host → AllRest own host (host_on host (events.Joined sock))
unfolding host_on
rests_joined own host sock o = by_socket (find (is_socket sock) host.sockets) refl where
  by_user : (socket : Socket) → find (is_socket socket.number) host.sockets ≡ Some socket → is_pending socket.stage ≡ true → (w : Option (ℕ × Address)) → socket.user ≡ w → AllRest own host (elim w as (λ w. Stepped) [
    | None ↦ still host
    | Some user ↦ writes socket.number (request_spelling (record { target = user.1.id; from = own_address host user.0 })) (with_socket (record socket { stage = Open }) host)
  ])
  by_user socket found pending None u = rests_still own host
  by_user socket found pending (Some user) u = rests_asked own host socket user o found pending u

  by_test : (socket : Socket) → find (is_socket socket.number) host.sockets ≡ Some socket → (b : Bool) → is_pending socket.stage ≡ b → AllRest own host (cond b (joins socket host) (still host))
  by_test socket found true e = by_user socket found e socket.user refl
  by_test socket found false e = rests_still own host

  by_socket : (x : Option Socket) → find (is_socket sock) host.sockets ≡ x → AllRest own host (elim x as (λ x. Stepped) [
    | None ↦ still host
    | Some socket ↦ cond (is_pending socket.stage) (joins socket host) (still host)
  ])
  by_socket None e = rests_still own host
  by_socket (Some socket) e = by_test socket (subst (λ (m : ℕ). find (is_socket m) host.sockets ≡ Some socket) (sym (number_found sock host.sockets socket e)) e) (is_pending socket.stage) refl
