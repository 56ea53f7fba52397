-- What a host makes of events writes what is due.
use Rattle.std.proofs.Common.{◌≡◌, ◌≤◌, ℕ, ◌*◌, Bool, true, false, cond, List, [], ◌++◌, refl, sym, ap, ◌∙◌, subst, arith}
use Rattle.std.specs.Prelude.{find, is_some, Option, Some, None, ◌==◌}
use Rattle.ch_base.specs.declared.address.Address.{Address}
use Rattle.ch_wire.specs.Spelling.{request_spelling}
use Rattle.ch_reader.specs.declared.item.Expected.{Expected}
use Rattle.ch_link.specs.declared.LinkIn.TheVariants.{Late}
use Rattle.ch_model.specs.declared.step.SocketEvent.{SocketEvent}
use Rattle.ch_model.specs.declared.step.SocketEvent.TheVariants as events
use Rattle.ch_model.specs.Host.{on_socket, joins, accepted, keeps, host_on}
use Rattle.ch_model.specs.HostCalls.{host_new, host_timer_runs}
use Rattle.ch_model.specs.HostItems.{is_gone}
use Rattle.ch_model.specs.HostLinks.{hears}
use Rattle.ch_model.specs.HostState.{Socket, HostState}
use Rattle.ch_model.specs.HostSteps.{Stepped, still, is_socket, link_with, own_address, with_socket}
use Rattle.ch_model.specs.HostWrites.{writes}
use Rattle.ch_model.specs.Stages.{Stage, Pending, Open, Ended, is_pending, is_open, is_ended}
use Rattle.ch_laws_items.proofs.Hosts.{on_event}
use Rattle.ch_laws_items.proofs.Sockets.{number_is, stored_apart}
use Rattle.ch_laws_log.specs.HostEnds.{IsSound, opens_nothing}
use Rattle.ch_laws_log.proofs.HostTold.{number_found, find_stored}
use Rattle.ch_laws_log.proofs.HostEventsTold.{event_told, fresh_sound}
use Rattle.ch_laws_writes.specs.Dues.{Due, Asking, Answering, Framing, due_of, due_at, due_open, due_asked, due_past, due_staged, due_heard, IsDue}
use Rattle.ch_laws_writes.specs.Orderly.{user_of, IsOrderly, AllWrite, WritesOn, ComesNew}
use Rattle.ch_laws_writes.proofs.Dues.{nothing_said}
use Rattle.ch_laws_writes.proofs.Ordered.{Fit, nobody, fit_of, replaced, added}
use Rattle.ch_laws_writes.proofs.Links.{AllDo, heard}
use Rattle.ch_laws_writes.proofs.Calls.{orderly, all_orderly, linked_with}
use Rattle.ch_laws_writes.proofs.Items.{socket_gone}

-- nothing follows
rests : (own : ℕ → Address) (host : HostState) → Fit host.links host.sockets → AllDo own (due_at host) (still host)
rests own host f = record { fit = f; writes = nothing_said own (due_at host) (due_at host) (λ n. refl) }

on_one : (own : ℕ → Address) (test : Stage → Bool) (sock : ℕ) (f : Socket → HostState → Stepped) (host : HostState) → Fit host.links host.sockets → ((socket : Socket) → find (is_socket socket.number) host.sockets ≡ Some socket → test socket.stage ≡ true → AllDo own (due_at host) (f socket host)) → AllDo own (due_at host) (on_socket test sock f host)
on_one own test sock f host fit each = by_socket (find (is_socket sock) host.sockets) refl where
  by_test : (socket : Socket) → find (is_socket socket.number) host.sockets ≡ Some socket → (b : Bool) → test socket.stage ≡ b → AllDo own (due_at host) (cond b (f socket host) (still host))
  by_test socket found true e = each socket found e
  by_test socket found false e = rests own host fit

  by_socket : (o : Option Socket) → find (is_socket sock) host.sockets ≡ o → AllDo own (due_at host) (elim o as (λ x. Stepped) [
    | None ↦ still host
    | Some socket ↦ cond (test socket.stage) (f socket host) (still host)
  ])
  by_socket None found = rests own host fit
  by_socket (Some socket) found = by_test socket (subst (λ (n : ℕ). find (is_socket n) host.sockets ≡ Some socket) (sym (number_found sock host.sockets socket found)) found) (test socket.stage) refl

-- bytes that arrive are kept
fed : (own : ℕ → Address) (bytes : List ℕ) (host : HostState) → Fit host.links host.sockets → (socket : Socket) → find (is_socket socket.number) host.sockets ≡ Some socket → is_open socket.stage ≡ true → AllDo own (due_at host) (keeps bytes socket host)
fed own bytes host f socket found stands = record {
  fit = replaced nobody host.links host.sockets new socket f found (λ end peer kept named u. (u, same_due)) (record { asks = (f.each_socket socket.number socket found).asks; unasked = (f.each_socket socket.number socket found).unasked; awaits = (f.each_socket socket.number socket found).awaits });
  writes = nothing_said own (due_at host) (due_at (with_socket new host)) (λ n. ap due_of (find_stored new host.sockets n) ∙ by_test n (socket.number == n) refl);
} where
  new : Socket
  new = record socket { since = socket.since ++ bytes }

  staged : (stage : Stage) → due_staged stage socket ≡ due_staged stage new
  staged Pending = refl
  staged Open = refl
  staged Ended = refl

  same_due : due_of (Some socket) ≡ Some Framing → due_of (Some new) ≡ Some Framing
  same_due e = sym (staged socket.stage) ∙ e

  by_test : (n : ℕ) (b : Bool) → (socket.number == n) ≡ b → due_of (cond b (Some new) (find (is_socket n) host.sockets)) ≡ due_at host n
  by_test n true e = sym (ap due_of (subst (λ (m : ℕ). find (is_socket m) host.sockets ≡ Some socket) (number_is socket.number n e) found) ∙ staged socket.stage)
  by_test n false e = refl

-- an event that opens no end
heard_event : (own : ℕ → Address) (host : HostState) (event : SocketEvent) → opens_nothing event ≡ true → Fit host.links host.sockets → AllDo own (due_at host) (host_on host event)
unfolding host_on
heard_event own host (events.Joined sock) of f = absurd cc
heard_event own host (events.Came sock peer_host) of f = absurd cc
heard_event own host (events.Refused sock) of f = on_one own is_pending sock is_gone host f (λ socket found e. socket_gone own socket host f (ap user_of found))
heard_event own host (events.Fed sock bytes) of f = on_one own is_open sock (keeps bytes) host f (λ socket found e. fed own bytes host f socket found e)
heard_event own host (events.Ended sock) of f = on_one own is_open sock is_gone host f (λ socket found e. socket_gone own socket host f (ap user_of found))
heard_event own host (events.Lost sock) of f = on_one own is_open sock is_gone host f (λ socket found e. socket_gone own socket host f (ap user_of found))
heard_event own host (events.Late end peer) of f = by_test (host_timer_runs host end peer) where
  by_test : (b : Bool) → AllDo own (due_at host) (cond b (hears Late (link_with host end peer) host) (still host))
  by_test true = heard own Late (link_with host end peer) host (linked_with host end peer f) tt
  by_test false = rests own host f

-- ---- an end that opens

-- a host stays sound where a socket is kept that isn't pending
sound_kept : (new old : Socket) (host : HostState) → find (is_socket new.number) host.sockets ≡ Some old → is_pending new.stage ≡ false → IsSound host → IsSound (with_socket new host)
sound_kept new old host found stage s = record {
  apart = stored_apart new host.sockets s.apart;
  free = λ k l. find_stored new host.sockets (2 * k) ∙ by_free k l (new.number == 2 * k) refl;
  used = λ n socket f. by_used n socket (new.number == n) (sym (find_stored new host.sockets n) ∙ f);
} where
  by_free : (k : ℕ) → host.dials ≤ k → (b : Bool) → (new.number == 2 * k) ≡ b → cond b (Some new) (find (is_socket (2 * k)) host.sockets) ≡ None
  by_free k l true e = let at : find (is_socket (2 * k)) host.sockets ≡ Some old = subst (λ (m : ℕ). find (is_socket m) host.sockets ≡ Some old) (number_is new.number (2 * k) e) found in let none = s.free k l in absurd cc
  by_free k l false e = s.free k l

  by_used : (n : ℕ) (socket : Socket) (b : Bool) → cond b (Some new) (find (is_socket n) host.sockets) ≡ Some socket → is_pending socket.stage ≡ true → is_some socket.user ≡ true
  by_used n socket true f = let is : new ≡ socket = cc in subst (λ (w : Socket). is_pending w.stage ≡ true → is_some w.user ≡ true) is (λ p. let no : true ≡ false = sym p ∙ stage in absurd cc)
  by_used n socket false f = s.used n socket f

sound_added : (new : Socket) (host : HostState) → ((k : ℕ) → host.dials ≤ k → (new.number == 2 * k) ≡ false) → is_pending new.stage ≡ false → IsSound host → IsSound (with_socket new host)
sound_added new host odd stage s = record {
  apart = stored_apart new host.sockets s.apart;
  free = λ k l. find_stored new host.sockets (2 * k) ∙ ap (λ b. cond b (Some new) (find (is_socket (2 * k)) host.sockets)) (odd k l) ∙ s.free k l;
  used = λ n socket f. by_used n socket (new.number == n) (sym (find_stored new host.sockets n) ∙ f);
} where
  by_used : (n : ℕ) (socket : Socket) (b : Bool) → cond b (Some new) (find (is_socket n) host.sockets) ≡ Some socket → is_pending socket.stage ≡ true → is_some socket.user ≡ true
  by_used n socket true f = let is : new ≡ socket = cc in subst (λ (w : Socket). is_pending w.stage ≡ true → is_some w.user ≡ true) is (λ p. let no : true ≡ false = sym p ∙ stage in absurd cc)
  by_used n socket false f = s.used n socket f

-- an end that is joined is open, and its request is written
joined : (own : ℕ → Address) (host : HostState) (sock : ℕ) → IsOrderly own host → AllWrite own (due_at host) (on_socket is_pending sock joins host)
joined own host sock o = by_socket (find (is_socket sock) host.sockets) refl where
  nothing : AllWrite own (due_at host) (still host)
  nothing = record { orderly = o; writes = nothing_said own (due_at host) (due_at host) (λ n. refl) }

  was_pending : (stage : Stage) → is_pending stage ≡ true → stage ≡ Pending
  was_pending Pending e = refl
  was_pending Open e = absurd cc
  was_pending Ended e = absurd cc

  opens : (socket : Socket) → find (is_socket socket.number) host.sockets ≡ Some socket → is_pending socket.stage ≡ true → (user : ℕ × Address) → socket.user ≡ Some user
      → AllWrite own (due_at host) (writes socket.number (request_spelling (record { target = user.1.id; from = own_address host user.0 })) (with_socket (record socket { stage = Open }) host))
  opens socket found pending user is = record {
    orderly = orderly own host (with_socket new host) o refl (sound_kept new socket host found refl o.sound)
        (replaced nobody host.links host.sockets new socket (fit_of own host o) found (λ end peer kept named u. (u, λ d. now_due))
        (record { asks = λ p. absurd cc; unasked = (o.sockets socket.number socket found).unasked; awaits = λ live a end peer kept u. (o.sockets socket.number socket found).awaits (ap is_ended (was_pending socket.stage pending)) a end peer u }));
    writes = record { due = λ n. (λ e. subst (λ (x : Option Due). IsDue own x bytes) (sym (due_there n (number_is socket.number n e))) (ap (λ (a : Address). request_spelling (record { target = user.1.id; from = a })) (o.own_is user.0)), tt); leads = λ n. ap due_of (find_stored new host.sockets n) ∙ by_test n (socket.number == n) refl };
  } where
    new : Socket
    new = record socket { stage = Open }

    bytes : List ℕ
    bytes = request_spelling (record { target = user.1.id; from = own_address host user.0 })

    now_due : due_of (Some new) ≡ Some Framing
    now_due = ap (λ (e : Expected). Some (due_open e)) ((o.sockets socket.number socket found).asks pending)

    due_there : (n : ℕ) → socket.number ≡ n → due_at host n ≡ Some (Asking user.0 user.1)
    due_there n e = ap due_of (subst (λ (m : ℕ). find (is_socket m) host.sockets ≡ Some socket) e found) ∙ ap (λ (stage : Stage). due_staged stage socket) (was_pending socket.stage pending) ∙ ap due_asked is

    by_test : (n : ℕ) (b : Bool) → (socket.number == n) ≡ b → due_of (cond b (Some new) (find (is_socket n) host.sockets)) ≡ cond b (due_past bytes (due_at host n)) (due_at host n)
    by_test n true e = now_due ∙ sym (ap (due_past bytes) (due_there n (number_is socket.number n e)))
    by_test n false e = refl

  by_user : (socket : Socket) → find (is_socket socket.number) host.sockets ≡ Some socket → is_pending socket.stage ≡ true → (user : Option (ℕ × Address)) → socket.user ≡ user → AllWrite own (due_at host) (elim user as (λ x. Stepped) [
    | None ↦ still host
    | Some user ↦ writes socket.number (request_spelling (record { target = user.1.id; from = own_address host user.0 })) (with_socket (record socket { stage = Open }) host)
  ])
  by_user socket found pending None is = nothing
  by_user socket found pending (Some user) is = opens socket found pending user is

  by_test : (socket : Socket) → find (is_socket socket.number) host.sockets ≡ Some socket → (b : Bool) → is_pending socket.stage ≡ b → AllWrite own (due_at host) (cond b (joins socket host) (still host))
  by_test socket found true e = by_user socket found e socket.user refl
  by_test socket found false e = nothing

  by_socket : (x : Option Socket) → find (is_socket sock) host.sockets ≡ x → AllWrite own (due_at host) (elim x as (λ x. Stepped) [
    | None ↦ still host
    | Some socket ↦ cond (is_pending socket.stage) (joins socket host) (still host)
  ])
  by_socket None found = nothing
  by_socket (Some socket) found = by_test socket (subst (λ (n : ℕ). find (is_socket n) host.sockets ≡ Some socket) (sym (number_found sock host.sockets socket found)) found) (is_pending socket.stage) refl

-- a socket that came
came : (own : ℕ → Address) (host : HostState) (sock : ℕ) (peer_host : List ℕ) → IsOrderly own host → ComesNew host (events.Came sock peer_host) → WritesOn own (λ n. cond (sock == n) (Some Answering) (due_at host n)) [] (with_socket (accepted sock peer_host) host)
came own host sock peer_host o new = record {
  orderly = orderly own host (with_socket (accepted sock peer_host) host) o refl (sound_added (accepted sock peer_host) host new.1 refl o.sound)
      (added nobody host.links host.sockets (accepted sock peer_host) (fit_of own host o) new.0 (record { asks = λ p. absurd cc; unasked = λ e. refl; awaits = λ live a end peer kept u. absurd cc }));
  writes = nothing_said own (λ n. cond (sock == n) (Some Answering) (due_at host n)) (due_at (with_socket (accepted sock peer_host) host)) (λ n. ap due_of (find_stored (accepted sock peer_host) host.sockets n) ∙ by_test n (sock == n));
} where
  by_test : (n : ℕ) (b : Bool) → due_of (cond b (Some (accepted sock peer_host)) (find (is_socket n) host.sockets)) ≡ cond b (Some Answering) (due_at host n)
  by_test n true = refl
  by_test n false = refl

-- whatever event
pub event_writes : (own : ℕ → Address) (host : HostState) (event : SocketEvent) → IsOrderly own host → ComesNew host event → AllWrite own (λ n. due_heard event n (due_at host n)) (host_on host event)
unfolding host_on
event_writes own host (events.Joined sock) o new = joined own host sock o
event_writes own host (events.Came sock peer_host) o new = came own host sock peer_host o new
event_writes own host (events.Refused sock) o new = all_orderly own (due_at host) host (host_on host (events.Refused sock)) o (event_told host (events.Refused sock) refl) (on_event host (events.Refused sock)) (heard_event own host (events.Refused sock) refl (fit_of own host o))
event_writes own host (events.Fed sock bytes) o new = all_orderly own (due_at host) host (host_on host (events.Fed sock bytes)) o (event_told host (events.Fed sock bytes) refl) (on_event host (events.Fed sock bytes)) (heard_event own host (events.Fed sock bytes) refl (fit_of own host o))
event_writes own host (events.Ended sock) o new = all_orderly own (due_at host) host (host_on host (events.Ended sock)) o (event_told host (events.Ended sock) refl) (on_event host (events.Ended sock)) (heard_event own host (events.Ended sock) refl (fit_of own host o))
event_writes own host (events.Lost sock) o new = all_orderly own (due_at host) host (host_on host (events.Lost sock)) o (event_told host (events.Lost sock) refl) (on_event host (events.Lost sock)) (heard_event own host (events.Lost sock) refl (fit_of own host o))
event_writes own host (events.Late end peer) o new = all_orderly own (due_at host) host (host_on host (events.Late end peer)) o (event_told host (events.Late end peer) refl) (on_event host (events.Late end peer)) (heard_event own host (events.Late end peer) refl (fit_of own host o))

-- a host that has done nothing
pub fresh_orderly : (host : List ℕ) (port : ℕ) (circle : List (List ℕ)) → IsOrderly (own_address (host_new host port circle)) (host_new host port circle)
fresh_orderly host port circle = record {
  sound = fresh_sound host port circle;
  own_is = λ end. refl;
  apart = tt;
  links = λ end peer. record { named = λ n e. absurd cc; up = λ u q e. absurd cc; spelled = tt; given = omega arith };
  sockets = λ n socket e. absurd cc;
}
