-- What a host makes of events, by what it reads.
use Rattle.std.proofs.Common.{◌≡◌, ℕ, ◌*◌, Bool, true, false, cond, [], ◌++◌, refl, sym, ◌∙◌, subst}
use Rattle.std.specs.Prelude.{find, is_some, ◌==◌, Option, Some, None}
use Rattle.ch_base.specs.declared.address.Address.{Address}
use Rattle.ch_wire.specs.Spelling.{request_spelling}
use Rattle.ch_link.specs.declared.LinkIn.TheVariants.{Late}
use Rattle.ch_model.specs.declared.step.SocketEvent.{SocketEvent}
use Rattle.ch_model.specs.declared.step.SocketEvent.TheVariants as events
use Rattle.ch_model.specs.declared.step.Step.TheVariants as steps
use Rattle.ch_model.specs.Host.{on_socket, joins, keeps, accepted, host_on}
use Rattle.ch_model.specs.HostCalls.{host_timer_runs}
use Rattle.ch_model.specs.HostItems.{is_gone}
use Rattle.ch_model.specs.HostLinks.{hears}
use Rattle.ch_model.specs.HostState.{Socket, HostState}
use Rattle.ch_model.specs.HostSteps.{Stepped, still, is_socket, link_with, own_address, with_socket}
use Rattle.ch_model.specs.HostWrites.{writes}
use Rattle.ch_model.specs.Stages.{Stage, Pending, Open, Ended, is_pending, is_open, is_ended}
use Rattle.ch_laws_items.proofs.Sockets.{number_is, stored_apart}
use Rattle.ch_laws_log.specs.HostEnds.{IsSound}
use Rattle.ch_laws_log.proofs.HostTold.{number_found, find_stored}
use Rattle.ch_laws_reads.specs.Reads.{GoesOn, AllRead, handed_to, handed_by}
use Rattle.ch_laws_reads.proofs.HostReads.{nothing_read, at_rest, plain_first, stores}
use Rattle.ch_laws_reads.proofs.HostLinksRead.{heard}
use Rattle.ch_laws_reads.proofs.HostItemsRead.{socket_gone}

on_one : (test : Stage → Bool) (sock : ℕ) (f : Socket → HostState → Stepped) (host : HostState) → ((socket : Socket) → find (is_socket sock) host.sockets ≡ Some socket → test socket.stage ≡ true → AllRead host (f socket host)) → AllRead host (on_socket test sock f host)
on_one test sock f host each = by_socket (find (is_socket sock) host.sockets) refl where
  by_test : (socket : Socket) → find (is_socket sock) host.sockets ≡ Some socket → (b : Bool) → test socket.stage ≡ b → AllRead host (cond b (f socket host) (still host))
  by_test socket found true e = each socket found e
  by_test socket found false e = at_rest host

  by_socket : (o : Option Socket) → find (is_socket sock) host.sockets ≡ o → AllRead host (elim o as (λ x. Stepped) [
    | None ↦ still host
    | Some socket ↦ cond (test socket.stage) (f socket host) (still host)
  ])
  by_socket None found = at_rest host
  by_socket (Some socket) found = by_test socket found (test socket.stage) refl

-- an end that opens leaves a host sound
opened_sound : (socket : Socket) (host : HostState) → find (is_socket socket.number) host.sockets ≡ Some socket → IsSound host → IsSound (with_socket (record socket { stage = Open }) host)
opened_sound socket host found s = record {
  apart = stored_apart now host.sockets s.apart;
  free = λ k l. find_stored now host.sockets (2 * k) ∙ by_free k (s.free k l) (now.number == 2 * k) refl;
  used = λ n other f. by_used n other (now.number == n) (sym (find_stored now host.sockets n) ∙ f);
} where
  now : Socket
  now = record socket { stage = Open }

  by_free : (k : ℕ) → find (is_socket (2 * k)) host.sockets ≡ None → (b : Bool) → (socket.number == 2 * k) ≡ b → cond b (Some now) (find (is_socket (2 * k)) host.sockets) ≡ None
  by_free k none true e = let at : find (is_socket (2 * k)) host.sockets ≡ Some socket = subst (λ (m : ℕ). find (is_socket m) host.sockets ≡ Some socket) (number_is socket.number (2 * k) e) found in absurd cc
  by_free k none false e = none

  by_used : (n : ℕ) (other : Socket) (b : Bool) → cond b (Some now) (find (is_socket n) host.sockets) ≡ Some other → is_pending other.stage ≡ true → is_some other.user ≡ true
  by_used n other true f = let is : now ≡ other = cc in subst (λ (w : Socket). is_pending w.stage ≡ true → is_some w.user ≡ true) is (λ h. absurd cc)
  by_used n other false f = s.used n other f

joined : (sock : ℕ) (host : HostState) (socket : Socket) → find (is_socket sock) host.sockets ≡ Some socket → is_pending socket.stage ≡ true → AllRead host (joins socket host)
joined sock host socket found e = by_user socket.user where
  there : find (is_socket socket.number) host.sockets ≡ Some socket
  there = subst (λ (n : ℕ). find (is_socket n) host.sockets ≡ Some socket) (sym (number_found sock host.sockets socket found)) found

  pending_stands : (stage : Stage) → is_pending stage ≡ true → is_ended stage ≡ true → is_ended Open ≡ true
  pending_stands Pending p e = absurd cc
  pending_stands Open p e = absurd cc
  pending_stands Ended p e = absurd cc

  opened : GoesOn 0 socket (record socket { stage = Open })
  opened = record { over = pending_stands socket.stage e; read = λ f. nothing_read socket (record socket { stage = Open }) refl refl }

  by_user : (user : Option (ℕ × Address)) → AllRead host (elim user as (λ x. Stepped) [
    | None ↦ still host
    | Some user ↦ writes socket.number (request_spelling (record { target = user.1.id; from = own_address host user.0 })) (with_socket (record socket { stage = Open }) host)
  ])
  by_user None = at_rest host
  by_user (Some user) = λ s. plain_first (steps.Write socket.number (request_spelling (record { target = user.1.id; from = own_address host user.0 })) None) tt host (with_socket (record socket { stage = Open }) host) []
      (stores [] (record socket { stage = Open }) socket host there (opened_sound socket host there s) opened (λ n e. refl))

-- what a host makes of an event, from the host with what that hands to it
pub event_read : (host : HostState) (event : SocketEvent) → AllRead (handed_by event host) (host_on host event)
unfolding host_on
event_read host (events.Joined sock) = on_one is_pending sock joins host (joined sock host)
event_read host (events.Came sock peer_host) = at_rest (with_socket (accepted sock peer_host) host)
event_read host (events.Refused sock) = on_one is_pending sock is_gone host (λ socket found e. socket_gone socket host)
event_read host (events.Fed sock bytes) = by_socket (find (is_socket sock) host.sockets) where
  by_test : (socket : Socket) (b : Bool) → AllRead (cond b (with_socket (record socket { since = socket.since ++ bytes }) host) host) (cond b (keeps bytes socket host) (still host))
  by_test socket true = at_rest (with_socket (record socket { since = socket.since ++ bytes }) host)
  by_test socket false = at_rest host

  by_socket : (o : Option Socket) → AllRead (handed_to sock bytes host o) (elim o as (λ x. Stepped) [
    | None ↦ still host
    | Some socket ↦ cond (is_open socket.stage) (keeps bytes socket host) (still host)
  ])
  by_socket None = at_rest host
  by_socket (Some socket) = by_test socket (is_open socket.stage)
event_read host (events.Ended sock) = on_one is_open sock is_gone host (λ socket found e. socket_gone socket host)
event_read host (events.Lost sock) = on_one is_open sock is_gone host (λ socket found e. socket_gone socket host)
event_read host (events.Late end peer) = by_test (host_timer_runs host end peer) where
  by_test : (b : Bool) → AllRead host (cond b (hears Late (link_with host end peer) host) (still host))
  by_test true = heard Late (link_with host end peer) host tt
  by_test false = at_rest host
