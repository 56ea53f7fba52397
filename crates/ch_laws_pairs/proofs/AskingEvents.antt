-- What a host makes of events tells who asks on its ends.
use Rattle.std.proofs.Common.{◌≡◌, ℕ, Bool, true, false, cond, List, [], ◌++◌, refl, ap, ◌∙◌}
use Rattle.std.specs.Prelude.{find, Option, Some, None}
use Rattle.ch_base.specs.declared.address.Address.{Address}
use Rattle.ch_wire.specs.Spelling.{request_spelling}
use Rattle.ch_link.specs.declared.LinkIn.TheVariants.{Late}
use Rattle.ch_model.specs.declared.step.SocketEvent.{SocketEvent}
use Rattle.ch_model.specs.declared.step.SocketEvent.TheVariants as events
use Rattle.ch_model.specs.declared.step.Step.TheVariants as steps
use Rattle.ch_model.specs.Host.{on_socket, joins, accepted, keeps, host_on}
use Rattle.ch_model.specs.HostCalls.{host_timer_runs}
use Rattle.ch_model.specs.HostItems.{is_gone}
use Rattle.ch_model.specs.HostLinks.{hears}
use Rattle.ch_model.specs.HostState.{Socket, HostState}
use Rattle.ch_model.specs.HostSteps.{Stepped, still, is_socket, link_with, own_address, with_socket}
use Rattle.ch_model.specs.HostWrites.{writes}
use Rattle.ch_model.specs.Stages.{Stage, Open, is_pending, is_open}
use Rattle.ch_laws_log.proofs.HostTold.{number_found}
use Rattle.ch_laws_pairs.specs.Askers.{asker_of, asker_at, AllAsk, ComesOdd}
use Rattle.ch_laws_pairs.proofs.Asking.{from_asked, at_rest, plain_first}
use Rattle.ch_laws_pairs.proofs.Asking as asking
use Rattle.ch_laws_pairs.proofs.AskingLinks.{heard}
use Rattle.ch_laws_pairs.proofs.AskingItems.{socket_gone}

on_one : (test : Stage → Bool) (sock : ℕ) (f : Socket → HostState → Stepped) (host : HostState) → ((socket : Socket) → find (is_socket sock) host.sockets ≡ Some socket → test socket.stage ≡ true → AllAsk host (f socket host)) → AllAsk host (on_socket test sock f host)
on_one test sock f host each = by_socket (find (is_socket sock) host.sockets) refl where
  by_test : (socket : Socket) → find (is_socket sock) host.sockets ≡ Some socket → (b : Bool) → test socket.stage ≡ b → AllAsk host (cond b (f socket host) (still host))
  by_test socket found true e = each socket found e
  by_test socket found false e = at_rest host

  by_socket : (o : Option Socket) → find (is_socket sock) host.sockets ≡ o → AllAsk host (elim o as (λ x. Stepped) [
    | None ↦ still host
    | Some socket ↦ cond (test socket.stage) (f socket host) (still host)
  ])
  by_socket None found = at_rest host
  by_socket (Some socket) found = by_test socket found (test socket.stage) refl

fed_kept : (bytes : List ℕ) (sock : ℕ) (host : HostState) (socket : Socket) → find (is_socket sock) host.sockets ≡ Some socket → AllAsk host (keeps bytes socket host)
fed_kept bytes sock host socket found = asking.keeps (record socket { since = socket.since ++ bytes }) host (ap (asker_at host) (number_found sock host.sockets socket found) ∙ ap asker_of found)

joined : (sock : ℕ) (host : HostState) (socket : Socket) → find (is_socket sock) host.sockets ≡ Some socket → AllAsk host (joins socket host)
joined sock host socket found = by_user socket.user where
  open_host : HostState
  open_host = with_socket (record socket { stage = Open }) host

  by_user : (user : Option (ℕ × Address)) → AllAsk host (elim user as (λ x. Stepped) [
    | None ↦ still host
    | Some user ↦ writes socket.number (request_spelling (record { target = user.1.id; from = own_address host user.0 })) open_host
  ])
  by_user None = at_rest host
  by_user (Some user) = λ s. plain_first (steps.Write socket.number (request_spelling (record { target = user.1.id; from = own_address host user.0 })) None) tt host open_host []
      (asking.keeps (record socket { stage = Open }) host (ap (asker_at host) (number_found sock host.sockets socket found) ∙ ap asker_of found) s)

-- what happens to a socket or a timer
pub event_asks : (host : HostState) (event : SocketEvent) → ComesOdd event → AllAsk host (host_on host event)
unfolding host_on
event_asks host (events.Joined sock) of = on_one is_pending sock joins host (λ socket found e. joined sock host socket found)
event_asks host (events.Came sock peer_host) of = λ s. asking.keeps (accepted sock peer_host) host (ap (asker_at host) of.1 ∙ s.odd of.0) s
event_asks host (events.Refused sock) of = on_one is_pending sock is_gone host (λ socket found e. socket_gone socket host)
event_asks host (events.Fed sock bytes) of = on_one is_open sock (keeps bytes) host (λ socket found e. fed_kept bytes sock host socket found)
event_asks host (events.Ended sock) of = on_one is_open sock is_gone host (λ socket found e. socket_gone socket host)
event_asks host (events.Lost sock) of = on_one is_open sock is_gone host (λ socket found e. socket_gone socket host)
event_asks host (events.Late end peer) of = by_test (host_timer_runs host end peer) where
  by_test : (b : Bool) → AllAsk host (cond b (hears Late (link_with host end peer) host) (still host))
  by_test true = heard Late (link_with host end peer) host tt
  by_test false = at_rest host
