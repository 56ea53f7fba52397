-- Events of sockets keep the sockets' numbers apart.
use Rattle.std.proofs.Common.{◌≡◌, ℕ, Bool, true, false, cond, List, ◌++◌, Ok, Err, ap, subst}
use Rattle.std.specs.Prelude.{find, Result, Option, Some, None}
use Rattle.ch_base.specs.declared.address.Address.{Address}
use Rattle.ch_wire.specs.Spelling.{request_spelling}
use Rattle.ch_link.specs.declared.LinkIn.TheVariants.{Late}
use Rattle.ch_model.specs.declared.step.SocketEvent.{SocketEvent}
use Rattle.ch_model.specs.declared.step.SocketEvent.TheVariants as events
use Rattle.ch_model.specs.declared.step.Step.{Step}
use Rattle.ch_model.specs.Stages.{Stage, Open, is_pending, is_open}
use Rattle.ch_model.specs.HostState.{Socket, HostState}
use Rattle.ch_model.specs.HostSteps.{Stepped, still, is_socket, own_address, link_with, with_socket}
use Rattle.ch_model.specs.HostWrites.{writes}
use Rattle.ch_model.specs.HostLinks.{hears}
use Rattle.ch_model.specs.HostItems.{is_gone}
use Rattle.ch_model.specs.HostCalls.{host_timer_runs}
use Rattle.ch_model.specs.Host.{on_socket, joins, accepted, keeps, host_on}
use Rattle.ch_laws_items.specs.Kept.{Apart, AllKeepNoMore, Fine}
use Rattle.ch_laws_items.proofs.Sockets.{stored_apart}
use Rattle.ch_laws_items.proofs.Links.{heard}
use Rattle.ch_laws_items.proofs.Items.{socket_gone}

-- the sockets' numbers still differ
abbrev StaysApart : HostState → Stepped → Type 0
StaysApart before (Ok done) = Apart before.sockets → Apart done.1.sockets
StaysApart before (Err stop) = Unit {0}

of_fine : (host : HostState) (done : Stepped) → Fine host done → StaysApart host done
of_fine host (Ok done) f = f.apart
of_fine host (Err stop) f = tt

joined : (socket : Socket) (host : HostState) → StaysApart host (joins socket host)
joined socket host = by_user socket.user
  where
    by_user : (user : Option (ℕ × Address)) → StaysApart host (elim user [
      | None ↦ still host
      | Some user ↦ writes socket.number (request_spelling (record { target = user.1.id; from = own_address host user.0 })) (with_socket (record socket { stage = Open }) host)
    ])
    by_user None = λ a. a
    by_user (Some user) = stored_apart (record socket { stage = Open }) host.sockets

on_one : (test : Stage → Bool) (sock : ℕ) (f : Socket → HostState → Stepped) (host : HostState) → ((socket : Socket) → StaysApart host (f socket host)) → StaysApart host (on_socket test sock f host)
on_one test sock f host k = by_socket (find (is_socket sock) host.sockets)
  where
    by_test : (socket : Socket) (b : Bool) → StaysApart host (cond b (f socket host) (still host))
    by_test socket true = k socket
    by_test socket false = λ a. a

    by_socket : (o : Option Socket) → StaysApart host (elim o [
      | None ↦ still host
      | Some socket ↦ cond (test socket.stage) (f socket host) (still host)
    ])
    by_socket None = λ a. a
    by_socket (Some socket) = by_test socket (test socket.stage)

on_event : (host : HostState) (event : SocketEvent) → StaysApart host (host_on host event)
unfolding host_on
on_event host (events.Joined sock) = on_one is_pending sock joins host (λ socket. joined socket host)
on_event host (events.Came sock peer_host) = stored_apart (accepted sock peer_host) host.sockets
on_event host (events.Refused sock) = on_one is_pending sock is_gone host (λ socket. of_fine host (is_gone socket host) (socket_gone socket host))
on_event host (events.Fed sock bytes) = on_one is_open sock (keeps bytes) host (λ socket. stored_apart (record socket { since = socket.since ++ bytes }) host.sockets)
on_event host (events.Ended sock) = on_one is_open sock is_gone host (λ socket. of_fine host (is_gone socket host) (socket_gone socket host))
on_event host (events.Lost sock) = on_one is_open sock is_gone host (λ socket. of_fine host (is_gone socket host) (socket_gone socket host))
on_event host (events.Late end peer) = by_test (host_timer_runs host end peer)
  where
    by_test : (b : Bool) → StaysApart host (cond b (hears Late (link_with host end peer) host) (still host))
    by_test true = of_fine host (hears Late (link_with host end peer) host) (heard Late (link_with host end peer) host)
    by_test false = λ a. a

-- the host that was answered, or the one before
abbrev host_in : {E : Type 0} → HostState → Result (List Step × HostState) E → HostState
host_in host (Ok done) = done.1
host_in host (Err e) = host

pub stays_apart : (host after : HostState) (event : SocketEvent) (done : List Step) → Apart host.sockets → host_on host event ≡ Ok (done, after) → Apart after.sockets
stays_apart host after event done a e = by_done (host_on host event) (on_event host event) e
  where
    by_done : (one : Stepped) → StaysApart host one → one ≡ Ok (done, after) → Apart after.sockets
    by_done (Ok one) k e = let same : one.1 ≡ after = ap (host_in host) e in subst (λ (h : HostState). Apart h.sockets) same (k a)
    by_done (Err stop) k e = absurd cc

-- the same of what an endpoint asks
pub asking_stays : {E : Type 0} (host after : HostState) (done : List Step) (asked : Result (List Step × HostState) E) → AllKeepNoMore host asked → Apart host.sockets → asked ≡ Ok (done, after) → Apart after.sockets
asking_stays host after done (Ok one) k a e = let same : one.1 ≡ after = ap (host_in host) e in subst (λ (h : HostState). Apart h.sockets) same (k.apart a)
asking_stays host after done (Err stop) k a e = absurd cc
