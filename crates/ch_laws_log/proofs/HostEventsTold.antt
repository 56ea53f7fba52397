-- What a host makes of events tells how its ends stand.
use Rattle.std.proofs.Common.{◌≡◌, ℕ, Bool, true, false, cond, List, ◌++◌, Ok, Err, refl, sym, ap, ◌∙◌, subst}
use Rattle.std.specs.Option.{option_map}
use Rattle.std.specs.Prelude.{find, is_some, ◌==◌, Option, Some, None}
use Rattle.ch_base.specs.declared.address.Address.{Address}
use Rattle.ch_wire.specs.Spelling.{request_spelling}
use Rattle.ch_link.specs.declared.LinkIn.TheVariants.{Late}
use Rattle.ch_model.specs.declared.step.SocketEvent.{SocketEvent}
use Rattle.ch_model.specs.declared.step.SocketEvent.TheVariants as events
use Rattle.ch_model.specs.declared.step.Step.{Step}
use Rattle.ch_model.specs.Host.{on_socket, joins, keeps, host_on}
use Rattle.ch_model.specs.HostCalls.{host_new, host_timer_runs}
use Rattle.ch_model.specs.HostItems.{is_gone}
use Rattle.ch_model.specs.HostLinks.{hears}
use Rattle.ch_model.specs.HostState.{Socket, HostState}
use Rattle.ch_model.specs.HostSteps.{Stepped, still, is_socket, link_with, own_address, with_socket}
use Rattle.ch_model.specs.HostWrites.{writes}
use Rattle.ch_model.specs.Stages.{Stage, Pending, Open, Ended, is_pending, is_open}
use Rattle.ch_laws_log.specs.HostEnds.{stage_at, IsSound, AllTold, opens_nothing}
use Rattle.ch_laws_log.proofs.HostTold.{number_found, at_rest}
use Rattle.ch_laws_log.proofs.HostTold as told
use Rattle.ch_laws_log.proofs.HostLinksTold.{heard}
use Rattle.ch_laws_log.proofs.HostItemsTold.{not_pending, socket_gone}

on_one : (test : Stage → Bool) (sock : ℕ) (f : Socket → HostState → Stepped) (host : HostState) → ((socket : Socket) → find (is_socket sock) host.sockets ≡ Some socket → test socket.stage ≡ true → AllTold host (f socket host)) → AllTold host (on_socket test sock f host)
on_one test sock f host each = by_socket (find (is_socket sock) host.sockets) refl where
  by_test : (socket : Socket) → find (is_socket sock) host.sockets ≡ Some socket → (b : Bool) → test socket.stage ≡ b → AllTold host (cond b (f socket host) (still host))
  by_test socket found true e = each socket found e
  by_test socket found false e = at_rest host

  by_socket : (o : Option Socket) → find (is_socket sock) host.sockets ≡ o → AllTold host (elim o as (λ x. Stepped) [
    | None ↦ still host
    | Some socket ↦ cond (test socket.stage) (f socket host) (still host)
  ])
  by_socket None found = at_rest host
  by_socket (Some socket) found = by_test socket found (test socket.stage) refl

fed_kept : (bytes : List ℕ) (sock : ℕ) (host : HostState) (socket : Socket) → find (is_socket sock) host.sockets ≡ Some socket → is_open socket.stage ≡ true → AllTold host (keeps bytes socket host)
fed_kept bytes sock host socket found stands = told.keeps (record socket { since = socket.since ++ bytes }) socket host (subst (λ (n : ℕ). find (is_socket n) host.sockets ≡ Some socket) (sym (number_found sock host.sockets socket found)) found) refl (λ p. absurd (not_pending socket.stage stands p))

-- an event that opens no end
pub event_told : (host : HostState) (event : SocketEvent) → opens_nothing event ≡ true → AllTold host (host_on host event)
unfolding host_on
event_told host (events.Joined sock) of = absurd cc
event_told host (events.Came sock peer_host) of = absurd cc
event_told host (events.Refused sock) of = on_one is_pending sock is_gone host (λ socket found e. socket_gone socket host)
event_told host (events.Fed sock bytes) of = on_one is_open sock (keeps bytes) host (fed_kept bytes sock host)
event_told host (events.Ended sock) of = on_one is_open sock is_gone host (λ socket found e. socket_gone socket host)
event_told host (events.Lost sock) of = on_one is_open sock is_gone host (λ socket found e. socket_gone socket host)
event_told host (events.Late end peer) of = by_test (host_timer_runs host end peer) where
  by_test : (b : Bool) → AllTold host (cond b (hears Late (link_with host end peer) host) (still host))
  by_test true = heard Late (link_with host end peer) host tt
  by_test false = at_rest host

-- ---- an end that is joined

-- the opener's end is open, and tells nothing more of its ends
pub joined_told : (host after : HostState) (sock : ℕ) (told_steps : List Step) → IsSound host → host_on host (events.Joined sock) ≡ Ok (told_steps, after) → stage_at host sock ≡ Some Pending → stage_at after sock ≡ Some Open
unfolding host_on
joined_told host after sock told_steps s is pending = by_socket (find (is_socket sock) host.sockets) refl is pending where
  host_in : Stepped → HostState
  host_in (Ok done) = done.1
  host_in (Err stop) = host

  opened_at : (socket : Socket) → socket.number ≡ sock → stage_at (with_socket (record socket { stage = Open }) host) sock ≡ Some Open
  opened_at socket e = ap (option_map (λ (w : Socket). w.stage)) (told.find_stored (record socket { stage = Open }) host.sockets sock ∙ ap (λ b. cond b (Some (record socket { stage = Open })) (find (is_socket sock) host.sockets)) (subst (λ (n : ℕ). (n == sock) ≡ true) (sym e) (told.number_same sock)))

  by_user : (socket : Socket) → socket.number ≡ sock → (user : Option (ℕ × Address)) → is_some user ≡ true → (elim user as (λ x. Stepped) [
    | None ↦ still host
    | Some user ↦ writes socket.number (request_spelling (record { target = user.1.id; from = own_address host user.0 })) (with_socket (record socket { stage = Open }) host)
  ]) ≡ Ok (told_steps, after) → stage_at after sock ≡ Some Open
  by_user socket e None u is = absurd cc
  by_user socket e (Some user) u is = subst (λ (h : HostState). stage_at h sock ≡ Some Open) (ap host_in is) (opened_at socket e)

  by_test : (socket : Socket) → find (is_socket sock) host.sockets ≡ Some socket → (b : Bool) → is_pending socket.stage ≡ b → cond b (joins socket host) (still host) ≡ Ok (told_steps, after) → is_pending socket.stage ≡ true → stage_at after sock ≡ Some Open
  by_test socket found true e is p = by_user socket (number_found sock host.sockets socket found) socket.user (s.used sock socket found p) is
  by_test socket found false e is p = absurd cc

  some_stage : (stage : Stage) → ◌≡◌ {A = Option Stage} (Some stage) (Some Pending) → is_pending stage ≡ true
  some_stage Pending e = refl
  some_stage Open e = absurd cc
  some_stage Ended e = absurd cc

  by_socket : (o : Option Socket) → find (is_socket sock) host.sockets ≡ o → (elim o as (λ x. Stepped) [
    | None ↦ still host
    | Some socket ↦ cond (is_pending socket.stage) (joins socket host) (still host)
  ]) ≡ Ok (told_steps, after) → option_map (λ (w : Socket). w.stage) o ≡ Some Pending → stage_at after sock ≡ Some Open
  by_socket None found is p = absurd cc
  by_socket (Some socket) found is p = by_test socket found (is_pending socket.stage) refl is (some_stage socket.stage p)

-- a host that has done nothing is sound
pub fresh_sound : (host : List ℕ) (port : ℕ) (circle : List (List ℕ)) → IsSound (host_new host port circle)
fresh_sound host port circle = record { apart = tt; free = λ k l. refl; used = λ n socket f. absurd cc }
