-- An end that is joined, and the end of a socket's input: what a host writes of that, and what it changes of a link's ids.
use Rattle.std.proofs.Common.{◌≡◌, ℕ, Bool, true, false, cond, [], ◌∷◌, Ok, Err, refl, sym, ap, ◌∙◌, subst}
use Rattle.std.specs.Prelude.{find, Option, Some, None, ◌==◌}
use Rattle.ch_base.specs.declared.address.Address.{Address}
use Rattle.ch_wire.specs.Spelling.{IsRequest, request_spelling}
use Rattle.ch_wire.specs.declared.request.Request.{Request}
use Rattle.ch_reader.specs.declared.item.Item.TheVariants as items
use Rattle.ch_model.specs.declared.step.SocketEvent.TheVariants as events
use Rattle.ch_model.specs.declared.step.Step.TheVariants as steps
use Rattle.ch_model.specs.Host.{joins, host_on}
use Rattle.ch_model.specs.HostItems.{is_gone}
use Rattle.ch_model.specs.HostState.{Link, Socket, HostState}
use Rattle.ch_model.specs.HostSteps.{Stepped, still, own_address, link_with, with_socket, is_socket}
use Rattle.ch_model.specs.HostWrites.{writes}
use Rattle.ch_model.specs.Stages.{Stage, Pending, Open, Ended, is_pending, is_open}
use Rattle.ch_laws_items.proofs.Sockets.{number_is}
use Rattle.ch_laws_log.proofs.HostTold.{number_found}
use Rattle.ch_laws_writes.specs.Dues.{Due, Asking, due_of, due_staged, due_asked, due_at}
use Rattle.ch_laws_writes.specs.Orderly.{IsOrderly}
use Rattle.ch_laws_calls.specs.FitsFit.{HostHolds, frames_in}
use Rattle.ch_laws_calls.specs.FitsTurns.{NoDials, IsKind}
use Rattle.ch_laws_calls.proofs.FitsStores.{none_kind, only_at, only_kind, only_spelled}
use Rattle.ch_laws_calls.proofs.FitsCalls.{IsOwn, link_with_own, AllTurned}
use Rattle.ch_laws_calls.proofs.FitsHalves.{unheard}
use Rattle.ch_laws_calls.proofs.FitsItems.{well, unstored, half_turn, gone}

nobody : Address
nobody = record { host = []; port = 0; id = 0 }

-- nothing is done
at_rest : (own : ℕ → Address) (host : HostState) → IsOrderly own host → HostHolds host → AllTurned own host (still host)
at_rest own host o holds = (link.end, link.peer, half_turn own host host link [] l.is (unheard own (due_at host) host.links link [] host (well host link l) (unstored host link l) (λ n. []) (λ n. refl) (λ n. none_kind own (due_at host n)) (λ n. refl) (λ n. refl) tt)) where
  link : Link
  link = link_with host 0 nobody

  l : IsOwn host link
  l = link_with_own own host 0 nobody o holds

pub ended_turned : (own : ℕ → Address) (host : HostState) (sock : ℕ) → IsOrderly own host → HostHolds host → AllTurned own host (host_on host (events.Ended sock))
unfolding host_on
ended_turned own host sock o holds = by_socket (find (is_socket sock) host.sockets) where
  by_test : (socket : Socket) (b : Bool) → AllTurned own host (cond b (is_gone socket host) (still host))
  by_test socket true = gone own host socket o holds
  by_test socket false = at_rest own host o holds

  by_socket : (x : Option Socket) → AllTurned own host (elim x as (λ x. Stepped) [
    | None ↦ still host
    | Some socket ↦ cond (is_open socket.stage) (is_gone socket host) (still host)
  ])
  by_socket None = at_rest own host o holds
  by_socket (Some socket) = by_test socket (is_open socket.stage)

-- the request is written
asked : (own : ℕ → Address) (host : HostState) (socket : Socket) (user : ℕ × Address) → IsOrderly own host → HostHolds host → find (is_socket socket.number) host.sockets ≡ Some socket → is_pending socket.stage ≡ true → socket.user ≡ Some user
    → AllTurned own host (writes socket.number (request_spelling (record { target = user.1.id; from = own_address host user.0 })) (with_socket (record socket { stage = Open }) host))
asked own host socket user o holds found pending u = (
  link.end,
  link.peer,
  half_turn own host (with_socket (record socket { stage = Open }) host) link (steps.Write socket.number (request_spelling request) None ∷ []) l.is
      (unheard own (due_at host) host.links link (steps.Write socket.number (request_spelling request) None ∷ []) (with_socket (record socket { stage = Open }) host) (well host link l) (unstored host link l) (only_at socket.number (items.Request request ∷ [])) (λ n. only_spelled socket.number n (items.Request request ∷ []))
      (only_kind own (due_at host) socket.number (items.Request request ∷ []) (λ n h. number_is socket.number n h) (subst (λ (d : Option Due). IsKind own d (items.Request request ∷ [])) (sym asking) (λ r. (subst (λ (a : Address). IsRequest (record { target = user.1.id; from = a })) (sym (o.own_is user.0)) r, tt))))
      (λ n. no_frames (socket.number == n)) (λ n. refl) tt),
)
  where
    request : Request
    request = record { target = user.1.id; from = own_address host user.0 }

    link : Link
    link = link_with host 0 nobody

    l : IsOwn host link
    l = link_with_own own host 0 nobody o holds

    no_frames : (b : Bool) → frames_in (cond b (items.Request request ∷ []) []) ≡ []
    no_frames true = refl
    no_frames false = refl

    asking : due_at host socket.number ≡ Some (Asking user.0 user.1)
    asking = ap due_of found ∙ by_stage socket.stage pending where
      by_stage : (stage : Stage) → is_pending stage ≡ true → due_staged stage socket ≡ Some (Asking user.0 user.1)
      by_stage Pending e = ap due_asked u
      by_stage Open e = absurd cc
      by_stage Ended e = absurd cc

pub joined_turned : (own : ℕ → Address) (host : HostState) (sock : ℕ) → IsOrderly own host → HostHolds host → AllTurned own host (host_on host (events.Joined sock))
unfolding host_on
joined_turned own host sock o holds = by_socket (find (is_socket sock) host.sockets) refl where
  by_user : (socket : Socket) → find (is_socket socket.number) host.sockets ≡ Some socket → is_pending socket.stage ≡ true → (w : Option (ℕ × Address)) → socket.user ≡ w → AllTurned own host (elim w as (λ w. Stepped) [
    | None ↦ still host
    | Some user ↦ writes socket.number (request_spelling (record { target = user.1.id; from = own_address host user.0 })) (with_socket (record socket { stage = Open }) host)
  ])
  by_user socket found pending None u = at_rest own host o holds
  by_user socket found pending (Some user) u = asked own host socket user o holds found pending u

  by_test : (socket : Socket) → find (is_socket socket.number) host.sockets ≡ Some socket → (b : Bool) → is_pending socket.stage ≡ b → AllTurned own host (cond b (joins socket host) (still host))
  by_test socket found true e = by_user socket found e socket.user refl
  by_test socket found false e = at_rest own host o holds

  by_socket : (x : Option Socket) → find (is_socket sock) host.sockets ≡ x → AllTurned own host (elim x as (λ x. Stepped) [
    | None ↦ still host
    | Some socket ↦ cond (is_pending socket.stage) (joins socket host) (still host)
  ])
  by_socket None e = at_rest own host o holds
  by_socket (Some socket) e = by_test socket (subst (λ (m : ℕ). find (is_socket m) host.sockets ≡ Some socket) (sym (number_found sock host.sockets socket e)) e) (is_pending socket.stage) refl

-- nothing is dialed there
abbrev pub AllAlone : Stepped → Type 0
AllAlone (Ok done) = NoDials done.0
AllAlone (Err stop) = Unit {0}

pub joined_alone : (host : HostState) (sock : ℕ) → AllAlone (host_on host (events.Joined sock))
unfolding host_on
joined_alone host sock = by_socket (find (is_socket sock) host.sockets) where
  by_user : (socket : Socket) (w : Option (ℕ × Address)) → AllAlone (elim w as (λ w. Stepped) [
    | None ↦ still host
    | Some user ↦ writes socket.number (request_spelling (record { target = user.1.id; from = own_address host user.0 })) (with_socket (record socket { stage = Open }) host)
  ])
  by_user socket None = tt
  by_user socket (Some user) = tt

  by_test : (socket : Socket) (b : Bool) → AllAlone (cond b (joins socket host) (still host))
  by_test socket true = by_user socket socket.user
  by_test socket false = tt

  by_socket : (x : Option Socket) → AllAlone (elim x as (λ x. Stepped) [
    | None ↦ still host
    | Some socket ↦ cond (is_pending socket.stage) (joins socket host) (still host)
  ])
  by_socket None = tt
  by_socket (Some socket) = by_test socket (is_pending socket.stage)
