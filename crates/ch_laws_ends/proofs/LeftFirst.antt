-- A host that hears that its dial was refused leaves that end before all else.
use Rattle.std.proofs.Common.{◌≡◌, ℕ, Bool, true, false, cond, List, [], ◌∷◌, ◌++◌, Ok, Err, refl, sym, subst}
use Rattle.std.specs.Option.{option_map}
use Rattle.std.specs.Prelude.{find, Option, Some, None}
use Rattle.ch_base.specs.declared.address.Address.{Address}
use Rattle.ch_link.specs.Sockets.{names}
use Rattle.ch_link.specs.Table.{step_of}
use Rattle.ch_link.specs.declared.LinkIn.TheVariants.{Gone}
use Rattle.ch_link.specs.declared.LinkState.{LinkState}
use Rattle.ch_link.specs.declared.LinkState.TheVariants as states
use Rattle.ch_model.specs.declared.entry.Verdict.{Verdict}
use Rattle.ch_model.specs.declared.local.LocalEntry.{LocalEntry}
use Rattle.ch_model.specs.declared.local.LocalEntry.TheVariants as local
use Rattle.ch_model.specs.declared.local.LocalEvent.TheVariants as events
use Rattle.ch_model.specs.declared.step.SocketEvent.TheVariants as sockets
use Rattle.ch_model.specs.declared.step.Step.{Step}
use Rattle.ch_model.specs.declared.step.Step.TheVariants as steps
use Rattle.ch_model.specs.Cell.{Celled, answered, heard_as, host_did, cell_step}
use Rattle.ch_model.specs.CellSteps.{Followed, after_entries, ◌then◌, steps_on, all_items}
use Rattle.ch_model.specs.Greater.{is_greater}
use Rattle.ch_model.specs.Host.{host_on}
use Rattle.ch_model.specs.HostItems.{gone_from, is_gone}
use Rattle.ch_model.specs.HostLinks.{does_act, hears}
use Rattle.ch_model.specs.HostState.{Link, Socket, HostState}
use Rattle.ch_model.specs.HostSteps.{Stepped, still, is_socket, own_address, link_with, with_link}
use Rattle.ch_model.specs.HostWrites.{leaves}
use Rattle.ch_model.specs.Stages.{Stage, Pending, Open, Ended, is_pending}
use Rattle.ch_model.specs.WorldState.{Cell}
use Rattle.ch_laws_log.specs.HostEnds.{stage_at}
use Rattle.ch_laws_log.proofs.HostTold.{number_found}
use Rattle.ch_laws_log.proofs.Stored.{number_is}

-- the first step closes the end of this number
abbrev BeginsLeft : ℕ → List Step → Type 0
BeginsLeft n (steps.Left sock ∷ rest) = sock ≡ n
BeginsLeft n (steps.Down sock ∷ rest) = sock ≡ n
BeginsLeft n done = ⊥

abbrev AllBegin : ℕ → Stepped → Type 0
AllBegin n (Ok done) = BeginsLeft n done.0
AllBegin n (Err stop) = Unit {0}

-- the first entry of what followed does
abbrev pub ToldLeft : ℕ → List LocalEntry → Type 0
ToldLeft n (local.Step (steps.Left sock) ∷ rest) = sock ≡ n
ToldLeft n (local.Step (steps.Down sock) ∷ rest) = sock ≡ n
ToldLeft n told = ⊥

abbrev FollowedLeft : ℕ → Followed → Type 0
FollowedLeft n (Ok done) = ToldLeft n done.0
FollowedLeft n (Err stop) = Unit {0}

abbrev pub CelledLeft : ℕ → Celled → Type 0
CelledLeft n (Ok done) = ToldLeft n done.0.1
CelledLeft n (Err stop) = Unit {0}

-- ---- the host

act_left : (sock : ℕ) (state : LinkState) (greater : Bool) (link : Link) (host : HostState) → names state sock ≡ true → AllBegin sock (does_act (step_of state Gone greater).1 state Gone link host)
unfolding step_of
act_left sock (states.Dialing d) greater link host e = sym (number_is sock d e)
act_left sock (states.Up u probed) greater link host e = sym (number_is sock u e)
act_left sock states.Idle greater link host e = absurd cc
act_left sock states.AwaitOther greater link host e = absurd cc

gone_left : (socket : Socket) (host : HostState) → AllBegin socket.number (is_gone socket host)
gone_left socket host = by_user socket.user where
  by_test : (link : Link) (b : Bool) → names link.state socket.number ≡ b → AllBegin socket.number (cond b (hears Gone link host) (leaves socket.number host))
  by_test link true e = act_left socket.number link.state (is_greater (own_address host link.end) link.peer) (record link { state = (step_of link.state Gone (is_greater (own_address host link.end) link.peer)).0 }) (with_link (record link { state = (step_of link.state Gone (is_greater (own_address host link.end) link.peer)).0 }) host) e
  by_test link false e = refl

  by_user : (user : Option (ℕ × Address)) → AllBegin socket.number (elim user as (λ x. Stepped) [
    | None ↦ leaves socket.number host
    | Some user ↦ gone_from socket.number (link_with host user.0 user.1) host
  ])
  by_user None = refl
  by_user (Some user) = by_test (link_with host user.0 user.1) (names (link_with host user.0 user.1).state socket.number) refl

refused_left : (host : HostState) (n : ℕ) → stage_at host n ≡ Some Pending → AllBegin n (host_on host (sockets.Refused n))
unfolding host_on
refused_left host n pending = by_socket (find (is_socket n) host.sockets) refl pending where
  is_so : (stage : Stage) → ◌≡◌ {A = Option Stage} (Some stage) (Some Pending) → is_pending stage ≡ true
  is_so Pending e = refl
  is_so Open e = absurd cc
  is_so Ended e = absurd cc

  by_socket : (o : Option Socket) → find (is_socket n) host.sockets ≡ o → option_map (λ (w : Socket). w.stage) o ≡ Some Pending → AllBegin n (elim o as (λ x. Stepped) [
    | None ↦ still host
    | Some socket ↦ cond (is_pending socket.stage) (is_gone socket host) (still host)
  ])
  by_socket None found p = absurd cc
  by_socket (Some socket) found p = subst (λ (b : Bool). AllBegin n (cond b (is_gone socket host) (still host))) (sym (is_so socket.stage p)) (subst (λ (m : ℕ). AllBegin m (is_gone socket host)) (number_found n host.sockets socket found) (gone_left socket host))

-- ---- the cell

first_left : (n : ℕ) (xs ys : List LocalEntry) → ToldLeft n xs → ToldLeft n (xs ++ ys)
first_left n (local.Step (steps.Left sock) ∷ xs) ys t = t
first_left n (local.Step (steps.Down sock) ∷ xs) ys t = t
first_left n xs ys t = absurd t

steps_left : (n : ℕ) (done : List Step) (cell : Cell) → BeginsLeft n done → FollowedLeft n (steps_on done cell)
steps_left n (steps.Left sock ∷ rest) cell b = by_more (steps_on rest cell) where
  by_more : (more : Followed) → FollowedLeft n (after_entries (local.Step (steps.Left sock) ∷ []) more)
  by_more (Ok more) = b
  by_more (Err stop) = tt
steps_left n (steps.Down sock ∷ rest) cell b = by_more (steps_on rest cell) where
  by_more : (more : Followed) → FollowedLeft n (after_entries (local.Step (steps.Down sock) ∷ []) more)
  by_more (Ok more) = b
  by_more (Err stop) = tt
steps_left n done cell b = absurd b

then_left : (n : ℕ) (done : Followed) (f : Cell → Followed) → FollowedLeft n done → FollowedLeft n (done then f)
then_left n (Ok done) f t = by_more (f done.1) where
  by_more : (more : Followed) → FollowedLeft n (after_entries done.0 more)
  by_more (Ok more) = first_left n done.0 more.0 t
  by_more (Err stop) = tt
then_left n (Err stop) f t = tt

answered_left : (n : ℕ) (verdict : Verdict) (done : Followed) → FollowedLeft n done → CelledLeft n (answered verdict done)
answered_left n verdict (Ok done) t = t
answered_left n verdict (Err stop) t = tt

pub refused_first : (cell : Cell) (n : ℕ) → stage_at cell.host n ≡ Some Pending → CelledLeft n (cell_step cell (events.Socket (sockets.Refused n)))
refused_first cell n pending = by_done (host_on cell.host (sockets.Refused n)) (refused_left cell.host n pending) where
  by_done : (done : Stepped) → AllBegin n done → CelledLeft n (host_did (heard_as cell.host (sockets.Refused n)) cell done)
  by_done (Ok done) b = answered_left n (heard_as cell.host (sockets.Refused n)) (steps_on done.0 (record cell { host = done.1 }) then all_items) (then_left n (steps_on done.0 (record cell { host = done.1 })) all_items (steps_left n done.0 (record cell { host = done.1 }) b))
  by_done (Err stop) b = tt
