-- How a host's end of a socket stands, and what the steps that it tells say of it.
use Rattle.std.specs.Prelude.{◌≡◌, ℕ, ◌+◌, ◌*◌, ◌≤◌, Bool, true, false, cond, ◌==◌, List, [], ◌∷◌, find, is_some, Option, Some, None, Result, Ok, Err}
use Rattle.std.specs.Option.{option_map}
use Rattle.ch_model.specs.declared.local.LocalEntry.{LocalEntry}
use Rattle.ch_model.specs.declared.local.LocalEntry.TheVariants as local
use Rattle.ch_model.specs.declared.local.LocalEvent.{LocalEvent}
use Rattle.ch_model.specs.declared.local.LocalEvent.TheVariants as locals
use Rattle.ch_model.specs.declared.step.SocketEvent.{SocketEvent}
use Rattle.ch_model.specs.declared.step.SocketEvent.TheVariants as events
use Rattle.ch_model.specs.declared.step.Step.{Step}
use Rattle.ch_model.specs.declared.step.Step.TheVariants as steps
use Rattle.ch_model.specs.HostState.{Socket, HostState}
use Rattle.ch_model.specs.HostSteps.{is_socket}
use Rattle.ch_model.specs.Stages.{Stage, Pending, Ended, is_pending}
use Rattle.ch_laws_items.specs.Kept.{Apart}

-- how the host's end of the socket of this number stands, where there is one
abbrev pub stage_at : HostState → ℕ → Option Stage
stage_at host n = option_map (λ (socket : Socket). socket.stage) (find (is_socket n) host.sockets)

-- what a step tells of the socket of this number: dialed it is pending, down or left it is ended
abbrev pub stage_after : ℕ → Step → Option Stage → Option Stage
stage_after n (steps.Dial sock end peer) stage = cond (sock == n) (Some Pending) stage
stage_after n (steps.Down sock) stage = cond (sock == n) (option_map (λ (s : Stage). Ended) stage) stage
stage_after n (steps.Left sock) stage = cond (sock == n) (option_map (λ (s : Stage). Ended) stage) stage
stage_after n step stage = stage

abbrev pub stage_after_all : ℕ → List Step → Option Stage → Option Stage
stage_after_all n [] stage = stage
stage_after_all n (step ∷ rest) stage = stage_after_all n rest (stage_after n step stage)

-- a dial is of a socket that wasn't there
abbrev pub IsNewTo : ℕ → Step → Option Stage → Type 0
IsNewTo n (steps.Dial sock end peer) stage = (sock == n) ≡ true → stage ≡ None
IsNewTo n step stage = Unit {0}

abbrev pub AreNewTo : ℕ → List Step → Option Stage → Type 0
AreNewTo n [] stage = Unit {0}
AreNewTo n (step ∷ rest) stage = IsNewTo n step stage × AreNewTo n rest (stage_after n step stage)

-- A host whose sockets' numbers differ, whose next dials' numbers are free, and whose pending sockets are of a link.
pub record IsSound (host : HostState) : Type 0 where
  pub apart : Apart host.sockets
  pub free : (k : ℕ) → host.dials ≤ k → find (is_socket (2 * k)) host.sockets ≡ None
  pub used : (n : ℕ) (socket : Socket) → find (is_socket n) host.sockets ≡ Some socket → is_pending socket.stage ≡ true → is_some socket.user ≡ true

-- The steps tell how the ends of a host stand after them: it stays sound, each end stands as they say, and they dial new
-- sockets of even numbers alone.
pub record Tells (before : HostState) (told : List Step) (after : HostState) : Type 0 where
  pub sound : IsSound after
  pub stages : (n : ℕ) → stage_at after n ≡ stage_after_all n told (stage_at before n)
  pub new : (n : ℕ) → AreNewTo n told (stage_at before n)
  pub even : (k : ℕ) → stage_after_all (2 * k + 1) told None ≡ None

-- what a sound host does is told so
abbrev pub AllTold : {E : Type 0} → HostState → Result (List Step × HostState) E → Type 0
AllTold before (Ok done) = IsSound before → Tells before done.0 done.1
AllTold before (Err e) = Unit {0}

-- the event opens no end of a host
abbrev pub opens_nothing : SocketEvent → Bool
opens_nothing (events.Joined sock) = false
opens_nothing (events.Came sock peer_host) = false
opens_nothing event = true

-- nor does what a cell hears
abbrev pub opens_no_end : LocalEvent → Bool
opens_no_end (locals.Came mark sock peer_host) = false
opens_no_end (locals.Socket event) = opens_nothing event
opens_no_end event = true

-- the steps among what followed at a cell
abbrev pub steps_in : List LocalEntry → List Step
steps_in [] = []
steps_in (local.Step step ∷ rest) = step ∷ steps_in rest
steps_in (local.Note note ∷ rest) = steps_in rest
