-- How a host's end of a socket stands, and what the steps that the host tells say of it.
use Rattle.std.specs.Prelude.{◌≡◌, ℕ, ◌+◌, ◌*◌, Bool, true, false, cond, ◌==◌, List, [], ◌∷◌, find, Option, Some, None}
use Rattle.std.specs.Option.{option_map}
use Rattle.ch_model.specs.declared.step.SocketEvent.{SocketEvent}
use Rattle.ch_model.specs.declared.step.SocketEvent.TheVariants as events
use Rattle.ch_model.specs.declared.step.Step.{Step}
use Rattle.ch_model.specs.declared.step.Step.TheVariants as steps
use Rattle.ch_model.specs.Stages.{Stage, Pending, Open, Ended}
use Rattle.ch_model.specs.HostState.{Socket, HostState}
use Rattle.ch_model.specs.HostSteps.{is_socket}
use Rattle.ch_laws_links.specs.Naming.{Word, IsUp, stage_says}

-- an end is pending; or open and not up; or up; or it has ended
pub data Standing : Type 0 where
  IsPending : Standing
  IsOpen : Standing
  IsRisen : Standing
  IsOver : Standing

-- an end is up where it is open and says so
abbrev pub standing : Stage → Word → Standing
standing Pending word = IsPending
standing Open IsUp = IsRisen
standing Open word = IsOpen
standing Ended word = IsOver

-- how the end of a host's record stands
abbrev pub standing_of : Socket → Standing
standing_of socket = standing socket.stage (stage_says socket.stage socket.expected)

-- how the host's end of the socket of this number stands, where there is one
abbrev pub standing_at : HostState → ℕ → Option Standing
standing_at host n = option_map standing_of (find (is_socket n) host.sockets)

-- what a step tells of the socket of this number: dialed it is pending; a link came up on it; down or left it has ended
abbrev pub standing_after : Step → ℕ → Option Standing → Option Standing
standing_after (steps.Dial sock end peer) n now = cond (sock == n) (Some IsPending) now
standing_after (steps.Up sock) n now = cond (sock == n) (option_map (λ (s : Standing). IsRisen) now) now
standing_after (steps.Down sock) n now = cond (sock == n) (option_map (λ (s : Standing). IsOver) now) now
standing_after (steps.Left sock) n now = cond (sock == n) (option_map (λ (s : Standing). IsOver) now) now
standing_after step n now = now

-- what steps tell of it, one after another
abbrev pub standing_after_all : List Step → ℕ → Option Standing → Option Standing
standing_after_all [] n now = now
standing_after_all (step ∷ rest) n now = standing_after_all rest n (standing_after step n now)

-- the end is open, and perhaps up
abbrev pub is_there : Option Standing → Bool
is_there (Some IsOpen) = true
is_there (Some IsRisen) = true
is_there now = false

-- the end is pending, or open and not up
abbrev pub is_unrisen : Option Standing → Bool
is_unrisen (Some IsPending) = true
is_unrisen (Some IsOpen) = true
is_unrisen now = false

-- Where ends stand so, the step is one that may be told: a dial is of a new socket; what is read or written is at an end that is open;
-- what comes up was open and not up; what goes down was up; and what is left wasn't.
abbrev pub IsRight : (ℕ → Option Standing) → Step → Type 0
IsRight now (steps.Dial sock end peer) = now sock ≡ None
IsRight now (steps.Read sock) = is_there (now sock) ≡ true
IsRight now (steps.Write sock bytes said) = is_there (now sock) ≡ true
IsRight now (steps.Up sock) = now sock ≡ Some IsOpen
IsRight now (steps.Down sock) = now sock ≡ Some IsRisen
IsRight now (steps.Left sock) = is_unrisen (now sock) ≡ true
IsRight now step = Unit {0}

-- each may be told after those before it
abbrev pub AreRight : (ℕ → Option Standing) → List Step → Type 0
AreRight now [] = Unit {0}
AreRight now (step ∷ rest) = IsRight now step × AreRight (λ n. standing_after step n (now n)) rest

-- an end that was pending is open once it is joined
abbrev pub joined : Option Standing → Option Standing
joined (Some IsPending) = Some IsOpen
joined now = now

-- what an event does to an end before anything is told: one that is joined, or comes, is open
abbrev pub standing_heard : SocketEvent → ℕ → Option Standing → Option Standing
standing_heard (events.Joined sock) n now = cond (sock == n) (joined now) now
standing_heard (events.Came sock peer_host) n now = cond (sock == n) (Some IsOpen) now
standing_heard event n now = now

-- an end that comes has an odd number, which is free
abbrev pub ComesFree : HostState → SocketEvent → Type 0
ComesFree host (events.Came sock peer_host) = (k : ℕ) × (sock ≡ 2 * k + 1) × (find (is_socket sock) host.sockets ≡ None)
ComesFree host event = Unit {0}

-- Where ends stand so, the steps are ones that may be told, and ends stand as they say after them.
pub record TellsEnds (now : ℕ → Option Standing) (told : List Step) (after : HostState) : Type 0 where
  pub right : AreRight now told
  pub stands : (n : ℕ) → standing_at after n ≡ standing_after_all told n (now n)
