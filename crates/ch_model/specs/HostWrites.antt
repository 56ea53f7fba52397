-- What a host writes: answers and frames on a socket at once, and what waits for a link to be up.
use Rattle.std.specs.Prelude.{ℕ, Bool, true, false, List, [], ◌∷◌, ◌++◌, length, filter, find, map, Option, Some, None, Ok}
use Rattle.ch_wire.specs.Spelling.{answer_spelling, frame_spelling}
use Rattle.ch_wire.specs.declared.answer.Answer.{Answer}
use Rattle.ch_wire.specs.declared.frame.Frame.{Frame}
use Rattle.ch_link.specs.declared.LinkState.{LinkState}
use Rattle.ch_link.specs.declared.LinkState.TheVariants.{Dialing, Up}
use Rattle.ch_model.specs.declared.step.Place.{Place}
use Rattle.ch_model.specs.declared.step.Step.{Step}
use Rattle.ch_model.specs.declared.step.Step.TheVariants as steps
use Rattle.ch_model.specs.declared.step.Weight.{Weight}
use Rattle.ch_model.specs.declared.step.Weight.TheVariants.{Counted, Free}
use Rattle.ch_model.specs.Stages.{Ended}
use Rattle.ch_model.specs.HostState.{Link, Socket, HostState}
use Rattle.ch_model.specs.HostSteps.{Stepped, does, ◌then◌, is_socket, with_link, with_socket}

-- the place of the message that a payload carries
abbrev pub said_of : Weight → Option Place
said_of (Counted said) = said
said_of Free = None

abbrev pub is_counted : Weight → Bool
is_counted (Counted said) = true
is_counted Free = false

-- ---- one socket

-- bytes that carry no message are written
abbrev pub writes : ℕ → List ℕ → HostState → Stepped
writes sock bytes host = does (steps.Write sock bytes None) host

-- a frame of a link is written, with the place of its message
abbrev pub frame_step : ℕ → Frame × Weight → Step
frame_step sock item = steps.Write sock (frame_spelling item.0) (said_of item.1)

abbrev pub ended_in : Option Socket → HostState → HostState
ended_in None host = host
ended_in (Some socket) host = with_socket (record socket { stage = Ended; since = [] }) host

-- the host's end of a socket is ended, and what was read of it is dropped
abbrev pub end_socket : ℕ → HostState → HostState
end_socket sock host = ended_in (find (is_socket sock) host.sockets) host

-- an end that wasn't up is closed
abbrev pub leaves : ℕ → HostState → Stepped
leaves sock host = Ok (steps.Left sock ∷ [], end_socket sock host)

-- an end that was up is closed
abbrev pub goes_down : ℕ → HostState → Stepped
goes_down sock host = Ok (steps.Down sock ∷ [], end_socket sock host)

-- a request is answered, and its socket is closed
abbrev pub answers_and_leaves : ℕ → Answer → HostState → Stepped
answers_and_leaves sock answer host = writes sock (answer_spelling answer) host then leaves sock

-- ---- one link

abbrev pub is_up : LinkState → Bool
is_up (Up sock probed) = true
is_up state = false

-- how many counted payloads wait
abbrev pub counted_in : Link → ℕ
counted_in link = length (filter (λ item. is_counted item.1) link.waits)

-- What waits on a link is written on its socket, in order, and waits no more.
abbrev pub flushes_to : ℕ → Link → HostState → Stepped
flushes_to sock link host = Ok (map (frame_step sock) link.waits, with_link (record link { waits = [] }) host)

-- an item of the link is written at once where the link is up, and else waits
abbrev pub puts : Frame × Weight → Link → HostState → Stepped
puts item link host = elim link.state [
  | Up sock probed ↦ Ok (frame_step sock item ∷ [], with_link link host)
  | _ ↦ Ok ([], with_link (record link { waits = link.waits ++ item ∷ [] }) host)
]

-- a link that failed or was shut forgets what waited and all its connections, and begins its ids anew
abbrev pub forgotten : Link → LinkState → Link
forgotten link state = record link { state = state; waits = []; given = []; created = [] }

-- the socket that the link was up on goes down, and one that it was dialing is left
abbrev pub leaves_off : LinkState → HostState → Stepped
leaves_off (Up sock probed) host = goes_down sock host
leaves_off (Dialing sock) host = leaves sock host
leaves_off state host = Ok ([], host)
