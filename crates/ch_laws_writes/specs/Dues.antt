-- What an end of a socket writes next, and what the steps that a host tells say of it.
use Rattle.std.specs.Prelude.{◌≡◌, ℕ, true, cond, ◌==◌, List, [], ◌∷◌, find, Option, Some, None}
use Rattle.std.specs.Str.{bytes_eq}
use Rattle.ch_base.specs.declared.address.Address.{Address}
use Rattle.ch_wire.specs.Spelling.{IsFrame, request_spelling, answer_spelling, frame_spelling}
use Rattle.ch_wire.specs.declared.answer.Answer.{Answer}
use Rattle.ch_wire.specs.declared.answer.Answer.TheVariants.{Accepted}
use Rattle.ch_wire.specs.declared.frame.Frame.{Frame}
use Rattle.ch_reader.specs.declared.item.Expected.{Expected}
use Rattle.ch_reader.specs.declared.item.Expected.TheVariants as expected
use Rattle.ch_model.specs.declared.local.LocalEvent.{LocalEvent}
use Rattle.ch_model.specs.declared.local.LocalEvent.TheVariants as locals
use Rattle.ch_model.specs.declared.step.SocketEvent.{SocketEvent}
use Rattle.ch_model.specs.declared.step.SocketEvent.TheVariants as events
use Rattle.ch_model.specs.declared.step.Step.{Step}
use Rattle.ch_model.specs.declared.step.Step.TheVariants as steps
use Rattle.ch_model.specs.HostState.{Socket, HostState}
use Rattle.ch_model.specs.HostSteps.{is_socket}
use Rattle.ch_model.specs.Stages.{Stage, Pending, Open, Ended}

-- what an end writes next: the request of an endpoint to a peer, or an answer; or else a frame, and only frames from then on
pub data Due : Type 0 where
  Asking : (end : ℕ) → (peer : Address) → Due
  Answering : Due
  Framing : Due

-- an open end that hasn't read its request answers next; any other writes frames
abbrev pub due_open : Expected → Due
due_open expected.Request = Answering
due_open e = Framing

-- a dialed end asks for the endpoint and the peer whose link dialed it
abbrev pub due_asked : Option (ℕ × Address) → Option Due
due_asked None = None
due_asked (Some user) = Some (Asking user.0 user.1)

-- what an end that stands so writes next, by the record of its socket; one that has ended writes nothing
abbrev pub due_staged : Stage → Socket → Option Due
due_staged Pending socket = due_asked socket.user
due_staged Open socket = Some (due_open socket.expected)
due_staged Ended socket = None

abbrev pub due_of : Option Socket → Option Due
due_of None = None
due_of (Some socket) = due_staged socket.stage socket

-- what a host's end of the socket of this number writes next, if anything
abbrev pub due_at : HostState → ℕ → Option Due
due_at host n = due_of (find (is_socket n) host.sockets)

-- ---- steps

-- What is written next after these bytes: frames. After an answer other than the one that accepts, nothing.
abbrev pub due_past : List ℕ → Option Due → Option Due
due_past bytes None = None
due_past bytes (Some (Asking end peer)) = Some Framing
due_past bytes (Some Answering) = cond (bytes_eq bytes (answer_spelling Accepted)) (Some Framing) None
due_past bytes (Some Framing) = Some Framing

-- What is written next on the socket of this number after a step: dialed, a request; down or left, nothing.
abbrev pub due_after : ℕ → Step → Option Due → Option Due
due_after n (steps.Dial sock end peer) due = cond (sock == n) (Some (Asking end peer)) due
due_after n (steps.Write sock bytes said) due = cond (sock == n) (due_past bytes due) due
due_after n (steps.Down sock) due = cond (sock == n) None due
due_after n (steps.Left sock) due = cond (sock == n) None due
due_after n step due = due

abbrev pub due_after_all : ℕ → List Step → Option Due → Option Due
due_after_all n [] due = due
due_after_all n (step ∷ rest) due = due_after_all n rest (due_after n step due)

-- These bytes are what is due, whole and alone: the request from the endpoint's own address to the peer's, an answer, or a frame
-- that may be read.
abbrev pub IsDue : (ℕ → Address) → Option Due → List ℕ → Type 0
IsDue own None bytes = ⊥
IsDue own (Some (Asking end peer)) bytes = bytes ≡ request_spelling (record { target = peer.id; from = own end })
IsDue own (Some Answering) bytes = (answer : Answer) × (bytes ≡ answer_spelling answer)
IsDue own (Some Framing) bytes = (frame : Frame) × IsFrame frame × (bytes ≡ frame_spelling frame)

-- what a step writes on the socket of this number is due
abbrev pub WritesDue : (ℕ → Address) → ℕ → Step → Option Due → Type 0
WritesDue own n (steps.Write sock bytes said) due = (sock == n) ≡ true → IsDue own due bytes
WritesDue own n step due = Unit {0}

-- each of these steps writes on it what is due then
abbrev pub AllDue : (ℕ → Address) → ℕ → List Step → Option Due → Type 0
AllDue own n [] due = Unit {0}
AllDue own n (step ∷ rest) due = WritesDue own n step due × AllDue own n rest (due_after n step due)

-- Under each number the steps write what is due, and lead from what was due there to what is due after them.
pub record Writes (own : ℕ → Address) (before : ℕ → Option Due) (told : List Step) (after : ℕ → Option Due) : Type 0 where
  pub due : (n : ℕ) → AllDue own n told (before n)
  pub leads : (n : ℕ) → after n ≡ due_after_all n told (before n)

-- a socket that came answers first; no other event changes what is due
abbrev pub due_heard : SocketEvent → ℕ → Option Due → Option Due
due_heard (events.Came sock peer_host) n due = cond (sock == n) (Some Answering) due
due_heard event n due = due

-- nor does what a cell hears
abbrev pub due_told : LocalEvent → ℕ → Option Due → Option Due
due_told (locals.Came mark sock peer_host) n due = due_heard (events.Came sock peer_host) n due
due_told (locals.Socket event) n due = due_heard event n due
due_told event n due = due
