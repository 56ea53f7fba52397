-- What a host does with each item that is read on one of its sockets.
use Rattle.std.specs.Prelude.{ℕ, ◌+◌, ◌*◌, Bool, true, not, ◌||◌, List, [], ◌∷◌, find, Option, Some, None, Result, Ok, Err, nat_lt, if◌then◌else◌}
use Rattle.std.specs.List.{list_any}
use Rattle.std.specs.Str.{bytes_eq}
use Rattle.ch_base.specs.declared.address.Address.{Address}
use Rattle.ch_base.specs.declared.event.Event.{Event}
use Rattle.ch_base.specs.declared.event.Event.TheVariants as events
use Rattle.ch_base.specs.declared.memory.Stop.TheVariants as stops
use Rattle.ch_wire.specs.declared.answer.Answer.{Answer}
use Rattle.ch_wire.specs.declared.answer.Answer.TheVariants as answers
use Rattle.ch_wire.specs.declared.frame.Frame.{Frame}
use Rattle.ch_wire.specs.declared.frame.Frame.TheVariants as frames
use Rattle.ch_wire.specs.declared.request.Request.{Request}
use Rattle.ch_reader.specs.declared.item.Item.{Item}
use Rattle.ch_reader.specs.declared.item.Item.TheVariants as items
use Rattle.ch_link.specs.Sockets.{names}
use Rattle.ch_link.specs.declared.LinkIn.TheVariants as inputs
use Rattle.ch_link.specs.declared.LinkAnswer.{LinkAnswer}
use Rattle.ch_link.specs.declared.LinkAnswer.TheVariants as links
use Rattle.ch_light.specs.Ids.{created_of, conn_of, closed_of}
use Rattle.ch_light.specs.declared.Connection.{Connection}
use Rattle.ch_light.specs.declared.error.LightError.{LightError}
use Rattle.ch_watch.specs.Same.{same_node}
use Rattle.ch_model.specs.declared.step.Step.TheVariants as steps
use Rattle.ch_model.specs.HostState.{Link, Socket, HostState}
use Rattle.ch_model.specs.HostSteps.{Stepped, still, ◌then◌, is_endpoint, is_open_endpoint, own_address, link_with, with_link, with_socket, with_endpoint}
use Rattle.ch_model.specs.HostWrites.{leaves, answers_and_leaves}
use Rattle.ch_model.specs.HostLinks.{hears}

-- the last number of a connection that arrives: they are odd, and numbers of 64 bits
abbrev pub most_arrived : ℕ
most_arrived = 9223372036854775808

-- an endpoint's node is told
abbrev pub posts : ℕ → Event → HostState → Stepped
posts end event host = Ok (steps.Post end event ∷ [], host)

-- ---- a link that loses its socket

-- the link hears that its socket is gone, where it names that socket; else the end is closed, and nothing else
abbrev pub gone_from : ℕ → Link → HostState → Stepped
gone_from sock link host = if names link.state sock then hears inputs.Gone link host else leaves sock host

-- a socket was refused, lost or ended, or a bad item was read on it
abbrev pub is_gone : Socket → HostState → Stepped
is_gone socket host = elim socket.user [
  | None ↦ leaves socket.number host
  | Some user ↦ gone_from socket.number (link_with host user.0 user.1) host
]

-- ---- a request

-- The host texts differ, or the peer's isn't taken here, or the address is the target's own.
abbrev pub is_mismatch : HostState → Option (List ℕ) → ℕ → Address → Bool
is_mismatch host None target peer = true
is_mismatch host (Some peer_host) target peer =
    not (bytes_eq peer.host peer_host) || (not (list_any (bytes_eq peer.host) host.circle) || same_node peer (own_address host target))

-- the checks ahead of the link table, in their order: an answer that they give
abbrev pub refusal_of : HostState → Socket → ℕ → Address → Option Answer
refusal_of host socket target peer =
    if is_mismatch host socket.peer_host target peer then Some answers.Mismatch
    else if list_any (is_open_endpoint target) host.ends then None
    else Some answers.Invalid

-- the link table decides, and the socket is for that link
abbrev pub asks_link : Socket → ℕ → Address → HostState → Stepped
asks_link socket target peer host = hears (inputs.Asked socket.number) (link_with host target peer) (with_socket (record socket { user = Some (target, peer) }) host)

-- a request was read
abbrev pub reads_request : Socket → Request → HostState → Stepped
reads_request socket request host = elim (refusal_of host socket request.target request.from) [
  | Some answer ↦ answers_and_leaves socket.number answer host
  | None ↦ asks_link socket request.target request.from host
]

-- ---- an answer, and frames

-- an answer as a link hears it
abbrev pub heard_answer : Answer → LinkAnswer
heard_answer answers.Accepted = links.Accepted
heard_answer answers.Invalid = links.Invalid
heard_answer answers.Crossed = links.Crossed
heard_answer answers.Mismatch = links.Mismatch

-- how many connections have arrived at an endpoint
abbrev pub arrived_at : HostState → ℕ → ℕ
arrived_at host end = elim (find (is_endpoint end) host.ends) [
  | None ↦ 0
  | Some endpoint ↦ endpoint.arrived
]

-- one more connection has arrived at an endpoint
abbrev pub with_arrival : ℕ → HostState → HostState
with_arrival end host = elim (find (is_endpoint end) host.ends) [
  | None ↦ host
  | Some endpoint ↦ with_endpoint (record endpoint { arrived = endpoint.arrived + 1 }) host
]

-- the number of the next connection that arrives at an endpoint
abbrev pub next_arrival : HostState → ℕ → ℕ
next_arrival host end = 2 * arrived_at host end + 1

-- a connection was opened under the link's next id
abbrev pub arrives : Socket → Link → Result (List Connection) LightError → HostState → Stepped
arrives socket link (Err e) host = is_gone socket host
arrives socket link (Ok created) host =
    if nat_lt (arrived_at host link.end) most_arrived
    then posts link.end (events.ConnectionOpened (next_arrival host link.end) link.peer) (with_arrival link.end (with_link (record link { created = created }) host))
    else Err stops.Worn

-- a connection was closed
abbrev pub closes : Socket → Link → Result (ℕ × List Connection) LightError → HostState → Stepped
closes socket link (Err e) host = is_gone socket host
closes socket link (Ok closed) host = posts link.end (events.ConnectionClosed closed.0) (with_link (record link { created = closed.1 }) host)

-- a payload came on a connection
abbrev pub receives : Socket → Link → List ℕ → Result ℕ LightError → HostState → Stepped
receives socket link payload (Err e) host = is_gone socket host
receives socket link payload (Ok conn) host = posts link.end (events.Received conn payload) host

-- a frame was read on a socket of this link
abbrev pub reads_frame : Socket → Link → Frame → HostState → Stepped
reads_frame socket link (frames.Created id) host = arrives socket link (created_of link.created id (next_arrival host link.end)) host
reads_frame socket link (frames.Closed id) host = closes socket link (closed_of link.created id) host
reads_frame socket link (frames.Data id payload) host = receives socket link payload (conn_of link.created id) host
reads_frame socket link frames.EndClosed host = hears inputs.EndClosed link host
reads_frame socket link frames.Probe host = hears inputs.Probe link host
reads_frame socket link frames.ProbeAck host = hears inputs.Ack link host

-- an item was read on a socket of this link
abbrev pub reads_on : Socket → Link → Item → HostState → Stepped
reads_on socket link (items.Request request) host = still host
reads_on socket link (items.Answer answer) host = hears (inputs.Answered (heard_answer answer)) link host
reads_on socket link (items.Frame frame) host = reads_frame socket link frame host

-- an item that isn't a request, on a socket
abbrev pub reads_other : Socket → Item → HostState → Stepped
reads_other socket item host = elim socket.user [
  | None ↦ still host
  | Some user ↦ reads_on socket (link_with host user.0 user.1) item host
]

-- an item that was read on a socket, with all that follows at this host
abbrev pub reads : Socket → Item → HostState → Stepped
reads socket (items.Request request) host = reads_request socket request host
reads socket item host = reads_other socket item host
