-- What a host makes of an item that was read leaves no more unread.
use Rattle.std.proofs.Common.{◌≡◌, ◌≤◌, ℕ, ◌+◌, Bool, true, false, cond, List, length, Ok, Err, refl}
use Rattle.std.specs.Prelude.{find, Result, Option, Some, None, nat_lt}
use Rattle.ch_base.specs.declared.address.Address.{Address}
use Rattle.ch_base.specs.declared.event.Event.TheVariants as events
use Rattle.ch_base.specs.declared.memory.Stop.TheVariants as stops
use Rattle.ch_wire.specs.declared.answer.Answer.{Answer}
use Rattle.ch_wire.specs.declared.frame.Frame.{Frame}
use Rattle.ch_wire.specs.declared.frame.Frame.TheVariants as frames
use Rattle.ch_wire.specs.declared.request.Request.{Request}
use Rattle.ch_reader.specs.declared.item.Item.{Item}
use Rattle.ch_reader.specs.declared.item.Item.TheVariants as items
use Rattle.ch_link.specs.Sockets.{names}
use Rattle.ch_link.specs.declared.LinkIn.TheVariants as inputs
use Rattle.ch_light.specs.Ids.{created_of, conn_of, closed_of}
use Rattle.ch_light.specs.declared.Connection.{Connection}
use Rattle.ch_light.specs.declared.error.LightError.{LightError}
use Rattle.ch_model.specs.HostState.{Endpoint, Link, Socket, HostState}
use Rattle.ch_model.specs.HostSteps.{Stepped, still, link_with, with_link, with_socket, with_endpoint, is_endpoint}
use Rattle.ch_model.specs.HostWrites.{leaves, answers_and_leaves}
use Rattle.ch_model.specs.HostLinks.{hears}
use Rattle.ch_model.specs.HostItems.{most_arrived, posts, gone_from, is_gone, refusal_of, asks_link, reads_request, heard_answer, arrived_at, with_arrival, next_arrival, arrives, closes, receives, reads_frame, reads_on, reads_other, reads}
use Rattle.ch_laws_items.specs.Kept.{kept_at, KeepsNoMore, Fine}
use Rattle.ch_laws_items.proofs.Sockets.{same, onward, stores, ends}
use Rattle.ch_laws_items.proofs.Links.{at_rest, answered, heard}

-- from a host with as much unread
pub from : (one two : HostState) (done : Stepped) → KeepsNoMore one two → Fine two done → Fine one done
from one two (Ok done) k f = onward one two done.1 k f
from one two (Err stop) k f = tt

pub gone : (sock : ℕ) (link : Link) (host : HostState) → Fine host (gone_from sock link host)
gone sock link host = by_test (names link.state sock)
  where
    by_test : (b : Bool) → Fine host (cond b (hears inputs.Gone link host) (leaves sock host))
    by_test true = heard inputs.Gone link host
    by_test false = ends sock host

pub socket_gone : (socket : Socket) (host : HostState) → Fine host (is_gone socket host)
socket_gone socket host = by_user socket.user
  where
    by_user : (user : Option (ℕ × Address)) → Fine host (elim user [
      | None ↦ leaves socket.number host
      | Some user ↦ gone_from socket.number (link_with host user.0 user.1) host
    ])
    by_user None = ends socket.number host
    by_user (Some user) = gone socket.number (link_with host user.0 user.1) host

-- a request, on a socket that is kept with no more than stood under its number
requested : (socket : Socket) (request : Request) (host : HostState) → length socket.since ≤ kept_at socket.number host.sockets → Fine host (reads_request socket request host)
requested socket request host l = by_answer (refusal_of host socket request.target request.from)
  where
    by_answer : (answer : Option Answer) → Fine host (elim answer [
      | Some answer ↦ answers_and_leaves socket.number answer host
      | None ↦ asks_link socket request.target request.from host
    ])
    by_answer (Some answer) = answered socket.number answer host
    by_answer None = from host (with_socket (record socket { user = Some (request.target, request.from) }) host) (asks_link socket request.target request.from host) (stores (record socket { user = Some (request.target, request.from) }) host l) (heard (inputs.Asked socket.number) (link_with host request.target request.from) (with_socket (record socket { user = Some (request.target, request.from) }) host))

-- one more connection has arrived
arrival : (end : ℕ) (host : HostState) → (with_arrival end host).sockets ≡ host.sockets
arrival end host = by_endpoint (find (is_endpoint end) host.ends)
  where
    by_endpoint : (o : Option Endpoint) → (elim o as (λ o. HostState) [
      | None ↦ host
      | Some endpoint ↦ with_endpoint (record endpoint { arrived = endpoint.arrived + 1 }) host
    ]).sockets ≡ host.sockets
    by_endpoint None = refl
    by_endpoint (Some endpoint) = refl

arrived : (socket : Socket) (link : Link) (created : Result (List Connection) LightError) (host : HostState) → Fine host (arrives socket link created host)
arrived socket link (Err e) host = socket_gone socket host
arrived socket link (Ok created) host = by_test (nat_lt (arrived_at host link.end) most_arrived)
  where
    by_test : (b : Bool) → Fine host (cond b (posts link.end (events.ConnectionOpened (next_arrival host link.end) link.peer) (with_arrival link.end (with_link (record link { created = created }) host))) (Err stops.Worn))
    by_test true = same host (with_arrival link.end (with_link (record link { created = created }) host)) (arrival link.end (with_link (record link { created = created }) host))
    by_test false = tt

closed : (socket : Socket) (link : Link) (done : Result (ℕ × List Connection) LightError) (host : HostState) → Fine host (closes socket link done host)
closed socket link (Err e) host = socket_gone socket host
closed socket link (Ok done) host = same host _ refl

received : (socket : Socket) (link : Link) (payload : List ℕ) (conn : Result ℕ LightError) (host : HostState) → Fine host (receives socket link payload conn host)
received socket link payload (Err e) host = socket_gone socket host
received socket link payload (Ok conn) host = at_rest host

framed : (socket : Socket) (link : Link) (frame : Frame) (host : HostState) → Fine host (reads_frame socket link frame host)
framed socket link (frames.Created id) host = arrived socket link (created_of link.created id (next_arrival host link.end)) host
framed socket link (frames.Closed id) host = closed socket link (closed_of link.created id) host
framed socket link (frames.Data id payload) host = received socket link payload (conn_of link.created id) host
framed socket link frames.EndClosed host = heard inputs.EndClosed link host
framed socket link frames.Probe host = heard inputs.Probe link host
framed socket link frames.ProbeAck host = heard inputs.Ack link host

read_on : (socket : Socket) (link : Link) (item : Item) (host : HostState) → Fine host (reads_on socket link item host)
read_on socket link (items.Request request) host = at_rest host
read_on socket link (items.Answer answer) host = heard (inputs.Answered (heard_answer answer)) link host
read_on socket link (items.Frame frame) host = framed socket link frame host

read_other : (socket : Socket) (item : Item) (host : HostState) → Fine host (reads_other socket item host)
read_other socket item host = by_user socket.user
  where
    by_user : (user : Option (ℕ × Address)) → Fine host (elim user [
      | None ↦ still host
      | Some user ↦ reads_on socket (link_with host user.0 user.1) item host
    ])
    by_user None = at_rest host
    by_user (Some user) = read_on socket (link_with host user.0 user.1) item host

-- an item, on a socket that is kept with no more than stood under its number
pub read : (socket : Socket) (item : Item) (host : HostState) → length socket.since ≤ kept_at socket.number host.sockets → Fine host (reads socket item host)
read socket (items.Request request) host l = requested socket request host l
read socket (items.Answer answer) host l = read_other socket (items.Answer answer) host
read socket (items.Frame frame) host l = read_other socket (items.Frame frame) host
