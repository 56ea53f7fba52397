-- A host that reads an item, or whose socket's input ends, dials nothing.
use Rattle.std.proofs.Common.{◌≡◌, ℕ, Bool, true, false, cond, List, [], ◌∷◌, drop, Ok, Err, subst}
use Rattle.std.specs.Prelude.{find, Option, Some, None, Result, nat_lt}
use Rattle.ch_base.specs.declared.address.Address.{Address}
use Rattle.ch_base.specs.declared.event.Event.TheVariants as events
use Rattle.ch_base.specs.declared.memory.Stop.TheVariants as stops
use Rattle.ch_wire.specs.declared.answer.Answer.{Answer}
use Rattle.ch_wire.specs.declared.frame.Frame.{Frame}
use Rattle.ch_wire.specs.declared.frame.Frame.TheVariants as frames
use Rattle.ch_wire.specs.declared.request.Request.{Request}
use Rattle.ch_reader.specs.declared.item.Expected.TheVariants as expected
use Rattle.ch_reader.specs.declared.item.Front.{Front}
use Rattle.ch_reader.specs.declared.item.Front.TheVariants.{Unfinished, Whole, Refused}
use Rattle.ch_reader.specs.declared.item.Item.{Item}
use Rattle.ch_reader.specs.declared.item.Item.TheVariants as items
use Rattle.ch_light.specs.declared.Connection.{Connection}
use Rattle.ch_light.specs.declared.error.LightError.{LightError}
use Rattle.ch_light.specs.Ids.{created_of, conn_of, closed_of}
use Rattle.ch_link.specs.Sockets.{names}
use Rattle.ch_link.specs.Table.{step_of}
use Rattle.ch_link.specs.declared.LinkAnswer.TheVariants as links
use Rattle.ch_link.specs.declared.LinkIn.{LinkIn}
use Rattle.ch_link.specs.declared.LinkIn.TheVariants as inputs
use Rattle.ch_link.specs.declared.LinkState.{LinkState}
use Rattle.ch_link.specs.declared.LinkState.TheVariants as states
use Rattle.ch_model.specs.declared.step.SocketEvent.TheVariants as sockets
use Rattle.ch_model.specs.declared.step.Step.{Step}
use Rattle.ch_model.specs.declared.step.Step.TheVariants as steps
use Rattle.ch_model.specs.Greater.{is_greater}
use Rattle.ch_model.specs.Host.{front_of, handles, host_on, host_next}
use Rattle.ch_model.specs.HostItems.{most_arrived, posts, gone_from, is_gone, refusal_of, asks_link, reads_request, heard_answer, arrived_at, with_arrival, next_arrival, arrives, closes, receives, reads_frame, reads_on, reads_other, reads}
use Rattle.ch_model.specs.HostLinks.{does_act, hears}
use Rattle.ch_model.specs.HostState.{Link, Socket, HostState}
use Rattle.ch_model.specs.HostSteps.{Stepped, still, after_steps, own_address, link_with, with_link, with_socket, is_socket}
use Rattle.ch_model.specs.HostWrites.{leaves, answers_and_leaves}
use Rattle.ch_model.specs.Stages.{is_open}
use Rattle.ch_laws_calls.specs.FitsTurns.{NoDials}
use Rattle.ch_laws_calls.proofs.FitsEvents.{AllAlone}
use Rattle.ch_laws_calls.proofs.FitsStores.{waits_alone}
use Rattle.ch_laws_plain.proofs.ReadsTurns.{next_done}

-- all that a link may hear, but for what its endpoint asks of it
abbrev pub IsUnwanted : LinkIn → Type 0
IsUnwanted (inputs.Want sock) = ⊥
IsUnwanted inputs.Shut = ⊥
IsUnwanted input = Unit {0}

heard_in : (host : HostState) (link : Link) (state : LinkState) (input : LinkIn) (greater : Bool) → IsUnwanted input
    → AllAlone (does_act (step_of state input greater).1 state input (record link { state = (step_of state input greater).0 }) (with_link (record link { state = (step_of state input greater).0 }) host))
unfolding step_of
heard_in host link state (inputs.Want n) greater m = absurd m
heard_in host link state inputs.Shut greater m = absurd m
heard_in host link states.Idle (inputs.Asked s) greater m = waits_alone s link.waits
heard_in host link states.AwaitOther (inputs.Asked s) greater m = waits_alone s link.waits
heard_in host link (states.Dialing d) (inputs.Asked s) true m = tt
heard_in host link (states.Dialing d) (inputs.Asked s) false m = waits_alone s link.waits
heard_in host link (states.Up u false) (inputs.Asked s) greater m = tt
heard_in host link (states.Up u true) (inputs.Asked s) greater m = tt
heard_in host link (states.Dialing d) (inputs.Answered links.Accepted) greater m = waits_alone d link.waits
heard_in host link (states.Dialing d) (inputs.Answered links.Crossed) greater m = tt
heard_in host link (states.Dialing d) (inputs.Answered links.Invalid) greater m = tt
heard_in host link (states.Dialing d) (inputs.Answered links.Mismatch) greater m = tt
heard_in host link (states.Dialing d) inputs.Gone greater m = tt
heard_in host link (states.Up u probed) inputs.Gone greater m = tt
heard_in host link (states.Up u probed) inputs.EndClosed greater m = tt
heard_in host link (states.Up u probed) inputs.Probe greater m = tt
heard_in host link (states.Up u probed) inputs.Ack greater m = tt
heard_in host link (states.Dialing d) inputs.Late greater m = tt
heard_in host link states.AwaitOther inputs.Late greater m = tt
heard_in host link (states.Up u true) inputs.Late greater m = tt
heard_in host link state input greater m = tt

-- a link that hears of anything but a want or its end
pub heard_alone : (input : LinkIn) (link : Link) (host : HostState) → IsUnwanted input → AllAlone (hears input link host)
heard_alone input link host m = heard_in host link link.state input (is_greater (own_address host link.end) link.peer) m

pub gone_alone : (socket : Socket) (host : HostState) → AllAlone (is_gone socket host)
gone_alone socket host = by_user socket.user where
  by_names : (link : Link) (b : Bool) → AllAlone (cond b (hears inputs.Gone link host) (leaves socket.number host))
  by_names link true = heard_alone inputs.Gone link host tt
  by_names link false = tt

  by_user : (o : Option (ℕ × Address)) → AllAlone (elim o as (λ x. Stepped) [
    | None ↦ leaves socket.number host
    | Some user ↦ gone_from socket.number (link_with host user.0 user.1) host
  ])
  by_user None = tt
  by_user (Some user) = by_names (link_with host user.0 user.1) (names (link_with host user.0 user.1).state socket.number)

requested_alone : (socket : Socket) (request : Request) (host : HostState) → AllAlone (reads_request socket request host)
requested_alone socket request host = by_answer (refusal_of host socket request.target request.from) where
  by_answer : (answer : Option Answer) → AllAlone (elim answer as (λ x. Stepped) [
    | Some answer ↦ answers_and_leaves socket.number answer host
    | None ↦ asks_link socket request.target request.from host
  ])
  by_answer (Some answer) = tt
  by_answer None = heard_alone (inputs.Asked socket.number) (link_with host request.target request.from) (with_socket (record socket { user = Some (request.target, request.from) }) host) tt

framed_alone : (socket : Socket) (link : Link) (frame : Frame) (host : HostState) → AllAlone (reads_frame socket link frame host)
framed_alone socket link frame host = by_frame frame where
  by_test : (created : List Connection) (b : Bool) → AllAlone (cond b (posts link.end (events.ConnectionOpened (next_arrival host link.end) link.peer) (with_arrival link.end (with_link (record link { created = created }) host))) (Err stops.Worn))
  by_test created true = tt
  by_test created false = tt

  by_created : (r : Result (List Connection) LightError) → AllAlone (arrives socket link r host)
  by_created (Err x) = gone_alone socket host
  by_created (Ok created) = by_test created (nat_lt (arrived_at host link.end) most_arrived)

  by_closed : (r : Result (ℕ × List Connection) LightError) → AllAlone (closes socket link r host)
  by_closed (Err x) = gone_alone socket host
  by_closed (Ok done) = tt

  by_conn : (payload : List ℕ) (r : Result ℕ LightError) → AllAlone (receives socket link payload r host)
  by_conn payload (Err x) = gone_alone socket host
  by_conn payload (Ok conn) = tt

  by_frame : (frame : Frame) → AllAlone (reads_frame socket link frame host)
  by_frame (frames.Created id) = by_created (created_of link.created id (next_arrival host link.end))
  by_frame (frames.Closed id) = by_closed (closed_of link.created id)
  by_frame (frames.Data id payload) = by_conn payload (conn_of link.created id)
  by_frame frames.EndClosed = heard_alone inputs.EndClosed link host tt
  by_frame frames.Probe = heard_alone inputs.Probe link host tt
  by_frame frames.ProbeAck = heard_alone inputs.Ack link host tt

on_link : (socket : Socket) (link : Link) (item : Item) (host : HostState) → AllAlone (reads_on socket link item host)
on_link socket link (items.Request request) host = tt
on_link socket link (items.Answer answer) host = heard_alone (inputs.Answered (heard_answer answer)) link host tt
on_link socket link (items.Frame frame) host = framed_alone socket link frame host

other_alone : (socket : Socket) (item : Item) (host : HostState) → AllAlone (reads_other socket item host)
other_alone socket item host = by_user socket.user where
  by_user : (o : Option (ℕ × Address)) → AllAlone (elim o as (λ x. Stepped) [
    | None ↦ still host
    | Some user ↦ reads_on socket (link_with host user.0 user.1) item host
  ])
  by_user None = tt
  by_user (Some user) = on_link socket (link_with host user.0 user.1) item host

item_alone : (socket : Socket) (item : Item) (host : HostState) → AllAlone (reads socket item host)
item_alone socket (items.Request request) host = requested_alone socket request host
item_alone socket (items.Answer answer) host = other_alone socket (items.Answer answer) host
item_alone socket (items.Frame frame) host = other_alone socket (items.Frame frame) host

read_alone : (sock : ℕ) (done : Stepped) → AllAlone done → AllAlone (after_steps (steps.Read sock ∷ []) done)
read_alone sock (Ok done) a = a
read_alone sock (Err stop) a = tt

handled_alone : (socket : Socket) (front : Front) (count : ℕ) (host : HostState) → AllAlone (handles socket (front, count) host)
handled_alone socket Unfinished count host = tt
handled_alone socket (Refused error) count host = gone_alone socket host
handled_alone socket (Whole item) count host = read_alone socket.number (reads now item (with_socket now host)) (item_alone now item (with_socket now host)) where
  now : Socket
  now = record socket { since = drop count socket.since; expected = expected.Frame }

-- an item that a host reads
pub next_dials_none : (host after : HostState) (told : List Step) → host_next host ≡ Ok (Some told, after) → NoDials told
next_dials_none host after told e = next_done (λ steps one. NoDials steps) host after told (λ socket steps one f is. subst AllAlone is (handled_alone socket (front_of socket).0 (front_of socket).1 host)) e

ended_alone : (host : HostState) (sock : ℕ) → AllAlone (host_on host (sockets.Ended sock))
unfolding host_on
ended_alone host sock = by_socket (find (is_socket sock) host.sockets) where
  by_test : (socket : Socket) (b : Bool) → AllAlone (cond b (is_gone socket host) (still host))
  by_test socket true = gone_alone socket host
  by_test socket false = tt

  by_socket : (x : Option Socket) → AllAlone (elim x as (λ x. Stepped) [
    | None ↦ still host
    | Some socket ↦ cond (is_open socket.stage) (is_gone socket host) (still host)
  ])
  by_socket None = tt
  by_socket (Some socket) = by_test socket (is_open socket.stage)

-- the input of a socket ends
pub ended_dials_none : (host after : HostState) (sock : ℕ) (told : List Step) → host_on host (sockets.Ended sock) ≡ Ok (told, after) → NoDials told
ended_dials_none host after sock told e = subst AllAlone e (ended_alone host sock)
