-- What a host makes of events and items leaves what is given as it was, but where it tells that a link has failed.
use Rattle.std.proofs.Common.{◌≡◌, ℕ, ◌+◌, Bool, true, false, cond, ◌&&◌, ◌||◌, List, [], ◌∷◌, ◌++◌, drop, Ok, Err, refl, sym, ap, ◌∙◌, subst}
use Rattle.std.specs.List.{list_any}
use Rattle.std.specs.Prelude.{find, ◌==◌, Result, Option, Some, None, nat_lt}
use Rattle.ch_base.specs.declared.address.Address.{Address}
use Rattle.ch_base.specs.declared.event.Event.TheVariants as events
use Rattle.ch_base.specs.declared.memory.Stop.{Stop}
use Rattle.ch_base.specs.declared.memory.Stop.TheVariants as stops
use Rattle.ch_wire.specs.Spelling.{request_spelling}
use Rattle.ch_wire.specs.declared.answer.Answer.{Answer}
use Rattle.ch_wire.specs.declared.frame.Frame.{Frame}
use Rattle.ch_wire.specs.declared.frame.Frame.TheVariants as frames
use Rattle.ch_wire.specs.declared.request.Request.{Request}
use Rattle.ch_reader.specs.declared.item.Expected.TheVariants as expected
use Rattle.ch_reader.specs.declared.item.Front.{Front}
use Rattle.ch_reader.specs.declared.item.Front.TheVariants.{Unfinished, Whole, Refused}
use Rattle.ch_reader.specs.declared.item.Item.{Item}
use Rattle.ch_reader.specs.declared.item.Item.TheVariants as items
use Rattle.ch_link.specs.Sockets.{names}
use Rattle.ch_link.specs.declared.LinkIn.TheVariants as inputs
use Rattle.ch_light.specs.Ids.{created_of, conn_of, closed_of}
use Rattle.ch_light.specs.declared.Connection.{Connection}
use Rattle.ch_light.specs.declared.error.LightError.{LightError}
use Rattle.ch_model.specs.declared.step.SocketEvent.{SocketEvent}
use Rattle.ch_model.specs.declared.step.SocketEvent.TheVariants as sockets
use Rattle.ch_model.specs.declared.step.Step.{Step}
use Rattle.ch_model.specs.declared.step.Step.TheVariants as steps
use Rattle.ch_model.specs.Host.{front_of, first_ready, on_socket, joins, accepted, keeps, host_on, takes, handles, some_steps, host_next}
use Rattle.ch_model.specs.HostCalls.{host_timer_runs}
use Rattle.ch_model.specs.HostItems.{most_arrived, posts, gone_from, is_gone, refusal_of, asks_link, reads_request, heard_answer, arrived_at, with_arrival, next_arrival, arrives, closes, receives, reads_frame, reads_on, reads_other, reads}
use Rattle.ch_model.specs.HostLinks.{hears}
use Rattle.ch_model.specs.HostState.{Endpoint, Link, Socket, HostState}
use Rattle.ch_model.specs.HostSteps.{Stepped, still, does, is_endpoint, is_open_endpoint, store_endpoint, is_socket, own_address, link_with, with_link, with_socket, with_endpoint}
use Rattle.ch_model.specs.HostWrites.{writes, leaves, answers_and_leaves}
use Rattle.ch_model.specs.Stages.{Stage, Open, is_pending, is_open}
use Rattle.ch_laws_log.proofs.Stored.{number_is, number_same}
use Rattle.ch_laws_connections.specs.Tables.{given_at}
use Rattle.ch_laws_connections.proofs.Keys.{with_key}
use Rattle.ch_laws_connections.proofs.HostLinks.{Quiet, Goes, AllGo, IsOf, at_rest, onward, chained_go, from_quiet, going, stored_quiet, same, left, answered, heard}

-- the link that is found has what is given on it
pub of_found : (host : HostState) (end : ℕ) (peer : Address) → IsOf (link_with host end peer) host
of_found host end peer = let key = with_key host end peer in ap (λ (e : ℕ). given_at host e peer) (sym key.0) ∙ ap (λ (p : Address). given_at host (link_with host end peer).end p) (sym key.1)

rests : (host : HostState) → AllGo host (still host)
rests host = going host (still host) (at_rest host, λ e p. refl)

-- ---- endpoints

-- an endpoint that stays open or closed
standing_kept : (n : ℕ) (next known : Endpoint) (ends : List Endpoint) (end : ℕ) → find (is_endpoint n) ends ≡ Some known → next.number ≡ known.number → next.is_open ≡ known.is_open → list_any (is_open_endpoint end) (store_endpoint next ends) ≡ list_any (is_open_endpoint end) ends
standing_kept n next known [] end e a b = absurd cc
standing_kept n next known (first ∷ rest) end e a b = by_test (is_endpoint n first) refl e (standing_kept n next known rest end) where
  alike : is_open_endpoint end next ≡ is_open_endpoint end known
  alike = ap (λ (m : ℕ). (m == end) && next.is_open) a ∙ ap (λ (x : Bool). (known.number == end) && x) b

  number_found : (l : List Endpoint) → find (is_endpoint n) l ≡ Some known → known.number ≡ n
  number_found [] e = absurd cc
  number_found (x ∷ l) e = by_found (is_endpoint n x) refl e (number_found l) where
    by_found : (t : Bool) → is_endpoint n x ≡ t → cond t (Some x) (find (is_endpoint n) l) ≡ Some known → (find (is_endpoint n) l ≡ Some known → known.number ≡ n) → known.number ≡ n
    by_found true h e more = let this : x ≡ known = cc in ap (λ (y : Endpoint). y.number) (sym this) ∙ number_is x.number n h
    by_found false h e more = more e

  by_test : (t : Bool) → is_endpoint n first ≡ t → cond t (Some first) (find (is_endpoint n) rest) ≡ Some known
      → (find (is_endpoint n) rest ≡ Some known → next.number ≡ known.number → next.is_open ≡ known.is_open → list_any (is_open_endpoint end) (store_endpoint next rest) ≡ list_any (is_open_endpoint end) rest)
      → list_any (is_open_endpoint end) (cond (is_endpoint next.number first) (next ∷ rest) (first ∷ store_endpoint next rest)) ≡ (is_open_endpoint end first || list_any (is_open_endpoint end) rest)
  by_test true h e more =
      let this : first ≡ known = cc in
      ap (λ t. list_any (is_open_endpoint end) (cond t (next ∷ rest) (first ∷ store_endpoint next rest))) (ap (λ (m : ℕ). first.number == m) (a ∙ ap (λ (y : Endpoint). y.number) (sym this)) ∙ number_same first.number)
      ∙ ap (λ x. x || list_any (is_open_endpoint end) rest) (alike ∙ ap (is_open_endpoint end) (sym this))
  by_test false h e more =
      ap (λ t. list_any (is_open_endpoint end) (cond t (next ∷ rest) (first ∷ store_endpoint next rest))) (ap (λ (m : ℕ). first.number == m) (a ∙ number_found rest e) ∙ h)
      ∙ ap (λ x. is_open_endpoint end first || x) (more e a b)

arrival : (end : ℕ) (host : HostState) → Quiet host (with_arrival end host)
arrival end host = by_endpoint (find (is_endpoint end) host.ends) refl where
  by_endpoint : (o : Option Endpoint) → find (is_endpoint end) host.ends ≡ o → Quiet host (elim o as (λ o. HostState) [
    | None ↦ host
    | Some endpoint ↦ with_endpoint (record endpoint { arrived = endpoint.arrived + 1 }) host
  ])
  by_endpoint None e = at_rest host
  by_endpoint (Some endpoint) e = record { given = λ n p. refl; apart = λ a. a; ends = λ n. standing_kept end (record endpoint { arrived = endpoint.arrived + 1 }) endpoint host.ends n e refl refl }

-- ---- a socket that is gone

gone : (sock : ℕ) (link : Link) (host : HostState) → IsOf link host → AllGo host (gone_from sock link host)
gone sock link host i = by_test (names link.state sock) where
  by_test : (b : Bool) → AllGo host (cond b (hears inputs.Gone link host) (leaves sock host))
  by_test true = heard inputs.Gone link host tt i
  by_test false = going host (leaves sock host) (left sock host)

socket_gone : (socket : Socket) (host : HostState) → AllGo host (is_gone socket host)
socket_gone socket host = by_user socket.user where
  by_user : (user : Option (ℕ × Address)) → AllGo host (elim user as (λ x. Stepped) [
    | None ↦ leaves socket.number host
    | Some user ↦ gone_from socket.number (link_with host user.0 user.1) host
  ])
  by_user None = going host (leaves socket.number host) (left socket.number host)
  by_user (Some user) = gone socket.number (link_with host user.0 user.1) host (of_found host user.0 user.1)

-- ---- items

requested : (socket : Socket) (request : Request) (host : HostState) → AllGo host (reads_request socket request host)
requested socket request host = by_answer (refusal_of host socket request.target request.from) where
  asking : HostState
  asking = with_socket (record socket { user = Some (request.target, request.from) }) host

  by_answer : (answer : Option Answer) → AllGo host (elim answer as (λ x. Stepped) [
    | Some answer ↦ answers_and_leaves socket.number answer host
    | None ↦ asks_link socket request.target request.from host
  ])
  by_answer (Some answer) = going host (answers_and_leaves socket.number answer host) (answered socket.number answer host)
  by_answer None = from_quiet host asking (asks_link socket request.target request.from host) (same host asking refl refl) (heard (inputs.Asked socket.number) (link_with host request.target request.from) asking tt (of_found host request.target request.from))

arrived : (socket : Socket) (link : Link) (created : Result (List Connection) LightError) (host : HostState) → IsOf link host → AllGo host (arrives socket link created host)
arrived socket link (Err e) host i = socket_gone socket host
arrived socket link (Ok created) host i = by_test (nat_lt (arrived_at host link.end) most_arrived) where
  stored : HostState
  stored = with_link (record link { created = created }) host

  by_test : (b : Bool) → AllGo host (cond b (posts link.end (events.ConnectionOpened (next_arrival host link.end) link.peer) (with_arrival link.end stored)) (Err stops.Worn))
  by_test true = going host (posts link.end (events.ConnectionOpened (next_arrival host link.end) link.peer) (with_arrival link.end stored)) (onward host stored (with_arrival link.end stored) (stored_quiet (record link { created = created }) host i) (arrival link.end stored), λ e p. refl)
  by_test false = tt

closed : (socket : Socket) (link : Link) (done : Result (ℕ × List Connection) LightError) (host : HostState) → IsOf link host → AllGo host (closes socket link done host)
closed socket link (Err e) host i = socket_gone socket host
closed socket link (Ok done) host i = going host (posts link.end (events.ConnectionClosed done.0) (with_link (record link { created = done.1 }) host)) (stored_quiet (record link { created = done.1 }) host i, λ e p. refl)

received : (socket : Socket) (link : Link) (payload : List ℕ) (conn : Result ℕ LightError) (host : HostState) → AllGo host (receives socket link payload conn host)
received socket link payload (Err e) host = socket_gone socket host
received socket link payload (Ok conn) host = going host (posts link.end (events.Received conn payload) host) (at_rest host, λ e p. refl)

framed : (socket : Socket) (link : Link) (frame : Frame) (host : HostState) → IsOf link host → AllGo host (reads_frame socket link frame host)
framed socket link (frames.Created id) host i = arrived socket link (created_of link.created id (next_arrival host link.end)) host i
framed socket link (frames.Closed id) host i = closed socket link (closed_of link.created id) host i
framed socket link (frames.Data id payload) host i = received socket link payload (conn_of link.created id) host
framed socket link frames.EndClosed host i = heard inputs.EndClosed link host tt i
framed socket link frames.Probe host i = heard inputs.Probe link host tt i
framed socket link frames.ProbeAck host i = heard inputs.Ack link host tt i

read_on : (socket : Socket) (link : Link) (item : Item) (host : HostState) → IsOf link host → AllGo host (reads_on socket link item host)
read_on socket link (items.Request request) host i = rests host
read_on socket link (items.Answer answer) host i = heard (inputs.Answered (heard_answer answer)) link host tt i
read_on socket link (items.Frame frame) host i = framed socket link frame host i

read_other : (socket : Socket) (item : Item) (host : HostState) → AllGo host (reads_other socket item host)
read_other socket item host = by_user socket.user where
  by_user : (user : Option (ℕ × Address)) → AllGo host (elim user as (λ x. Stepped) [
    | None ↦ still host
    | Some user ↦ reads_on socket (link_with host user.0 user.1) item host
  ])
  by_user None = rests host
  by_user (Some user) = read_on socket (link_with host user.0 user.1) item host (of_found host user.0 user.1)

read : (socket : Socket) (item : Item) (host : HostState) → AllGo host (reads socket item host)
read socket (items.Request request) host = requested socket request host
read socket (items.Answer answer) host = read_other socket (items.Answer answer) host
read socket (items.Frame frame) host = read_other socket (items.Frame frame) host

handled : (socket : Socket) (front : Front × ℕ) (host : HostState) → AllGo host (handles socket front host)
handled socket front host = by_front front.0 where
  now : Socket
  now = record socket { since = drop front.1 socket.since; expected = expected.Frame }

  by_front : (x : Front) → AllGo host (elim x as (λ x. Stepped) [
    | Unfinished ↦ still host
    | Refused error ↦ is_gone socket host
    | Whole item ↦ takes now item host
  ])
  by_front Unfinished = rests host
  by_front (Refused error) = socket_gone socket host
  by_front (Whole item) = chained_go host (does (steps.Read now.number) (with_socket now host)) (reads now item) (same host (with_socket now host) refl refl, λ e p. refl) (λ next q. read now item next)

-- one item
pub next_goes : (host after : HostState) (told : List Step) → host_next host ≡ Ok (Some told, after) → Goes host told after
unfolding host_next
next_goes host after told e = by_first (first_ready host.sockets) e where
  some_in : Result (Option (List Step) × HostState) Stop → Option (List Step)
  some_in (Ok next) = next.0
  some_in (Err stop) = None

  steps_in : Result (Option (List Step) × HostState) Stop → List Step
  steps_in (Ok next) = elim next.0 [
    | None ↦ []
    | Some steps ↦ steps
  ]
  steps_in (Err stop) = []

  host_in : Result (Option (List Step) × HostState) Stop → HostState
  host_in (Ok next) = next.1
  host_in (Err stop) = host

  by_done : (one : Stepped) → AllGo host one → some_steps one ≡ Ok (Some told, after) → Goes host told after
  by_done (Ok one) f e =
      let same_host : one.1 ≡ after = ap host_in e in
      let same_steps : one.0 ≡ told = ap steps_in e in
      subst (λ (h : HostState). Goes host told h) same_host (subst (λ (l : List Step). Goes host l one.1) same_steps f)
  by_done (Err stop) f e = absurd cc

  by_first : (o : Option Socket) → (elim o as (λ o. Result (Option (List Step) × HostState) Stop) [
    | None ↦ Ok (None, host)
    | Some socket ↦ some_steps (handles socket (front_of socket) host)
  ]) ≡ Ok (Some told, after) → Goes host told after
  by_first None e = let never : None ≡ Some told = ap some_in e in absurd cc
  by_first (Some socket) e = by_done (handles socket (front_of socket) host) (handled socket (front_of socket) host) e

-- ---- events

on_one : (test : Stage → Bool) (sock : ℕ) (f : Socket → HostState → Stepped) (host : HostState) → ((socket : Socket) → AllGo host (f socket host)) → AllGo host (on_socket test sock f host)
on_one test sock f host each = by_socket (find (is_socket sock) host.sockets) where
  by_test : (socket : Socket) (b : Bool) → AllGo host (cond b (f socket host) (still host))
  by_test socket true = each socket
  by_test socket false = rests host

  by_socket : (o : Option Socket) → AllGo host (elim o as (λ x. Stepped) [
    | None ↦ still host
    | Some socket ↦ cond (test socket.stage) (f socket host) (still host)
  ])
  by_socket None = rests host
  by_socket (Some socket) = by_test socket (test socket.stage)

joined : (socket : Socket) (host : HostState) → AllGo host (joins socket host)
joined socket host = by_user socket.user where
  by_user : (user : Option (ℕ × Address)) → AllGo host (elim user as (λ x. Stepped) [
    | None ↦ still host
    | Some user ↦ writes socket.number (request_spelling (record { target = user.1.id; from = own_address host user.0 })) (with_socket (record socket { stage = Open }) host)
  ])
  by_user None = rests host
  by_user (Some user) = going host (writes socket.number (request_spelling (record { target = user.1.id; from = own_address host user.0 })) (with_socket (record socket { stage = Open }) host)) (same host (with_socket (record socket { stage = Open }) host) refl refl, λ e p. refl)

pub event_goes : (host : HostState) (event : SocketEvent) → AllGo host (host_on host event)
unfolding host_on
event_goes host (sockets.Joined sock) = on_one is_pending sock joins host (λ socket. joined socket host)
event_goes host (sockets.Came sock peer_host) = going host (still (with_socket (accepted sock peer_host) host)) (same host (with_socket (accepted sock peer_host) host) refl refl, λ e p. refl)
event_goes host (sockets.Refused sock) = on_one is_pending sock is_gone host (λ socket. socket_gone socket host)
event_goes host (sockets.Fed sock bytes) = on_one is_open sock (keeps bytes) host (λ socket. going host (keeps bytes socket host) (same host (with_socket (record socket { since = socket.since ++ bytes }) host) refl refl, λ e p. refl))
event_goes host (sockets.Ended sock) = on_one is_open sock is_gone host (λ socket. socket_gone socket host)
event_goes host (sockets.Lost sock) = on_one is_open sock is_gone host (λ socket. socket_gone socket host)
event_goes host (sockets.Late end peer) = by_test (host_timer_runs host end peer) where
  by_test : (b : Bool) → AllGo host (cond b (hears inputs.Late (link_with host end peer) host) (still host))
  by_test true = heard inputs.Late (link_with host end peer) host tt (of_found host end peer)
  by_test false = rests host
