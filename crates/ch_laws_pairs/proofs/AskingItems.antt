-- What a host makes of items, and of what its endpoints ask, tells who asks on its ends.
use Rattle.std.proofs.Common.{◌≡◌, ℕ, ◌+◌, Bool, true, false, cond, List, [], ◌∷◌, drop, Ok, Err, refl, ap, ◌∙◌, subst}
use Rattle.std.specs.Prelude.{find, ◌==◌, Result, Option, Some, None, nat_lt}
use Rattle.ch_base.specs.declared.address.Address.{Address}
use Rattle.ch_base.specs.declared.event.Event.{Event}
use Rattle.ch_base.specs.declared.event.Event.TheVariants as events
use Rattle.ch_base.specs.declared.memory.Stop.{Stop}
use Rattle.ch_base.specs.declared.memory.Stop.TheVariants as stops
use Rattle.ch_wire.specs.declared.answer.Answer.{Answer}
use Rattle.ch_wire.specs.declared.frame.Frame.{Frame}
use Rattle.ch_wire.specs.declared.frame.Frame.TheVariants as frames
use Rattle.ch_wire.specs.declared.request.Request.{Request}
use Rattle.ch_reader.specs.declared.item.Expected.TheVariants as expected
use Rattle.ch_reader.specs.declared.item.Front.{Front}
use Rattle.ch_reader.specs.declared.item.Front.TheVariants.{Unfinished, Whole, Refused}
use Rattle.ch_reader.specs.declared.item.Item.{Item}
use Rattle.ch_reader.specs.declared.item.Item.TheVariants as items
use Rattle.ch_link.specs.Sockets.{names}
use Rattle.ch_link.specs.declared.LinkIn.TheVariants as inputs
use Rattle.ch_light.specs.Ids.{created_of, conn_of, closed_of, id_of, give_of, close_of}
use Rattle.ch_light.specs.declared.Connection.{Connection}
use Rattle.ch_light.specs.declared.error.LightError.{LightError}
use Rattle.ch_model.specs.declared.step.EndError.{EndError}
use Rattle.ch_model.specs.declared.step.Step.{Step}
use Rattle.ch_model.specs.declared.step.Step.TheVariants as steps
use Rattle.ch_model.specs.declared.step.Weight.{Weight}
use Rattle.ch_model.specs.declared.step.Weight.TheVariants.{Free}
use Rattle.ch_model.specs.Host.{front_of, first_ready, takes, handles, some_steps, host_next}
use Rattle.ch_model.specs.HostState.{Endpoint, Link, Socket, HostState}
use Rattle.ch_model.specs.HostSteps.{Stepped, still, after_steps, ◌then◌, link_with, with_link, with_socket, with_endpoint, is_endpoint, is_socket}
use Rattle.ch_model.specs.HostWrites.{leaves, answers_and_leaves, puts}
use Rattle.ch_model.specs.HostLinks.{next_dial, hears}
use Rattle.ch_model.specs.HostItems.{most_arrived, posts, gone_from, is_gone, refusal_of, asks_link, reads_request, heard_answer, arrived_at, with_arrival, next_arrival, arrives, closes, receives, reads_frame, reads_on, reads_other, reads}
use Rattle.ch_model.specs.HostCalls.{◌>>=◌, stepped, of_ids, open_endpoint, wants, puts_and_wants, host_connect, carries, found_or, short_enough, has_room, host_send, host_close, shuts_links, closes_endpoint, host_close_endpoint}
use Rattle.ch_laws_items.proofs.Next.{served}
use Rattle.ch_laws_log.proofs.HostTold.{number_same, find_stored}
use Rattle.ch_laws_pairs.specs.Askers.{asker_with, asker_of, IsAsking, Asks, AllAsk}
use Rattle.ch_laws_pairs.proofs.Asking.{onward, chained, from_asked, Alike, same, at_rest, plain_first, keeps, ends}
use Rattle.ch_laws_pairs.proofs.AskingLinks.{answered, heard, put}

posted : (end : ℕ) (event : Event) (before after : HostState) → (IsAsking before → Asks before [] after) → AllAsk before (posts end event after)
posted end event before after t = λ s. plain_first (steps.Post end event) tt before after [] (t s)

-- ---- a socket that is gone

gone : (sock : ℕ) (link : Link) (host : HostState) → AllAsk host (gone_from sock link host)
gone sock link host = by_test (names link.state sock) where
  by_test : (b : Bool) → AllAsk host (cond b (hears inputs.Gone link host) (leaves sock host))
  by_test true = heard inputs.Gone link host tt
  by_test false = ends sock host

pub socket_gone : (socket : Socket) (host : HostState) → AllAsk host (is_gone socket host)
socket_gone socket host = by_user socket.user where
  by_user : (user : Option (ℕ × Address)) → AllAsk host (elim user as (λ x. Stepped) [
    | None ↦ leaves socket.number host
    | Some user ↦ gone_from socket.number (link_with host user.0 user.1) host
  ])
  by_user None = ends socket.number host
  by_user (Some user) = gone socket.number (link_with host user.0 user.1) host

-- ---- items

-- the host's record of the socket
abbrev IsFound : Socket → HostState → Type 0
IsFound socket host = find (is_socket socket.number) host.sockets ≡ Some socket

-- a request is taken on a socket that was accepted alone
none_asked : (socket : Socket) (request : Request) (host : HostState) → refusal_of host socket request.target request.from ≡ None → (user : Option (ℕ × Address)) → asker_with socket.peer_host socket.user ≡ asker_with socket.peer_host user
none_asked socket request host none user = by_host socket.peer_host refl where
  by_host : (h : Option (List ℕ)) → socket.peer_host ≡ h → asker_with h socket.user ≡ asker_with h user
  by_host (Some peer_host) e = refl
  by_host None e = let never : refusal_of host (record socket { peer_host = None }) request.target request.from ≡ None = subst (λ (h : Option (List ℕ)). refusal_of host (record socket { peer_host = h }) request.target request.from ≡ None) e none in absurd cc

requested : (socket : Socket) (request : Request) (host : HostState) → IsFound socket host → AllAsk host (reads_request socket request host)
requested socket request host f = by_answer (refusal_of host socket request.target request.from) refl where
  asking : HostState
  asking = with_socket (record socket { user = Some (request.target, request.from) }) host

  by_answer : (answer : Option Answer) → refusal_of host socket request.target request.from ≡ answer → AllAsk host (elim answer as (λ x. Stepped) [
    | Some answer ↦ answers_and_leaves socket.number answer host
    | None ↦ asks_link socket request.target request.from host
  ])
  by_answer (Some answer) e = answered socket.number answer host
  by_answer None e = from_asked host asking (asks_link socket request.target request.from host) (keeps (record socket { user = Some (request.target, request.from) }) host (ap asker_of f ∙ none_asked socket request host e (Some (request.target, request.from)))) (heard (inputs.Asked socket.number) (link_with host request.target request.from) asking tt)

arrival : (end : ℕ) (link : Link) (host : HostState) → Alike host (with_arrival end (with_link link host))
arrival end link host = by_endpoint (find (is_endpoint end) host.ends) where
  by_endpoint : (o : Option Endpoint) → Alike host (elim o as (λ o. HostState) [
    | None ↦ with_link link host
    | Some endpoint ↦ with_endpoint (record endpoint { arrived = endpoint.arrived + 1 }) (with_link link host)
  ])
  by_endpoint None = (record { sockets = refl; dials = refl; home = λ end. refl })
  by_endpoint (Some endpoint) = (record { sockets = refl; dials = refl; home = λ end. refl })

arrived : (socket : Socket) (link : Link) (created : Result (List Connection) LightError) (host : HostState) → AllAsk host (arrives socket link created host)
arrived socket link (Err e) host = socket_gone socket host
arrived socket link (Ok created) host = by_test (nat_lt (arrived_at host link.end) most_arrived) where
  after : HostState
  after = with_arrival link.end (with_link (record link { created = created }) host)

  by_test : (b : Bool) → AllAsk host (cond b (posts link.end (events.ConnectionOpened (next_arrival host link.end) link.peer) after) (Err stops.Worn))
  by_test true = posted link.end (events.ConnectionOpened (next_arrival host link.end) link.peer) host after (same host after (arrival link.end (record link { created = created }) host))
  by_test false = tt

closed : (socket : Socket) (link : Link) (done : Result (ℕ × List Connection) LightError) (host : HostState) → AllAsk host (closes socket link done host)
closed socket link (Err e) host = socket_gone socket host
closed socket link (Ok done) host = posted link.end (events.ConnectionClosed done.0) host (with_link (record link { created = done.1 }) host) (same host (with_link (record link { created = done.1 }) host) (record { sockets = refl; dials = refl; home = λ end. refl }))

received : (socket : Socket) (link : Link) (payload : List ℕ) (conn : Result ℕ LightError) (host : HostState) → AllAsk host (receives socket link payload conn host)
received socket link payload (Err e) host = socket_gone socket host
received socket link payload (Ok conn) host = posted link.end (events.Received conn payload) host host (at_rest host)

framed : (socket : Socket) (link : Link) (frame : Frame) (host : HostState) → AllAsk host (reads_frame socket link frame host)
framed socket link (frames.Created id) host = arrived socket link (created_of link.created id (next_arrival host link.end)) host
framed socket link (frames.Closed id) host = closed socket link (closed_of link.created id) host
framed socket link (frames.Data id payload) host = received socket link payload (conn_of link.created id) host
framed socket link frames.EndClosed host = heard inputs.EndClosed link host tt
framed socket link frames.Probe host = heard inputs.Probe link host tt
framed socket link frames.ProbeAck host = heard inputs.Ack link host tt

read_on : (socket : Socket) (link : Link) (item : Item) (host : HostState) → AllAsk host (reads_on socket link item host)
read_on socket link (items.Request request) host = at_rest host
read_on socket link (items.Answer answer) host = heard (inputs.Answered (heard_answer answer)) link host tt
read_on socket link (items.Frame frame) host = framed socket link frame host

read_other : (socket : Socket) (item : Item) (host : HostState) → AllAsk host (reads_other socket item host)
read_other socket item host = by_user socket.user where
  by_user : (user : Option (ℕ × Address)) → AllAsk host (elim user as (λ x. Stepped) [
    | None ↦ still host
    | Some user ↦ reads_on socket (link_with host user.0 user.1) item host
  ])
  by_user None = at_rest host
  by_user (Some user) = read_on socket (link_with host user.0 user.1) item host

read : (socket : Socket) (item : Item) (host : HostState) → IsFound socket host → AllAsk host (reads socket item host)
read socket (items.Request request) host f = requested socket request host f
read socket (items.Answer answer) host f = read_other socket (items.Answer answer) host
read socket (items.Frame frame) host f = read_other socket (items.Frame frame) host

-- an item is taken from a socket's bytes
taken : (socket : Socket) (rest : List ℕ) (item : Item) (host : HostState) → IsFound socket host → AllAsk host (takes (record socket { since = rest; expected = expected.Frame }) item host)
taken socket rest item host f = read_first (reads now item (with_socket now host)) (read now item (with_socket now host) there) where
  now : Socket
  now = record socket { since = rest; expected = expected.Frame }

  there : IsFound now (with_socket now host)
  there = find_stored now host.sockets socket.number ∙ ap (λ b. cond b (Some now) (find (is_socket socket.number) host.sockets)) (number_same socket.number)

  kept : IsAsking host → Asks host (steps.Read socket.number ∷ []) (with_socket now host)
  kept s = plain_first (steps.Read socket.number) tt host (with_socket now host) [] (keeps now host (ap asker_of f) s)

  read_first : (more : Stepped) → AllAsk (with_socket now host) more → AllAsk host (after_steps (steps.Read socket.number ∷ []) more)
  read_first (Ok more) t = λ s. let first = kept s in onward host (with_socket now host) more.1 (steps.Read socket.number ∷ []) more.0 first (t first.asking)
  read_first (Err stop) t = tt

handled : (socket : Socket) (front : Front × ℕ) (host : HostState) → IsFound socket host → AllAsk host (handles socket front host)
handled socket front host f = by_front front.0 where
  by_front : (x : Front) → AllAsk host (elim x as (λ x. Stepped) [
    | Unfinished ↦ still host
    | Refused error ↦ is_gone socket host
    | Whole item ↦ takes (record socket { since = drop front.1 socket.since; expected = expected.Frame }) item host
  ])
  by_front Unfinished = at_rest host
  by_front (Refused error) = socket_gone socket host
  by_front (Whole item) = taken socket (drop front.1 socket.since) item host f

-- an item that is handled, where there is one, is told so
pub next_asks : (host after : HostState) (told : List Step) → IsAsking host → host_next host ≡ Ok (Some told, after) → Asks host told after
unfolding host_next
next_asks host after told s e = by_first (first_ready host.sockets) refl e where
  some_in : Result (Option (List Step) × HostState) Stop → Option (List Step)
  some_in (Ok next) = next.0
  some_in (Err stop) = None

  steps_in : Result (Option (List Step) × HostState) Stop → List Step
  steps_in (Ok next) = elim next.0 [
    | None ↦ []
    | Some steps ↦ steps
  ]
  steps_in (Err stop) = []

  host_in : Result (Option (List Step) × HostState) Stop → HostState
  host_in (Ok next) = next.1
  host_in (Err stop) = host

  by_done : (one : Stepped) → AllAsk host one → some_steps one ≡ Ok (Some told, after) → Asks host told after
  by_done (Ok one) f e =
      let same_host : one.1 ≡ after = ap host_in e in
      let same_steps : one.0 ≡ told = ap steps_in e in
      subst (λ (h : HostState). Asks host told h) same_host (subst (λ (l : List Step). Asks host l one.1) same_steps (f s))
  by_done (Err stop) f e = absurd cc

  by_first : (o : Option Socket) → first_ready host.sockets ≡ o → (elim o as (λ o. Result (Option (List Step) × HostState) Stop) [
    | None ↦ Ok (None, host)
    | Some socket ↦ some_steps (handles socket (front_of socket) host)
  ]) ≡ Ok (Some told, after) → Asks host told after
  by_first None f e = let never : None ≡ Some told = ap some_in e in absurd cc
  by_first (Some socket) f e = let at = served host.sockets socket s.apart f in
      by_done (handles socket (front_of socket) host) (handled socket (front_of socket) host at.found) e

-- ---- what an endpoint asks

bound : {A : Type 0} (host : HostState) (given : Result A EndError) (f : A → Result (List Step × HostState) EndError) → ((x : A) → AllAsk host (f x)) → AllAsk host (given >>= f)
bound host (Ok x) f k = k x
bound host (Err e) f k = tt

asked_as : (host : HostState) (done : Stepped) → AllAsk host done → AllAsk host (stepped done)
asked_as host (Ok done) f = f
asked_as host (Err stop) f = tt

put_and_wanted : (item : Frame × Weight) (link : Link) (host : HostState) → AllAsk host (puts_and_wants item link host)
put_and_wanted item link host = chained host (puts item link host) (wants link.end link.peer) (put item link host) (λ next. heard (inputs.Want (next_dial next)) (link_with next link.end link.peer) next refl)

pub connected : (host : HostState) (end : ℕ) (peer : Address) (conn : ℕ) → AllAsk host (host_connect host end peer conn)
unfolding host_connect
connected host end peer conn = bound host (open_endpoint host end) _ (λ standing. bound host (of_ids (give_of (link_with host end peer).given conn)) _ (λ given. asked_as host _ (put_and_wanted (frames.Created given.0, Free) (record (link_with host end peer) { given = given.1 }) host)))

pub sent : (host : HostState) (end conn : ℕ) (payload : List ℕ) (weight : Weight) → AllAsk host (host_send host end conn payload weight)
unfolding host_send
sent host end conn payload weight =
    bound host (found_or (find (carries end conn) host.links)) _ (λ link. bound host (short_enough payload) _ (λ short. bound host (has_room link weight) _ (λ roomy. bound host (found_or (id_of link.given conn)) _ (λ id. asked_as host _ (put_and_wanted (frames.Data id short, weight) link host)))))

pub closed_conn : (host : HostState) (end conn : ℕ) → AllAsk host (host_close host end conn)
unfolding host_close
closed_conn host end conn =
    bound host (found_or (find (carries end conn) host.links)) _ (λ link. bound host (of_ids (close_of link.given conn)) _ (λ closed. asked_as host _ (put (frames.Closed closed.0, Free) (record link { given = closed.1 }) host)))

shut_links : (end : ℕ) (links : List Link) (host : HostState) → AllAsk host (shuts_links end links host)
shut_links end [] host = at_rest host
shut_links end (link ∷ rest) host = by_test (link.end == end) (shut_links end rest) where
  by_test : (b : Bool) → ((next : HostState) → AllAsk next (shuts_links end rest next)) → AllAsk host (cond b (hears inputs.Shut (link_with host end link.peer) host) (still host) then shuts_links end rest)
  by_test true k = chained host (hears inputs.Shut (link_with host end link.peer) host) (shuts_links end rest) (heard inputs.Shut (link_with host end link.peer) host tt) k
  by_test false k = chained host (still host) (shuts_links end rest) (at_rest host) k

closed_end : (o : Option Endpoint) (host : HostState) → Alike host (closes_endpoint o host)
closed_end None host = (record { sockets = refl; dials = refl; home = λ end. refl })
closed_end (Some endpoint) host = (record { sockets = refl; dials = refl; home = λ end. refl })

pub endpoint_closed : (host : HostState) (end : ℕ) → AllAsk host (host_close_endpoint host end)
unfolding host_close_endpoint
endpoint_closed host end =
    bound host (open_endpoint host end) _ (λ standing. asked_as host _ (chained host (shuts_links end host.links host) (λ shut. posts end events.EndPointClosed (closes_endpoint (find (is_endpoint end) shut.ends) shut)) (shut_links end host.links host)
    (λ next. posted end events.EndPointClosed next (closes_endpoint (find (is_endpoint end) next.ends) next) (same next (closes_endpoint (find (is_endpoint end) next.ends) next) (closed_end (find (is_endpoint end) next.ends) next)))))
