-- What a host does leaves its text, its port, whom it takes and its endpoints' numbers as they were.
use Rattle.std.proofs.Common.{◌≡◌, ℕ, ◌+◌, Bool, true, false, cond, List, [], ◌∷◌, ◌++◌, drop, Ok, Err, refl, sym, ap, ◌∙◌, subst, ◌==◌}
use Rattle.std.specs.Prelude.{find, Result, Option, Some, None, nat_lt}
use Rattle.ch_base.specs.declared.address.Address.{Address}
use Rattle.ch_base.specs.declared.event.Event.TheVariants as events
use Rattle.ch_base.specs.declared.memory.Stop.{Stop}
use Rattle.ch_base.specs.declared.memory.Stop.TheVariants as stops
use Rattle.ch_wire.specs.Spelling.{answer_spelling, frame_spelling, request_spelling}
use Rattle.ch_wire.specs.declared.answer.Answer.{Answer}
use Rattle.ch_wire.specs.declared.answer.Answer.TheVariants as answers
use Rattle.ch_wire.specs.declared.frame.Frame.{Frame}
use Rattle.ch_wire.specs.declared.frame.Frame.TheVariants as frames
use Rattle.ch_wire.specs.declared.request.Request.{Request}
use Rattle.ch_reader.specs.declared.item.Expected.TheVariants as expected
use Rattle.ch_reader.specs.declared.item.Front.{Front}
use Rattle.ch_reader.specs.declared.item.Front.TheVariants.{Unfinished, Whole, Refused}
use Rattle.ch_reader.specs.declared.item.Item.{Item}
use Rattle.ch_reader.specs.declared.item.Item.TheVariants as items
use Rattle.ch_link.specs.Sockets.{names}
use Rattle.ch_link.specs.Table.{step_of}
use Rattle.ch_link.specs.declared.LinkState.{LinkState}
use Rattle.ch_link.specs.declared.LinkState.TheVariants as states
use Rattle.ch_link.specs.declared.LinkIn.{LinkIn}
use Rattle.ch_link.specs.declared.LinkIn.TheVariants as inputs
use Rattle.ch_link.specs.declared.LinkAct.{LinkAct}
use Rattle.ch_link.specs.declared.LinkAct.TheVariants as acts
use Rattle.ch_light.specs.Ids.{id_of, give_of, close_of, created_of, conn_of, closed_of}
use Rattle.ch_light.specs.declared.Connection.{Connection}
use Rattle.ch_light.specs.declared.error.LightError.{LightError}
use Rattle.ch_model.specs.declared.step.EndError.{EndError}
use Rattle.ch_model.specs.declared.step.SocketEvent.{SocketEvent}
use Rattle.ch_model.specs.declared.step.SocketEvent.TheVariants as sockets
use Rattle.ch_model.specs.declared.step.Step.{Step}
use Rattle.ch_model.specs.declared.step.Step.TheVariants as steps
use Rattle.ch_model.specs.declared.step.Weight.{Weight}
use Rattle.ch_model.specs.declared.step.Weight.TheVariants.{Free}
use Rattle.ch_model.specs.Greater.{is_greater}
use Rattle.ch_model.specs.Stages.{Stage, Open, is_pending, is_open}
use Rattle.ch_model.specs.HostState.{Endpoint, Link, Socket, HostState}
use Rattle.ch_model.specs.HostSteps.{Stepped, still, does, after_steps, ◌then◌, is_endpoint, is_socket, own_address, link_with, store_endpoint, with_link, with_socket, with_endpoint}
use Rattle.ch_model.specs.HostWrites.{writes, ended_in, end_socket, leaves, answers_and_leaves, flushes_to, puts, frame_step, forgotten, leaves_off}
use Rattle.ch_model.specs.HostLinks.{most_dials, dialed, dials_for, accepts_on, asked_on, wanted_on, fails_with, says_closed, raised, acknowledged, does_act, hears, next_dial}
use Rattle.ch_model.specs.HostItems.{most_arrived, posts, gone_from, is_gone, refusal_of, asks_link, reads_request, heard_answer, arrived_at, with_arrival, next_arrival, arrives, closes, receives, reads_frame, reads_on, reads_other, reads}
use Rattle.ch_model.specs.Host.{on_socket, joins, keeps, host_on, front_of, first_ready, handles, some_steps, host_next}
use Rattle.ch_model.specs.HostCalls.{◌>>=◌, stepped, of_ids, open_endpoint, wants, puts_and_wants, host_connect, carries, found_or, short_enough, has_room, host_send, host_close, shuts_links, closes_endpoint, host_close_endpoint, host_timer_runs}
use Rattle.ch_laws_items.specs.Stays.{numbers_of, HostStays}
use Rattle.ch_laws_items.proofs.Sockets.{number_is}

-- where a host is, whom it takes, and its endpoints' numbers
abbrev pub Where : Type 0
Where = List ℕ × ℕ × List (List ℕ) × List ℕ

abbrev pub where_is : HostState → Where
where_is host = (host.host, host.port, host.circle, numbers_of host.ends)

-- whatever was done, it is where it was
abbrev pub Stays : {S E : Type 0} → HostState → Result (S × HostState) E → Type 0
Stays before (Ok done) = where_is done.1 ≡ where_is before
Stays before (Err e) = Unit {0}

-- ---- one thing and then another

pub from : {S E : Type 0} (one two : HostState) (done : Result (S × HostState) E) → where_is two ≡ where_is one → Stays two done → Stays one done
from one two (Ok done) a b = b ∙ a
from one two (Err e) a b = tt

later : (steps : List Step) (one two : HostState) (done : Stepped) → where_is two ≡ where_is one → Stays two done → Stays one (after_steps steps done)
later steps one two (Ok done) a b = b ∙ a
later steps one two (Err stop) a b = tt

chained : (host : HostState) (done : Stepped) (f : HostState → Stepped) → Stays host done → ((next : HostState) → Stays next (f next)) → Stays host (done then f)
chained host (Ok done) f a g = later done.0 host done.1 (f done.1) a (g done.1)
chained host (Err stop) f a g = tt

bound : {A : Type 0} (host : HostState) (given : Result A EndError) (f : A → Result (List Step × HostState) EndError) → ((x : A) → Stays host (f x)) → Stays host (given >>= f)
bound host (Ok x) f k = k x
bound host (Err e) f k = tt

told : (host : HostState) (done : Stepped) → Stays host done → Stays host (stepped done)
told host (Ok done) k = k
told host (Err stop) k = tt

-- ---- an endpoint that is kept in its place

stored : (endpoint : Endpoint) (ends : List Endpoint) → numbers_of (store_endpoint endpoint ends) ≡ numbers_of ends
stored endpoint [] = refl
stored endpoint (known ∷ rest) = by_test (is_endpoint endpoint.number known) refl (stored endpoint rest)
  where
    by_test : (b : Bool) → is_endpoint endpoint.number known ≡ b → numbers_of (store_endpoint endpoint rest) ≡ numbers_of rest → numbers_of (cond b (endpoint ∷ rest) (known ∷ store_endpoint endpoint rest)) ≡ known.number ∷ numbers_of rest
    by_test true is ih = ap (λ (n : ℕ). n ∷ numbers_of rest) (sym (number_is known.number endpoint.number is))
    by_test false is ih = ap (λ (ns : List ℕ). known.number ∷ ns) ih

kept : (endpoint : Endpoint) (host : HostState) → where_is (with_endpoint endpoint host) ≡ where_is host
kept endpoint host = ap (λ (ns : List ℕ). (host.host, host.port, host.circle, ns)) (stored endpoint host.ends)

-- ---- sockets and links

ends : (sock : ℕ) (host : HostState) → where_is (end_socket sock host) ≡ where_is host
ends sock host = by_socket (find (is_socket sock) host.sockets)
  where
    by_socket : (o : Option Socket) → where_is (ended_in o host) ≡ where_is host
    by_socket None = refl
    by_socket (Some socket) = refl

answered : (sock : ℕ) (answer : Answer) (host : HostState) → Stays host (answers_and_leaves sock answer host)
answered sock answer host = chained host (writes sock (answer_spelling answer) host) (leaves sock) refl (λ next. ends sock next)

left_off : (state : LinkState) (host : HostState) → Stays host (leaves_off state host)
left_off (states.Up sock probed) host = ends sock host
left_off (states.Dialing sock) host = ends sock host
left_off states.Idle host = refl
left_off states.AwaitOther host = refl

dialed_one : (sock : ℕ) (link : Link) (host : HostState) → Stays host (dials_for sock link host)
dialed_one sock link host = by_test (nat_lt host.dials most_dials)
  where
    by_test : (b : Bool) → Stays host (cond b (Ok (steps.Dial sock link.end link.peer ∷ [], with_socket (dialed sock link.end link.peer) (record host { dials = host.dials + 1 }))) (Err stops.Worn))
    by_test true = refl
    by_test false = tt

accepted_on : (sock : ℕ) (link : Link) (host : HostState) → Stays host (accepts_on sock link host)
accepted_on sock link host = chained host (does (steps.Up sock) host then writes sock (answer_spelling answers.Accepted)) (flushes_to sock link) (chained host (does (steps.Up sock) host) (writes sock (answer_spelling answers.Accepted)) refl (λ next. refl)) (λ next. refl)

closed_said : (state : LinkState) (host : HostState) → Stays host (says_closed state host)
closed_said (states.Up sock probed) host = refl
closed_said (states.Dialing sock) host = refl
closed_said states.Idle host = refl
closed_said states.AwaitOther host = refl

raised_one : (state : LinkState) (link : Link) (host : HostState) → Stays host (raised state link host)
raised_one (states.Up sock probed) link host = chained host (does (steps.Up sock) host) (flushes_to sock link) refl (λ next. refl)
raised_one (states.Dialing sock) link host = refl
raised_one states.Idle link host = refl
raised_one states.AwaitOther link host = refl

acknowledged_one : (state : LinkState) (host : HostState) → Stays host (acknowledged state host)
acknowledged_one (states.Up sock probed) host = refl
acknowledged_one (states.Dialing sock) host = refl
acknowledged_one states.Idle host = refl
acknowledged_one states.AwaitOther host = refl

acted : (act : LinkAct) (old : LinkState) (input : LinkIn) (link : Link) (host : HostState) → Stays host (does_act act old input link host)
acted acts.Nothing old input link host = refl
acted acts.Dial old input link host = dialed_one (wanted_on input) link host
acted acts.Accept old input link host = accepted_on (asked_on input) link host
acted acts.Cross old input link host = answered (asked_on input) answers.Crossed host
acted (acts.LeaveAndAccept own) old input link host = chained host (leaves own host) (accepts_on (asked_on input) link) (ends own host) (λ next. accepted_on (asked_on input) link next)
acted (acts.CrossAndProbe up) old input link host = chained host (answers_and_leaves (asked_on input) answers.Crossed host) (writes up (frame_spelling frames.Probe)) (answered (asked_on input) answers.Crossed host) (λ next. refl)
acted acts.Raise old input link host = raised_one link.state link host
acted (acts.Leave own) old input link host = ends own host
acted (acts.Fail why) old input link host = chained host (leaves_off old host) (λ left. fails_with link why (with_link (forgotten link link.state) left)) (left_off old host) (λ next. refl)
acted acts.Acknowledge old input link host = acknowledged_one link.state host
acted acts.Close old input link host = chained host (says_closed old host then leaves_off old) (λ left. still (with_link (forgotten link link.state) left)) (chained host (says_closed old host) (leaves_off old) (closed_said old host) (left_off old)) (λ next. refl)

-- what a link makes of an input
heard : (input : LinkIn) (link : Link) (host : HostState) → Stays host (hears input link host)
heard input link host = by_told (step_of link.state input (is_greater (own_address host link.end) link.peer))
  where
    by_told : (told : LinkState × LinkAct) → Stays host (does_act told.1 link.state input (record link { state = told.0 }) (with_link (record link { state = told.0 }) host))
    by_told told = from host (with_link (record link { state = told.0 }) host) _ refl (acted told.1 link.state input (record link { state = told.0 }) (with_link (record link { state = told.0 }) host))

put : (item : Frame × Weight) (link : Link) (host : HostState) → Stays host (puts item link host)
put item link host = by_state link.state
  where
    by_state : (state : LinkState) → Stays host (elim state as (λ s. Stepped) [
      | states.Up sock probed ↦ Ok (frame_step sock item ∷ [], with_link link host)
      | _ ↦ Ok ([], with_link (record link { waits = link.waits ++ item ∷ [] }) host)
    ])
    by_state (states.Up sock probed) = refl
    by_state (states.Dialing sock) = refl
    by_state states.Idle = refl
    by_state states.AwaitOther = refl

-- ---- items

gone : (sock : ℕ) (link : Link) (host : HostState) → Stays host (gone_from sock link host)
gone sock link host = by_test (names link.state sock)
  where
    by_test : (b : Bool) → Stays host (cond b (hears inputs.Gone link host) (leaves sock host))
    by_test true = heard inputs.Gone link host
    by_test false = ends sock host

socket_gone : (socket : Socket) (host : HostState) → Stays host (is_gone socket host)
socket_gone socket host = by_user socket.user
  where
    by_user : (user : Option (ℕ × Address)) → Stays host (elim user [
      | None ↦ leaves socket.number host
      | Some user ↦ gone_from socket.number (link_with host user.0 user.1) host
    ])
    by_user None = ends socket.number host
    by_user (Some user) = gone socket.number (link_with host user.0 user.1) host

requested : (socket : Socket) (request : Request) (host : HostState) → Stays host (reads_request socket request host)
requested socket request host = by_answer (refusal_of host socket request.target request.from)
  where
    by_answer : (answer : Option Answer) → Stays host (elim answer [
      | Some answer ↦ answers_and_leaves socket.number answer host
      | None ↦ asks_link socket request.target request.from host
    ])
    by_answer (Some answer) = answered socket.number answer host
    by_answer None = from host (with_socket (record socket { user = Some (request.target, request.from) }) host) (asks_link socket request.target request.from host) refl (heard (inputs.Asked socket.number) (link_with host request.target request.from) (with_socket (record socket { user = Some (request.target, request.from) }) host))

arrival : (end : ℕ) (host : HostState) → where_is (with_arrival end host) ≡ where_is host
arrival end host = by_endpoint (find (is_endpoint end) host.ends)
  where
    by_endpoint : (o : Option Endpoint) → where_is (elim o as (λ o. HostState) [
      | None ↦ host
      | Some endpoint ↦ with_endpoint (record endpoint { arrived = endpoint.arrived + 1 }) host
    ]) ≡ where_is host
    by_endpoint None = refl
    by_endpoint (Some endpoint) = kept (record endpoint { arrived = endpoint.arrived + 1 }) host

arrived_one : (socket : Socket) (link : Link) (created : Result (List Connection) LightError) (host : HostState) → Stays host (arrives socket link created host)
arrived_one socket link (Err e) host = socket_gone socket host
arrived_one socket link (Ok created) host = by_test (nat_lt (arrived_at host link.end) most_arrived)
  where
    by_test : (b : Bool) → Stays host (cond b (posts link.end (events.ConnectionOpened (next_arrival host link.end) link.peer) (with_arrival link.end (with_link (record link { created = created }) host))) (Err stops.Worn))
    by_test true = arrival link.end (with_link (record link { created = created }) host)
    by_test false = tt

closed_one : (socket : Socket) (link : Link) (done : Result (ℕ × List Connection) LightError) (host : HostState) → Stays host (closes socket link done host)
closed_one socket link (Err e) host = socket_gone socket host
closed_one socket link (Ok done) host = refl

received : (socket : Socket) (link : Link) (payload : List ℕ) (conn : Result ℕ LightError) (host : HostState) → Stays host (receives socket link payload conn host)
received socket link payload (Err e) host = socket_gone socket host
received socket link payload (Ok conn) host = refl

framed : (socket : Socket) (link : Link) (frame : Frame) (host : HostState) → Stays host (reads_frame socket link frame host)
framed socket link (frames.Created id) host = arrived_one socket link (created_of link.created id (next_arrival host link.end)) host
framed socket link (frames.Closed id) host = closed_one socket link (closed_of link.created id) host
framed socket link (frames.Data id payload) host = received socket link payload (conn_of link.created id) host
framed socket link frames.EndClosed host = heard inputs.EndClosed link host
framed socket link frames.Probe host = heard inputs.Probe link host
framed socket link frames.ProbeAck host = heard inputs.Ack link host

read_on : (socket : Socket) (link : Link) (item : Item) (host : HostState) → Stays host (reads_on socket link item host)
read_on socket link (items.Request request) host = refl
read_on socket link (items.Answer answer) host = heard (inputs.Answered (heard_answer answer)) link host
read_on socket link (items.Frame frame) host = framed socket link frame host

read_other : (socket : Socket) (item : Item) (host : HostState) → Stays host (reads_other socket item host)
read_other socket item host = by_user socket.user
  where
    by_user : (user : Option (ℕ × Address)) → Stays host (elim user [
      | None ↦ still host
      | Some user ↦ reads_on socket (link_with host user.0 user.1) item host
    ])
    by_user None = refl
    by_user (Some user) = read_on socket (link_with host user.0 user.1) item host

read : (socket : Socket) (item : Item) (host : HostState) → Stays host (reads socket item host)
read socket (items.Request request) host = requested socket request host
read socket (items.Answer answer) host = read_other socket (items.Answer answer) host
read socket (items.Frame frame) host = read_other socket (items.Frame frame) host

-- ---- what a host is handed, and what it handles

joined : (socket : Socket) (host : HostState) → Stays host (joins socket host)
joined socket host = by_user socket.user
  where
    by_user : (user : Option (ℕ × Address)) → Stays host (elim user [
      | None ↦ still host
      | Some user ↦ writes socket.number (request_spelling (record { target = user.1.id; from = own_address host user.0 })) (with_socket (record socket { stage = Open }) host)
    ])
    by_user None = refl
    by_user (Some user) = refl

on_one : (test : Stage → Bool) (sock : ℕ) (f : Socket → HostState → Stepped) (host : HostState) → ((socket : Socket) → Stays host (f socket host)) → Stays host (on_socket test sock f host)
on_one test sock f host k = by_socket (find (is_socket sock) host.sockets)
  where
    by_test : (socket : Socket) (b : Bool) → Stays host (cond b (f socket host) (still host))
    by_test socket true = k socket
    by_test socket false = refl

    by_socket : (o : Option Socket) → Stays host (elim o [
      | None ↦ still host
      | Some socket ↦ cond (test socket.stage) (f socket host) (still host)
    ])
    by_socket None = refl
    by_socket (Some socket) = by_test socket (test socket.stage)

pub on_event : (host : HostState) (event : SocketEvent) → Stays host (host_on host event)
unfolding host_on
on_event host (sockets.Joined sock) = on_one is_pending sock joins host (λ socket. joined socket host)
on_event host (sockets.Came sock peer_host) = refl
on_event host (sockets.Refused sock) = on_one is_pending sock is_gone host (λ socket. socket_gone socket host)
on_event host (sockets.Fed sock bytes) = on_one is_open sock (keeps bytes) host (λ socket. refl)
on_event host (sockets.Ended sock) = on_one is_open sock is_gone host (λ socket. socket_gone socket host)
on_event host (sockets.Lost sock) = on_one is_open sock is_gone host (λ socket. socket_gone socket host)
on_event host (sockets.Late end peer) = by_test (host_timer_runs host end peer)
  where
    by_test : (b : Bool) → Stays host (cond b (hears inputs.Late (link_with host end peer) host) (still host))
    by_test true = heard inputs.Late (link_with host end peer) host
    by_test false = refl

handled : (socket : Socket) (host : HostState) → Stays host (handles socket (front_of socket) host)
handled socket host = by_front (front_of socket).0 (front_of socket).1
  where
    by_front : (front : Front) (count : ℕ) → Stays host (handles socket (front, count) host)
    by_front Unfinished count = refl
    by_front (Refused error) count = socket_gone socket host
    by_front (Whole item) count =
        let now : Socket = record socket { since = drop count socket.since; expected = expected.Frame } in
        later (steps.Read now.number ∷ []) host (with_socket now host) (reads now item (with_socket now host)) refl (read now item (with_socket now host))

pub next_item : (host : HostState) → Stays host (host_next host)
unfolding host_next
next_item host = by_first (first_ready host.sockets)
  where
    by_done : (one : Stepped) → Stays host one → Stays host (some_steps one)
    by_done (Ok one) k = k
    by_done (Err stop) k = tt

    by_first : (o : Option Socket) → Stays host (elim o as (λ o. Result (Option (List Step) × HostState) Stop) [
      | None ↦ Ok (None, host)
      | Some socket ↦ some_steps (handles socket (front_of socket) host)
    ])
    by_first None = refl
    by_first (Some socket) = by_done (handles socket (front_of socket) host) (handled socket host)

-- ---- what an endpoint asks

put_and_wanted : (item : Frame × Weight) (link : Link) (host : HostState) → Stays host (puts_and_wants item link host)
put_and_wanted item link host = chained host (puts item link host) (wants link.end link.peer) (put item link host) (λ next. heard (inputs.Want (next_dial next)) (link_with next link.end link.peer) next)

pub connected : (host : HostState) (end : ℕ) (peer : Address) (conn : ℕ) → Stays host (host_connect host end peer conn)
unfolding host_connect
connected host end peer conn = bound host (open_endpoint host end) _ (λ standing. bound host (of_ids (give_of (link_with host end peer).given conn)) _ (λ given. told host _ (put_and_wanted (frames.Created given.0, Free) (record (link_with host end peer) { given = given.1 }) host)))

pub sent : (host : HostState) (end conn : ℕ) (payload : List ℕ) (weight : Weight) → Stays host (host_send host end conn payload weight)
unfolding host_send
sent host end conn payload weight =
    bound host (found_or (find (carries end conn) host.links)) _ (λ link. bound host (short_enough payload) _ (λ short. bound host (has_room link weight) _ (λ roomy. bound host (found_or (id_of link.given conn)) _ (λ id. told host _ (put_and_wanted (frames.Data id short, weight) link host)))))

pub closed : (host : HostState) (end conn : ℕ) → Stays host (host_close host end conn)
unfolding host_close
closed host end conn =
    bound host (found_or (find (carries end conn) host.links)) _ (λ link. bound host (of_ids (close_of link.given conn)) _ (λ closed. told host _ (put (frames.Closed closed.0, Free) (record link { given = closed.1 }) host)))

shut_links : (end : ℕ) (links : List Link) (host : HostState) → Stays host (shuts_links end links host)
shut_links end [] host = refl
shut_links end (link ∷ rest) host = by_test (link.end == end) (shut_links end rest)
  where
    by_test : (b : Bool) → ((next : HostState) → Stays next (shuts_links end rest next)) → Stays host (cond b (hears inputs.Shut (link_with host end link.peer) host) (still host) then shuts_links end rest)
    by_test true k = chained host (hears inputs.Shut (link_with host end link.peer) host) (shuts_links end rest) (heard inputs.Shut (link_with host end link.peer) host) k
    by_test false k = chained host (still host) (shuts_links end rest) refl k

closed_end : (o : Option Endpoint) (host : HostState) → where_is (closes_endpoint o host) ≡ where_is host
closed_end None host = refl
closed_end (Some endpoint) host = kept (record endpoint { is_open = false }) host

pub endpoint_closed : (host : HostState) (end : ℕ) → Stays host (host_close_endpoint host end)
unfolding host_close_endpoint
endpoint_closed host end =
    bound host (open_endpoint host end) _ (λ standing. told host _ (chained host (shuts_links end host.links host) (λ shut. posts end events.EndPointClosed (closes_endpoint (find (is_endpoint end) shut.ends) shut)) (shut_links end host.links host) (λ next. closed_end (find (is_endpoint end) next.ends) next)))

-- ---- the same by its parts

pub host_kept : (before after : HostState) → where_is after ≡ where_is before → HostStays before after
host_kept before after e = record { host = ap (λ (w : Where). w.0) e; port = ap (λ (w : Where). w.1) e; circle = ap (λ (w : Where). w.2) e; ends = ap (λ (w : Where). w.3) e }

pub host_after : {S E : Type 0} (host after : HostState) (done : S) (given : Result (S × HostState) E) → Stays host given → given ≡ Ok (done, after) → HostStays host after
host_after {S = S} {E = E} host after done (Ok one) k e = let same : one.1 ≡ after = ap host_in e in host_kept host after (subst (λ (h : HostState). where_is h ≡ where_is host) same k)
  where
    host_in : Result (S × HostState) E → HostState
    host_in (Ok one) = one.1
    host_in (Err e) = host
host_after host after done (Err e) k is = absurd cc
