-- A host's steps post an event to a node last, if at all.
use Rattle.std.proofs.Common.{◌≡◌, ℕ, ◌+◌, Bool, true, false, cond, List, [], ◌∷◌, ◌++◌, map, drop, Ok, Err, refl, sym, ap, subst}
use Rattle.std.specs.Prelude.{find, Result, Option, Some, None, nat_lt, ◌==◌}
use Rattle.ch_base.specs.declared.address.Address.{Address}
use Rattle.ch_base.specs.declared.event.Event.TheVariants as events
use Rattle.ch_base.specs.declared.memory.Stop.{Stop}
use Rattle.ch_base.specs.declared.memory.Stop.TheVariants as stops
use Rattle.ch_wire.specs.Spelling.{answer_spelling, request_spelling}
use Rattle.ch_wire.specs.declared.answer.Answer.{Answer}
use Rattle.ch_wire.specs.declared.answer.Answer.TheVariants as answers
use Rattle.ch_wire.specs.declared.frame.Frame.{Frame}
use Rattle.ch_wire.specs.declared.frame.Frame.TheVariants as frames
use Rattle.ch_wire.specs.declared.request.Request.{Request}
use Rattle.ch_reader.specs.declared.item.Expected.TheVariants as expected
use Rattle.ch_reader.specs.declared.item.Front.{Front}
use Rattle.ch_reader.specs.declared.item.Front.TheVariants.{Unfinished, Whole, Refused}
use Rattle.ch_reader.specs.declared.item.Item.{Item}
use Rattle.ch_reader.specs.declared.item.Item.TheVariants as items
use Rattle.ch_link.specs.Sockets.{names}
use Rattle.ch_link.specs.Table.{step_of}
use Rattle.ch_link.specs.declared.LinkAct.{LinkAct}
use Rattle.ch_link.specs.declared.LinkAct.TheVariants as acts
use Rattle.ch_link.specs.declared.LinkIn.{LinkIn}
use Rattle.ch_link.specs.declared.LinkIn.TheVariants as inputs
use Rattle.ch_link.specs.declared.LinkState.{LinkState}
use Rattle.ch_link.specs.declared.LinkState.TheVariants as states
use Rattle.ch_light.specs.Ids.{created_of, conn_of, closed_of}
use Rattle.ch_light.specs.declared.Connection.{Connection}
use Rattle.ch_light.specs.declared.error.LightError.{LightError}
use Rattle.ch_model.specs.declared.step.EndError.{EndError}
use Rattle.ch_model.specs.declared.step.SocketEvent.{SocketEvent}
use Rattle.ch_model.specs.declared.step.SocketEvent.TheVariants as sockets
use Rattle.ch_model.specs.declared.step.Step.{Step}
use Rattle.ch_model.specs.declared.step.Step.TheVariants as steps
use Rattle.ch_model.specs.declared.step.Weight.{Weight}
use Rattle.ch_model.specs.Greater.{is_greater}
use Rattle.ch_model.specs.Host.{front_of, first_ready, on_socket, joins, keeps, host_on, takes, handles, some_steps, host_next}
use Rattle.ch_model.specs.HostCalls.{◌>>=◌, stepped, open_endpoint, shuts_links, closes_endpoint, host_close_endpoint, host_timer_runs}
use Rattle.ch_model.specs.HostItems.{most_arrived, posts, gone_from, is_gone, refusal_of, asks_link, reads_request, heard_answer, arrived_at, with_arrival, next_arrival, arrives, closes, receives, reads_frame, reads_on, reads_other, reads}
use Rattle.ch_model.specs.HostLinks.{most_dials, dialed, dials_for, accepts_on, asked_on, wanted_on, fails_with, says_closed, raised, acknowledged, does_act, hears}
use Rattle.ch_model.specs.HostState.{Link, Socket, HostState}
use Rattle.ch_model.specs.HostSteps.{Stepped, still, does, after_steps, ◌then◌, own_address, is_endpoint, is_socket, link_with, with_link, with_socket}
use Rattle.ch_model.specs.HostWrites.{writes, leaves, answers_and_leaves, flushes_to, frame_step, forgotten, leaves_off}
use Rattle.ch_model.specs.Stages.{Stage, Open, is_pending, is_open}

-- no step posts an event
abbrev pub PostsNone : List Step → Type 0
PostsNone [] = Unit {0}
PostsNone (steps.Post end event ∷ rest) = ⊥
PostsNone (step ∷ rest) = PostsNone rest

-- after a step that posts an event there is none
abbrev pub PostsLast : List Step → Type 0
PostsLast [] = Unit {0}
PostsLast (steps.Post end event ∷ rest) = rest ≡ []
PostsLast (step ∷ rest) = PostsLast rest

abbrev pub AllNone : Stepped → Type 0
AllNone (Ok done) = PostsNone done.0
AllNone (Err stop) = Unit {0}

abbrev pub AllLast : {E : Type 0} → Result (List Step × HostState) E → Type 0
AllLast (Ok done) = PostsLast done.0
AllLast (Err e) = Unit {0}

none_then_none : (xs ys : List Step) → PostsNone xs → PostsNone ys → PostsNone (xs ++ ys)
none_then_none [] ys a b = b
none_then_none (steps.Post end event ∷ xs) ys a b = absurd a
none_then_none (x ∷ xs) ys a b = none_then_none xs ys a b

none_then_last : (xs ys : List Step) → PostsNone xs → PostsLast ys → PostsLast (xs ++ ys)
none_then_last [] ys a b = b
none_then_last (steps.Post end event ∷ xs) ys a b = absurd a
none_then_last (x ∷ xs) ys a b = none_then_last xs ys a b

last_of_none : (xs : List Step) → PostsNone xs → PostsLast xs
last_of_none [] a = tt
last_of_none (steps.Post end event ∷ xs) a = absurd a
last_of_none (x ∷ xs) a = last_of_none xs a

all_last : (done : Stepped) → AllNone done → AllLast done
all_last (Ok done) a = last_of_none done.0 a
all_last (Err stop) a = tt

then_none : (done : Stepped) (f : HostState → Stepped) → AllNone done → ((next : HostState) → AllNone (f next)) → AllNone (done then f)
then_none (Ok done) f a g = from (f done.1) (g done.1) where
  from : (more : Stepped) → AllNone more → AllNone (after_steps done.0 more)
  from (Ok more) b = none_then_none done.0 more.0 a b
  from (Err stop) b = tt
then_none (Err stop) f a g = tt

then_last : (done : Stepped) (f : HostState → Stepped) → AllNone done → ((next : HostState) → AllLast (f next)) → AllLast (done then f)
then_last (Ok done) f a g = from (f done.1) (g done.1) where
  from : (more : Stepped) → AllLast more → AllLast (after_steps done.0 more)
  from (Ok more) b = none_then_last done.0 more.0 a b
  from (Err stop) b = tt
then_last (Err stop) f a g = tt

-- ---- links

answered : (sock : ℕ) (answer : Answer) (host : HostState) → AllNone (answers_and_leaves sock answer host)
answered sock answer host = tt

left_off : (state : LinkState) (host : HostState) → AllNone (leaves_off state host)
left_off (states.Up sock probed) host = tt
left_off (states.Dialing sock) host = tt
left_off states.Idle host = tt
left_off states.AwaitOther host = tt

frames_none : (sock : ℕ) (all : List (Frame × Weight)) → PostsNone (map (frame_step sock) all)
frames_none sock [] = tt
frames_none sock (item ∷ all) = frames_none sock all

accepted : (sock : ℕ) (link : Link) (host : HostState) → AllNone (accepts_on sock link host)
accepted sock link host = then_none (does (steps.Up sock) host then writes sock (answer_spelling answers.Accepted)) (flushes_to sock link) tt (λ next. frames_none sock link.waits)

dialed_one : (sock : ℕ) (link : Link) (host : HostState) → AllNone (dials_for sock link host)
dialed_one sock link host = by_test (nat_lt host.dials most_dials) where
  by_test : (b : Bool) → AllNone (cond b (Ok (steps.Dial sock link.end link.peer ∷ [], with_socket (dialed sock link.end link.peer) (record host { dials = host.dials + 1 }))) (Err stops.Worn))
  by_test true = tt
  by_test false = tt

closed_said : (state : LinkState) (host : HostState) → AllNone (says_closed state host)
closed_said (states.Up sock probed) host = tt
closed_said (states.Dialing sock) host = tt
closed_said states.Idle host = tt
closed_said states.AwaitOther host = tt

raised_one : (state : LinkState) (link : Link) (host : HostState) → AllNone (raised state link host)
raised_one (states.Up sock probed) link host = then_none (does (steps.Up sock) host) (flushes_to sock link) tt (λ next. frames_none sock link.waits)
raised_one (states.Dialing sock) link host = tt
raised_one states.Idle link host = tt
raised_one states.AwaitOther link host = tt

acknowledged_one : (state : LinkState) (host : HostState) → AllNone (acknowledged state host)
acknowledged_one (states.Up sock probed) host = tt
acknowledged_one (states.Dialing sock) host = tt
acknowledged_one states.Idle host = tt
acknowledged_one states.AwaitOther host = tt

closed_link : (old : LinkState) (link : Link) (host : HostState) → AllNone (says_closed old host then leaves_off old then (λ left. still (with_link (forgotten link link.state) left)))
closed_link old link host = then_none (says_closed old host then leaves_off old) (λ left. still (with_link (forgotten link link.state) left)) (then_none (says_closed old host) (leaves_off old) (closed_said old host) (left_off old)) (λ next. tt)

acted : (act : LinkAct) (old : LinkState) (input : LinkIn) (link : Link) (host : HostState) → AllLast (does_act act old input link host)
acted acts.Nothing old input link host = tt
acted acts.Dial old input link host = all_last (dials_for (wanted_on input) link host) (dialed_one (wanted_on input) link host)
acted acts.Accept old input link host = all_last (accepts_on (asked_on input) link host) (accepted (asked_on input) link host)
acted acts.Cross old input link host = tt
acted (acts.LeaveAndAccept own) old input link host = all_last (leaves own host then accepts_on (asked_on input) link) (then_none (leaves own host) (accepts_on (asked_on input) link) tt (λ next. accepted (asked_on input) link next))
acted (acts.CrossAndProbe up) old input link host = tt
acted acts.Raise old input link host = all_last (raised link.state link host) (raised_one link.state link host)
acted (acts.Leave own) old input link host = tt
acted (acts.Fail why) old input link host = then_last (leaves_off old host) (λ left. fails_with link why (with_link (forgotten link link.state) left)) (left_off old host) (λ next. refl)
acted acts.Acknowledge old input link host = all_last (acknowledged link.state host) (acknowledged_one link.state host)
acted acts.Close old input link host = all_last (says_closed old host then leaves_off old then (λ left. still (with_link (forgotten link link.state) left))) (closed_link old link host)

heard : (input : LinkIn) (link : Link) (host : HostState) → AllLast (hears input link host)
heard input link host = acted (step_of link.state input (is_greater (own_address host link.end) link.peer)).1 link.state input (record link { state = (step_of link.state input (is_greater (own_address host link.end) link.peer)).0 }) (with_link (record link { state = (step_of link.state input (is_greater (own_address host link.end) link.peer)).0 }) host)

-- a link that is shut posts nothing
closes_so : (state : LinkState) (greater : Bool) → (step_of state inputs.Shut greater).1 ≡ acts.Close
unfolding step_of
closes_so states.Idle greater = refl
closes_so state greater = refl

shut : (link : Link) (host : HostState) → AllNone (hears inputs.Shut link host)
shut link host = by_told (step_of link.state inputs.Shut (is_greater (own_address host link.end) link.peer)) (closes_so link.state (is_greater (own_address host link.end) link.peer)) where
  by_told : (told : LinkState × LinkAct) → told.1 ≡ acts.Close → AllNone (does_act told.1 link.state inputs.Shut (record link { state = told.0 }) (with_link (record link { state = told.0 }) host))
  by_told told e = subst (λ (a : LinkAct). AllNone (does_act a link.state inputs.Shut (record link { state = told.0 }) (with_link (record link { state = told.0 }) host))) (sym e) (closed_link link.state (record link { state = told.0 }) (with_link (record link { state = told.0 }) host))

-- ---- items

gone : (sock : ℕ) (link : Link) (host : HostState) → AllLast (gone_from sock link host)
gone sock link host = by_test (names link.state sock) where
  by_test : (b : Bool) → AllLast {E = Stop} (cond b (hears inputs.Gone link host) (leaves sock host))
  by_test true = heard inputs.Gone link host
  by_test false = tt

socket_gone : (socket : Socket) (host : HostState) → AllLast (is_gone socket host)
socket_gone socket host = by_user socket.user where
  by_user : (user : Option (ℕ × Address)) → AllLast {E = Stop} (elim user as (λ x. Stepped) [
    | None ↦ leaves socket.number host
    | Some user ↦ gone_from socket.number (link_with host user.0 user.1) host
  ])
  by_user None = tt
  by_user (Some user) = gone socket.number (link_with host user.0 user.1) host

requested : (socket : Socket) (request : Request) (host : HostState) → AllLast (reads_request socket request host)
requested socket request host = by_answer (refusal_of host socket request.target request.from) where
  by_answer : (answer : Option Answer) → AllLast {E = Stop} (elim answer as (λ x. Stepped) [
    | Some answer ↦ answers_and_leaves socket.number answer host
    | None ↦ asks_link socket request.target request.from host
  ])
  by_answer (Some answer) = tt
  by_answer None = heard (inputs.Asked socket.number) (link_with host request.target request.from) (with_socket (record socket { user = Some (request.target, request.from) }) host)

arrived : (socket : Socket) (link : Link) (created : Result (List Connection) LightError) (host : HostState) → AllLast (arrives socket link created host)
arrived socket link (Err e) host = socket_gone socket host
arrived socket link (Ok created) host = by_test (nat_lt (arrived_at host link.end) most_arrived) where
  by_test : (b : Bool) → AllLast {E = Stop} (cond b (posts link.end (events.ConnectionOpened (next_arrival host link.end) link.peer) (with_arrival link.end (with_link (record link { created = created }) host))) (Err stops.Worn))
  by_test true = refl
  by_test false = tt

closed : (socket : Socket) (link : Link) (done : Result (ℕ × List Connection) LightError) (host : HostState) → AllLast (closes socket link done host)
closed socket link (Err e) host = socket_gone socket host
closed socket link (Ok done) host = refl

received : (socket : Socket) (link : Link) (payload : List ℕ) (conn : Result ℕ LightError) (host : HostState) → AllLast (receives socket link payload conn host)
received socket link payload (Err e) host = socket_gone socket host
received socket link payload (Ok conn) host = refl

framed : (socket : Socket) (link : Link) (frame : Frame) (host : HostState) → AllLast (reads_frame socket link frame host)
framed socket link (frames.Created id) host = arrived socket link (created_of link.created id (next_arrival host link.end)) host
framed socket link (frames.Closed id) host = closed socket link (closed_of link.created id) host
framed socket link (frames.Data id payload) host = received socket link payload (conn_of link.created id) host
framed socket link frames.EndClosed host = heard inputs.EndClosed link host
framed socket link frames.Probe host = heard inputs.Probe link host
framed socket link frames.ProbeAck host = heard inputs.Ack link host

read_on : (socket : Socket) (link : Link) (item : Item) (host : HostState) → AllLast (reads_on socket link item host)
read_on socket link (items.Request request) host = tt
read_on socket link (items.Answer answer) host = heard (inputs.Answered (heard_answer answer)) link host
read_on socket link (items.Frame frame) host = framed socket link frame host

read_other : (socket : Socket) (item : Item) (host : HostState) → AllLast (reads_other socket item host)
read_other socket item host = by_user socket.user where
  by_user : (user : Option (ℕ × Address)) → AllLast {E = Stop} (elim user as (λ x. Stepped) [
    | None ↦ still host
    | Some user ↦ reads_on socket (link_with host user.0 user.1) item host
  ])
  by_user None = tt
  by_user (Some user) = read_on socket (link_with host user.0 user.1) item host

read : (socket : Socket) (item : Item) (host : HostState) → AllLast (reads socket item host)
read socket (items.Request request) host = requested socket request host
read socket (items.Answer answer) host = read_other socket (items.Answer answer) host
read socket (items.Frame frame) host = read_other socket (items.Frame frame) host

handled : (socket : Socket) (front : Front × ℕ) (host : HostState) → AllLast (handles socket front host)
handled socket front host = by_front front.0 where
  now : Socket
  now = record socket { since = drop front.1 socket.since; expected = expected.Frame }

  by_front : (x : Front) → AllLast {E = Stop} (elim x as (λ x. Stepped) [
    | Unfinished ↦ still host
    | Refused error ↦ is_gone socket host
    | Whole item ↦ takes now item host
  ])
  by_front Unfinished = tt
  by_front (Refused error) = socket_gone socket host
  by_front (Whole item) = then_last (does (steps.Read now.number) (with_socket now host)) (reads now item) tt (λ next. read now item next)

pub next_last : (host after : HostState) (told : List Step) → host_next host ≡ Ok (Some told, after) → PostsLast told
unfolding host_next
next_last host after told e = by_first (first_ready host.sockets) e where
  some_in : Result (Option (List Step) × HostState) Stop → Option (List Step)
  some_in (Ok next) = next.0
  some_in (Err stop) = None

  steps_in : Result (Option (List Step) × HostState) Stop → List Step
  steps_in (Ok next) = elim next.0 [
    | None ↦ []
    | Some steps ↦ steps
  ]
  steps_in (Err stop) = []

  by_done : (one : Stepped) → AllLast one → some_steps one ≡ Ok (Some told, after) → PostsLast told
  by_done (Ok one) f e = let same_steps : one.0 ≡ told = ap steps_in e in subst (λ (l : List Step). PostsLast l) same_steps f
  by_done (Err stop) f e = absurd cc

  by_first : (o : Option Socket) → (elim o as (λ o. Result (Option (List Step) × HostState) Stop) [
    | None ↦ Ok (None, host)
    | Some socket ↦ some_steps (handles socket (front_of socket) host)
  ]) ≡ Ok (Some told, after) → PostsLast told
  by_first None e = let never : None ≡ Some told = ap some_in e in absurd cc
  by_first (Some socket) e = by_done (handles socket (front_of socket) host) (handled socket (front_of socket) host) e

-- ---- events

on_one : (test : Stage → Bool) (sock : ℕ) (f : Socket → HostState → Stepped) (host : HostState) → ((socket : Socket) → AllLast (f socket host)) → AllLast (on_socket test sock f host)
on_one test sock f host each = by_socket (find (is_socket sock) host.sockets) where
  by_test : (socket : Socket) (b : Bool) → AllLast {E = Stop} (cond b (f socket host) (still host))
  by_test socket true = each socket
  by_test socket false = tt

  by_socket : (o : Option Socket) → AllLast {E = Stop} (elim o as (λ x. Stepped) [
    | None ↦ still host
    | Some socket ↦ cond (test socket.stage) (f socket host) (still host)
  ])
  by_socket None = tt
  by_socket (Some socket) = by_test socket (test socket.stage)

joined : (socket : Socket) (host : HostState) → AllLast (joins socket host)
joined socket host = by_user socket.user where
  by_user : (user : Option (ℕ × Address)) → AllLast {E = Stop} (elim user as (λ x. Stepped) [
    | None ↦ still host
    | Some user ↦ writes socket.number (request_spelling (record { target = user.1.id; from = own_address host user.0 })) (with_socket (record socket { stage = Open }) host)
  ])
  by_user None = tt
  by_user (Some user) = tt

pub event_last : (host : HostState) (event : SocketEvent) → AllLast (host_on host event)
unfolding host_on
event_last host (sockets.Joined sock) = on_one is_pending sock joins host (λ socket. joined socket host)
event_last host (sockets.Came sock peer_host) = tt
event_last host (sockets.Refused sock) = on_one is_pending sock is_gone host (λ socket. socket_gone socket host)
event_last host (sockets.Fed sock bytes) = on_one is_open sock (keeps bytes) host (λ socket. tt)
event_last host (sockets.Ended sock) = on_one is_open sock is_gone host (λ socket. socket_gone socket host)
event_last host (sockets.Lost sock) = on_one is_open sock is_gone host (λ socket. socket_gone socket host)
event_last host (sockets.Late end peer) = by_test (host_timer_runs host end peer) where
  by_test : (b : Bool) → AllLast {E = Stop} (cond b (hears inputs.Late (link_with host end peer) host) (still host))
  by_test true = heard inputs.Late (link_with host end peer) host
  by_test false = tt

-- ---- an endpoint that is closed

shut_links : (end : ℕ) (links : List Link) (host : HostState) → AllNone (shuts_links end links host)
shut_links end [] host = tt
shut_links end (link ∷ rest) host = by_test (link.end == end) (shut_links end rest) where
  by_test : (b : Bool) → ((next : HostState) → AllNone (shuts_links end rest next)) → AllNone (cond b (hears inputs.Shut (link_with host end link.peer) host) (still host) then shuts_links end rest)
  by_test true k = then_none (hears inputs.Shut (link_with host end link.peer) host) (shuts_links end rest) (shut (link_with host end link.peer) host) k
  by_test false k = then_none (still host) (shuts_links end rest) tt k

as_last : (done : Stepped) → AllLast done → AllLast (stepped done)
as_last (Ok done) f = f
as_last (Err stop) f = tt

bound : {A : Type 0} (given : Result A EndError) (f : A → Result (List Step × HostState) EndError) → ((x : A) → AllLast (f x)) → AllLast (given >>= f)
bound (Ok x) f k = k x
bound (Err e) f k = tt

pub endpoint_last : (host : HostState) (end : ℕ) → AllLast (host_close_endpoint host end)
unfolding host_close_endpoint
endpoint_last host end = bound (open_endpoint host end) _ (λ standing. as_last (shuts_links end host.links host then (λ shut. posts end events.EndPointClosed (closes_endpoint (find (is_endpoint end) shut.ends) shut))) (then_last (shuts_links end host.links host) (λ shut. posts end events.EndPointClosed (closes_endpoint (find (is_endpoint end) shut.ends) shut)) (shut_links end host.links host) (λ next. refl)))
