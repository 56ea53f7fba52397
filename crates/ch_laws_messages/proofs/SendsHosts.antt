-- What a host makes of events and items: what waits stays weighed as it was put; and where it tells a node that its connections are lost, it
-- tells that the link is broken.
use Rattle.std.proofs.Common.{◌≡◌, ℕ, ◌+◌, Bool, true, false, cond, ◌||◌, List, [], ◌∷◌, ◌++◌, drop, map, Ok, Err, refl, sym, ap, ◌∙◌, subst}
use Rattle.std.proofs.lemmas.List.Folds.{list_any-append}
use Rattle.std.specs.List.{list_any}
use Rattle.std.specs.Prelude.{find, Result, Option, Some, None, nat_lt}
use Rattle.ch_base.specs.declared.address.Address.{Address}
use Rattle.ch_base.specs.declared.event.Event.TheVariants as events
use Rattle.ch_base.specs.declared.event.Why.{Why}
use Rattle.ch_base.specs.declared.memory.Stop.{Stop}
use Rattle.ch_base.specs.declared.memory.Stop.TheVariants as stops
use Rattle.ch_wire.specs.Spelling.{request_spelling, answer_spelling, frame_spelling}
use Rattle.ch_wire.specs.declared.answer.Answer.{Answer}
use Rattle.ch_wire.specs.declared.answer.Answer.TheVariants as answers
use Rattle.ch_wire.specs.declared.frame.Frame.{Frame}
use Rattle.ch_wire.specs.declared.frame.Frame.TheVariants as frames
use Rattle.ch_wire.specs.declared.request.Request.{Request}
use Rattle.ch_reader.specs.declared.item.Expected.TheVariants as expected
use Rattle.ch_reader.specs.declared.item.Front.{Front}
use Rattle.ch_reader.specs.declared.item.Front.TheVariants.{Unfinished, Whole, Refused}
use Rattle.ch_reader.specs.declared.item.Item.{Item}
use Rattle.ch_reader.specs.declared.item.Item.TheVariants as items
use Rattle.ch_link.specs.Sockets.{names}
use Rattle.ch_link.specs.Table.{step_of}
use Rattle.ch_link.specs.declared.LinkAct.{LinkAct}
use Rattle.ch_link.specs.declared.LinkAct.TheVariants as acts
use Rattle.ch_link.specs.declared.LinkIn.{LinkIn}
use Rattle.ch_link.specs.declared.LinkIn.TheVariants as inputs
use Rattle.ch_link.specs.declared.LinkState.{LinkState}
use Rattle.ch_link.specs.declared.LinkState.TheVariants as states
use Rattle.ch_light.specs.Ids.{created_of, conn_of, closed_of}
use Rattle.ch_light.specs.declared.Connection.{Connection}
use Rattle.ch_light.specs.declared.error.LightError.{LightError}
use Rattle.ch_model.specs.declared.step.SocketEvent.{SocketEvent}
use Rattle.ch_model.specs.declared.step.SocketEvent.TheVariants as sockets
use Rattle.ch_model.specs.declared.step.Step.{Step}
use Rattle.ch_model.specs.declared.step.Step.TheVariants as steps
use Rattle.ch_model.specs.declared.step.Weight.{Weight}
use Rattle.ch_model.specs.Greater.{is_greater}
use Rattle.ch_model.specs.Host.{front_of, first_ready, on_socket, joins, keeps, host_on, takes, handles, some_steps, host_next}
use Rattle.ch_model.specs.HostCalls.{host_timer_runs}
use Rattle.ch_model.specs.HostItems.{most_arrived, posts, gone_from, is_gone, refusal_of, asks_link, reads_request, heard_answer, arrived_at, with_arrival, next_arrival, arrives, closes, receives, reads_frame, reads_on, reads_other, reads}
use Rattle.ch_model.specs.HostLinks.{most_dials, dialed, dials_for, accepts_on, fails_with, says_closed, asked_on, wanted_on, raised, acknowledged, does_act, hears}
use Rattle.ch_model.specs.HostState.{Endpoint, Link, Socket, HostState}
use Rattle.ch_model.specs.HostSteps.{Stepped, still, does, after_steps, ◌then◌, is_endpoint, is_link, link_or_new, link_with, own_address, is_socket, store_link, with_link, with_socket, with_endpoint}
use Rattle.ch_model.specs.HostWrites.{writes, frame_step, end_socket, leaves, answers_and_leaves, flushes_to, forgotten, leaves_off}
use Rattle.ch_model.specs.Stages.{Stage, Open, is_pending, is_open}
use Rattle.ch_laws_links.proofs.Keys.{ended_rest}
use Rattle.ch_laws_connections.specs.Tables.{loses_at}
use Rattle.ch_laws_messages.specs.SendsSends.{AreWeighed, LinksWeighed}
use Rattle.ch_laws_messages.proofs.GotHosts.{is_broke}

-- ---- links that are kept

pub link_stored : (link : Link) (links : List Link) → AreWeighed link.waits → LinksWeighed links → LinksWeighed (store_link link links)
link_stored link [] w l = (w, tt)
link_stored link (known ∷ rest) w l = by_test (is_link link.end link.peer known) (link_stored link rest w l.1) where
  by_test : (b : Bool) → LinksWeighed (store_link link rest) → LinksWeighed (cond b (link ∷ rest) (known ∷ store_link link rest))
  by_test true s = (w, l.1)
  by_test false s = (l.0, s)

link_among : (links : List Link) (end : ℕ) (peer : Address) → LinksWeighed links → AreWeighed (link_or_new end peer (find (is_link end peer) links)).waits
link_among [] end peer l = tt
link_among (known ∷ rest) end peer l = by_test (is_link end peer known) (link_among rest end peer l.1) where
  by_test : (b : Bool) → AreWeighed (link_or_new end peer (find (is_link end peer) rest)).waits → AreWeighed (link_or_new end peer (cond b (Some known) (find (is_link end peer) rest))).waits
  by_test true r = l.0
  by_test false r = r

-- what waits for a link of the host is weighed
pub waits_weighed : (host : HostState) (end : ℕ) (peer : Address) → LinksWeighed host.links → AreWeighed (link_with host end peer).waits
waits_weighed host end peer l = link_among host.links end peer l

-- so it is of what a test finds
pub found_weighed : (test : Link → Bool) (links : List Link) (link : Link) → LinksWeighed links → find test links ≡ Some link → AreWeighed link.waits
found_weighed test [] link l e = absurd cc
found_weighed test (known ∷ rest) link l e = by_test (test known) (found_weighed test rest link l.1) e where
  by_test : (b : Bool) → (find test rest ≡ Some link → AreWeighed link.waits) → cond b (Some known) (find test rest) ≡ Some link → AreWeighed link.waits
  by_test true r e = let is : known ≡ link = cc in subst (λ (l : Link). AreWeighed l.waits) is l.0
  by_test false r e = r e

-- ---- what is told

-- no node is told that its connections are lost, where no step tells that a link is broken
abbrev pub IsHonest : List Step → Type 0
IsHonest told = list_any is_broke told ≡ false → (end : ℕ) (peer : Address) → list_any (loses_at end peer) told ≡ false

abbrev pub AllWell : Stepped → Type 0
AllWell (Ok done) = LinksWeighed done.1.links × IsHonest done.0
AllWell (Err stop) = Unit {0}

either_none : (a b : Bool) → (a || b) ≡ false → (a ≡ false) × (b ≡ false)
either_none true b e = absurd cc
either_none false b e = (refl, e)

honest_both : (xs ys : List Step) → IsHonest xs → IsHonest ys → IsHonest (xs ++ ys)
honest_both xs ys a b = λ none end peer. let parts = either_none (list_any is_broke xs) (list_any is_broke ys) (sym (list_any-append is_broke xs ys) ∙ none) in
    list_any-append (loses_at end peer) xs ys ∙ ap (λ t. t || list_any (loses_at end peer) ys) (a parts.0 end peer) ∙ b parts.1 end peer

chained : (done : Stepped) (f : HostState → Stepped) → AllWell done → ((next : HostState) → LinksWeighed next.links → AllWell (f next)) → AllWell (done then f)
chained (Ok done) f a g = from (f done.1) (g done.1 a.0) where
  from : (more : Stepped) → AllWell more → AllWell (after_steps done.0 more)
  from (Ok more) b = (b.0, honest_both done.0 more.0 a.1 b.1)
  from (Err stop) b = tt
chained (Err stop) f a g = tt

rests : (host : HostState) → LinksWeighed host.links → AllWell (still host)
rests host l = (l, λ n e p. refl)

ends : (sock : ℕ) (host : HostState) → LinksWeighed host.links → LinksWeighed (end_socket sock host).links
ends sock host l = subst LinksWeighed (sym (ended_rest sock host).0) l

left : (sock : ℕ) (host : HostState) → LinksWeighed host.links → AllWell (leaves sock host)
left sock host l = (ends sock host l, λ n e p. refl)

answered : (sock : ℕ) (answer : Answer) (host : HostState) → LinksWeighed host.links → AllWell (answers_and_leaves sock answer host)
answered sock answer host l = chained (writes sock (answer_spelling answer) host) (leaves sock) (l, λ n e p. refl) (λ next m. left sock next m)

left_off : (state : LinkState) (host : HostState) → LinksWeighed host.links → AllWell (leaves_off state host)
left_off (states.Up sock probed) host l = (ends sock host l, λ n e p. refl)
left_off (states.Dialing sock) host l = left sock host l
left_off states.Idle host l = rests host l
left_off states.AwaitOther host l = rests host l

dialed_one : (sock : ℕ) (link : Link) (host : HostState) → LinksWeighed host.links → AllWell (dials_for sock link host)
dialed_one sock link host l = by_test (nat_lt host.dials most_dials) where
  by_test : (b : Bool) → AllWell (cond b (Ok (steps.Dial sock link.end link.peer ∷ [], with_socket (dialed sock link.end link.peer) (record host { dials = host.dials + 1 }))) (Err stops.Worn))
  by_test true = (l, λ n e p. refl)
  by_test false = tt

frames_honest : (sock : ℕ) (all : List (Frame × Weight)) → (end : ℕ) (peer : Address) → list_any (loses_at end peer) (map (frame_step sock) all) ≡ false
frames_honest sock [] end peer = refl
frames_honest sock (item ∷ rest) end peer = frames_honest sock rest end peer

flushed : (sock : ℕ) (link : Link) (host : HostState) → LinksWeighed host.links → AllWell (flushes_to sock link host)
flushed sock link host l = (link_stored (record link { waits = [] }) host.links tt l, λ n e p. frames_honest sock link.waits e p)

came_up : (sock : ℕ) (link : Link) (host : HostState) → LinksWeighed host.links → AllWell (accepts_on sock link host)
came_up sock link host l = chained (does (steps.Up sock) host then writes sock (answer_spelling answers.Accepted)) (flushes_to sock link) (l, λ n e p. refl) (λ next m. flushed sock link next m)

raised_one : (state : LinkState) (link : Link) (host : HostState) → LinksWeighed host.links → AllWell (raised state link host)
raised_one (states.Up sock probed) link host l = chained (does (steps.Up sock) host) (flushes_to sock link) (l, λ n e p. refl) (λ next m. flushed sock link next m)
raised_one (states.Dialing sock) link host l = rests host l
raised_one states.Idle link host l = rests host l
raised_one states.AwaitOther link host l = rests host l

acknowledged_one : (state : LinkState) (host : HostState) → LinksWeighed host.links → AllWell (acknowledged state host)
acknowledged_one (states.Up sock probed) host l = (l, λ n e p. refl)
acknowledged_one (states.Dialing sock) host l = rests host l
acknowledged_one states.Idle host l = rests host l
acknowledged_one states.AwaitOther host l = rests host l

closed_said : (state : LinkState) (host : HostState) → LinksWeighed host.links → AllWell (says_closed state host)
closed_said (states.Up sock probed) host l = (l, λ n e p. refl)
closed_said (states.Dialing sock) host l = rests host l
closed_said states.Idle host l = rests host l
closed_said states.AwaitOther host l = rests host l

failed : (link : Link) (why : Why) (host : HostState) → LinksWeighed host.links → AllWell (fails_with link why (with_link (forgotten link link.state) host))
failed link why host l = (link_stored (forgotten link link.state) host.links tt l, λ n e p. absurd cc)

acted : (act : LinkAct) (old : LinkState) (input : LinkIn) (link : Link) (host : HostState) → LinksWeighed host.links → AllWell (does_act act old input link host)
acted acts.Nothing old input link host l = rests host l
acted acts.Dial old input link host l = dialed_one (wanted_on input) link host l
acted acts.Accept old input link host l = came_up (asked_on input) link host l
acted acts.Cross old input link host l = answered (asked_on input) answers.Crossed host l
acted (acts.LeaveAndAccept own) old input link host l = chained (leaves own host) (accepts_on (asked_on input) link) (left own host l) (λ next m. came_up (asked_on input) link next m)
acted (acts.CrossAndProbe up) old input link host l = chained (answers_and_leaves (asked_on input) answers.Crossed host) (writes up (frame_spelling frames.Probe)) (answered (asked_on input) answers.Crossed host l) (λ next m. (m, λ n e p. refl))
acted acts.Raise old input link host l = raised_one link.state link host l
acted (acts.Leave own) old input link host l = left own host l
acted (acts.Fail why) old input link host l = chained (leaves_off old host) (λ left. fails_with link why (with_link (forgotten link link.state) left)) (left_off old host l) (λ next m. failed link why next m)
acted acts.Acknowledge old input link host l = acknowledged_one link.state host l
acted acts.Close old input link host l = chained (says_closed old host then leaves_off old) (λ left. still (with_link (forgotten link link.state) left)) (chained (says_closed old host) (leaves_off old) (closed_said old host l) (λ next m. left_off old next m)) (λ next m. (link_stored (forgotten link link.state) next.links tt m, λ n e p. refl))

-- what a link makes of an input
pub heard : (input : LinkIn) (link : Link) (host : HostState) → AreWeighed link.waits → LinksWeighed host.links → AllWell (hears input link host)
heard input link host w l = acted told.1 link.state input now (with_link now host) (link_stored now host.links w l) where
  told : LinkState × LinkAct
  told = step_of link.state input (is_greater (own_address host link.end) link.peer)

  now : Link
  now = record link { state = told.0 }

-- ---- a socket that is gone

gone : (sock : ℕ) (link : Link) (host : HostState) → AreWeighed link.waits → LinksWeighed host.links → AllWell (gone_from sock link host)
gone sock link host w l = by_test (names link.state sock) where
  by_test : (b : Bool) → AllWell (cond b (hears inputs.Gone link host) (leaves sock host))
  by_test true = heard inputs.Gone link host w l
  by_test false = left sock host l

socket_gone : (socket : Socket) (host : HostState) → LinksWeighed host.links → AllWell (is_gone socket host)
socket_gone socket host l = by_user socket.user where
  by_user : (user : Option (ℕ × Address)) → AllWell (elim user as (λ x. Stepped) [
    | None ↦ leaves socket.number host
    | Some user ↦ gone_from socket.number (link_with host user.0 user.1) host
  ])
  by_user None = left socket.number host l
  by_user (Some user) = gone socket.number (link_with host user.0 user.1) host (waits_weighed host user.0 user.1 l) l

-- ---- items

requested : (socket : Socket) (request : Request) (host : HostState) → LinksWeighed host.links → AllWell (reads_request socket request host)
requested socket request host l = by_answer (refusal_of host socket request.target request.from) where
  by_answer : (answer : Option Answer) → AllWell (elim answer as (λ x. Stepped) [
    | Some answer ↦ answers_and_leaves socket.number answer host
    | None ↦ asks_link socket request.target request.from host
  ])
  by_answer (Some answer) = answered socket.number answer host l
  by_answer None = heard (inputs.Asked socket.number) (link_with host request.target request.from) (with_socket (record socket { user = Some (request.target, request.from) }) host) (waits_weighed host request.target request.from l) l

arrival : (end : ℕ) (host : HostState) → LinksWeighed host.links → LinksWeighed (with_arrival end host).links
arrival end host l = by_endpoint (find (is_endpoint end) host.ends) where
  by_endpoint : (o : Option Endpoint) → LinksWeighed (elim o as (λ o. HostState) [
    | None ↦ host
    | Some endpoint ↦ with_endpoint (record endpoint { arrived = endpoint.arrived + 1 }) host
  ]).links
  by_endpoint None = l
  by_endpoint (Some endpoint) = l

arrived : (socket : Socket) (link : Link) (created : Result (List Connection) LightError) (host : HostState) → AreWeighed link.waits → LinksWeighed host.links → AllWell (arrives socket link created host)
arrived socket link (Err e) host w l = socket_gone socket host l
arrived socket link (Ok created) host w l = by_test (nat_lt (arrived_at host link.end) most_arrived) where
  by_test : (b : Bool) → AllWell (cond b (posts link.end (events.ConnectionOpened (next_arrival host link.end) link.peer) (with_arrival link.end (with_link (record link { created = created }) host))) (Err stops.Worn))
  by_test true = (arrival link.end (with_link (record link { created = created }) host) (link_stored (record link { created = created }) host.links w l), λ n e p. refl)
  by_test false = tt

closed : (socket : Socket) (link : Link) (done : Result (ℕ × List Connection) LightError) (host : HostState) → AreWeighed link.waits → LinksWeighed host.links → AllWell (closes socket link done host)
closed socket link (Err e) host w l = socket_gone socket host l
closed socket link (Ok done) host w l = (link_stored (record link { created = done.1 }) host.links w l, λ n e p. refl)

received : (socket : Socket) (link : Link) (payload : List ℕ) (conn : Result ℕ LightError) (host : HostState) → LinksWeighed host.links → AllWell (receives socket link payload conn host)
received socket link payload (Err e) host l = socket_gone socket host l
received socket link payload (Ok conn) host l = (l, λ n e p. refl)

framed : (socket : Socket) (link : Link) (frame : Frame) (host : HostState) → AreWeighed link.waits → LinksWeighed host.links → AllWell (reads_frame socket link frame host)
framed socket link (frames.Created id) host w l = arrived socket link (created_of link.created id (next_arrival host link.end)) host w l
framed socket link (frames.Closed id) host w l = closed socket link (closed_of link.created id) host w l
framed socket link (frames.Data id payload) host w l = received socket link payload (conn_of link.created id) host l
framed socket link frames.EndClosed host w l = heard inputs.EndClosed link host w l
framed socket link frames.Probe host w l = heard inputs.Probe link host w l
framed socket link frames.ProbeAck host w l = heard inputs.Ack link host w l

read_on : (socket : Socket) (link : Link) (item : Item) (host : HostState) → AreWeighed link.waits → LinksWeighed host.links → AllWell (reads_on socket link item host)
read_on socket link (items.Request request) host w l = rests host l
read_on socket link (items.Answer answer) host w l = heard (inputs.Answered (heard_answer answer)) link host w l
read_on socket link (items.Frame frame) host w l = framed socket link frame host w l

read_other : (socket : Socket) (item : Item) (host : HostState) → LinksWeighed host.links → AllWell (reads_other socket item host)
read_other socket item host l = by_user socket.user where
  by_user : (user : Option (ℕ × Address)) → AllWell (elim user as (λ x. Stepped) [
    | None ↦ still host
    | Some user ↦ reads_on socket (link_with host user.0 user.1) item host
  ])
  by_user None = rests host l
  by_user (Some user) = read_on socket (link_with host user.0 user.1) item host (waits_weighed host user.0 user.1 l) l

read : (socket : Socket) (item : Item) (host : HostState) → LinksWeighed host.links → AllWell (reads socket item host)
read socket (items.Request request) host l = requested socket request host l
read socket (items.Answer answer) host l = read_other socket (items.Answer answer) host l
read socket (items.Frame frame) host l = read_other socket (items.Frame frame) host l

handled : (socket : Socket) (front : Front × ℕ) (host : HostState) → LinksWeighed host.links → AllWell (handles socket front host)
handled socket front host l = by_front front.0 where
  now : Socket
  now = record socket { since = drop front.1 socket.since; expected = expected.Frame }

  by_front : (x : Front) → AllWell (elim x as (λ x. Stepped) [
    | Unfinished ↦ still host
    | Refused error ↦ is_gone socket host
    | Whole item ↦ takes (record socket { since = drop front.1 socket.since; expected = expected.Frame }) item host
  ])
  by_front Unfinished = rests host l
  by_front (Refused error) = socket_gone socket host l
  by_front (Whole item) = chained (does (steps.Read now.number) (with_socket now host)) (reads now item) (l, λ n e p. refl) (λ next m. read now item next m)

-- one item
pub next_well : (host after : HostState) (told : List Step) → host_next host ≡ Ok (Some told, after) → LinksWeighed host.links → LinksWeighed after.links × IsHonest told
unfolding host_next
next_well host after told e l = by_first (first_ready host.sockets) e where
  some_in : Result (Option (List Step) × HostState) Stop → Option (List Step)
  some_in (Ok next) = next.0
  some_in (Err stop) = None

  steps_in : Result (Option (List Step) × HostState) Stop → List Step
  steps_in (Ok next) = elim next.0 [
    | None ↦ []
    | Some steps ↦ steps
  ]
  steps_in (Err stop) = []

  host_in : Result (Option (List Step) × HostState) Stop → HostState
  host_in (Ok next) = next.1
  host_in (Err stop) = host

  by_done : (one : Stepped) → AllWell one → some_steps one ≡ Ok (Some told, after) → LinksWeighed after.links × IsHonest told
  by_done (Ok one) f e =
      let same_host : one.1 ≡ after = ap host_in e in
      let same_steps : one.0 ≡ told = ap steps_in e in
      (subst (λ (h : HostState). LinksWeighed h.links) same_host f.0, subst IsHonest same_steps f.1)
  by_done (Err stop) f e = absurd cc

  by_first : (o : Option Socket) → (elim o as (λ o. Result (Option (List Step) × HostState) Stop) [
    | None ↦ Ok (None, host)
    | Some socket ↦ some_steps (handles socket (front_of socket) host)
  ]) ≡ Ok (Some told, after) → LinksWeighed after.links × IsHonest told
  by_first None e = let never : None ≡ Some told = ap some_in e in absurd cc
  by_first (Some socket) e = by_done (handles socket (front_of socket) host) (handled socket (front_of socket) host l) e

-- ---- events

on_one : (test : Stage → Bool) (sock : ℕ) (f : Socket → HostState → Stepped) (host : HostState) → LinksWeighed host.links → ((socket : Socket) → AllWell (f socket host)) → AllWell (on_socket test sock f host)
on_one test sock f host l each = by_socket (find (is_socket sock) host.sockets) where
  by_test : (socket : Socket) (b : Bool) → AllWell (cond b (f socket host) (still host))
  by_test socket true = each socket
  by_test socket false = rests host l

  by_socket : (o : Option Socket) → AllWell (elim o as (λ x. Stepped) [
    | None ↦ still host
    | Some socket ↦ cond (test socket.stage) (f socket host) (still host)
  ])
  by_socket None = rests host l
  by_socket (Some socket) = by_test socket (test socket.stage)

joined : (socket : Socket) (host : HostState) → LinksWeighed host.links → AllWell (joins socket host)
joined socket host l = by_user socket.user where
  by_user : (user : Option (ℕ × Address)) → AllWell (elim user as (λ x. Stepped) [
    | None ↦ still host
    | Some user ↦ writes socket.number (request_spelling (record { target = user.1.id; from = own_address host user.0 })) (with_socket (record socket { stage = Open }) host)
  ])
  by_user None = rests host l
  by_user (Some user) = (l, λ n e p. refl)

event_well : (host : HostState) (event : SocketEvent) → LinksWeighed host.links → AllWell (host_on host event)
unfolding host_on
event_well host (sockets.Joined sock) l = on_one is_pending sock joins host l (λ socket. joined socket host l)
event_well host (sockets.Came sock peer_host) l = (l, λ n e p. refl)
event_well host (sockets.Refused sock) l = on_one is_pending sock is_gone host l (λ socket. socket_gone socket host l)
event_well host (sockets.Fed sock bytes) l = on_one is_open sock (keeps bytes) host l (λ socket. (l, λ n e p. refl))
event_well host (sockets.Ended sock) l = on_one is_open sock is_gone host l (λ socket. socket_gone socket host l)
event_well host (sockets.Lost sock) l = on_one is_open sock is_gone host l (λ socket. socket_gone socket host l)
event_well host (sockets.Late end peer) l = by_test (host_timer_runs host end peer) where
  by_test : (b : Bool) → AllWell (cond b (hears inputs.Late (link_with host end peer) host) (still host))
  by_test true = heard inputs.Late (link_with host end peer) host (waits_weighed host end peer l) l
  by_test false = rests host l

pub on_well : (host after : HostState) (event : SocketEvent) (told : List Step) → host_on host event ≡ Ok (told, after) → LinksWeighed host.links → LinksWeighed after.links × IsHonest told
on_well host after event told e l = subst AllWell e (event_well host event l)
