-- No two links of a host are of one endpoint and peer, whatever it does.
use Rattle.std.proofs.Common.{◌≡◌, ℕ, ◌+◌, Bool, true, false, cond, List, [], ◌∷◌, ◌++◌, drop, Ok, Err, refl, sym, ap, ◌∙◌, subst}
use Rattle.std.specs.Prelude.{◌==◌, find, nat_lt, Result, Option, Some, None}
use Rattle.ch_base.specs.declared.address.Address.{Address}
use Rattle.ch_base.specs.declared.event.Event.TheVariants as events
use Rattle.ch_base.specs.declared.memory.Stop.{Stop}
use Rattle.ch_base.specs.declared.memory.Stop.TheVariants as stops
use Rattle.ch_wire.specs.Spelling.{request_spelling}
use Rattle.ch_wire.specs.declared.answer.Answer.{Answer}
use Rattle.ch_wire.specs.declared.answer.Answer.TheVariants as answers
use Rattle.ch_wire.specs.declared.frame.Frame.{Frame}
use Rattle.ch_wire.specs.declared.frame.Frame.TheVariants as frames
use Rattle.ch_wire.specs.declared.request.Request.{Request}
use Rattle.ch_reader.specs.declared.item.Expected.TheVariants as expected
use Rattle.ch_reader.specs.declared.item.Front.{Front}
use Rattle.ch_reader.specs.declared.item.Front.TheVariants.{Unfinished, Whole, Refused}
use Rattle.ch_reader.specs.declared.item.Item.{Item}
use Rattle.ch_reader.specs.declared.item.Item.TheVariants as items
use Rattle.ch_link.specs.Sockets.{names}
use Rattle.ch_link.specs.Table.{step_of}
use Rattle.ch_link.specs.declared.LinkAct.{LinkAct}
use Rattle.ch_link.specs.declared.LinkAct.TheVariants as acts
use Rattle.ch_link.specs.declared.LinkIn.{LinkIn}
use Rattle.ch_link.specs.declared.LinkIn.TheVariants as inputs
use Rattle.ch_link.specs.declared.LinkState.{LinkState}
use Rattle.ch_link.specs.declared.LinkState.TheVariants as states
use Rattle.ch_light.specs.Ids.{created_of, conn_of, closed_of, id_of, give_of, close_of}
use Rattle.ch_light.specs.declared.Connection.{Connection}
use Rattle.ch_light.specs.declared.error.LightError.{LightError}
use Rattle.ch_model.specs.declared.step.EndError.{EndError}
use Rattle.ch_model.specs.declared.step.SocketEvent.{SocketEvent}
use Rattle.ch_model.specs.declared.step.SocketEvent.TheVariants as sockets
use Rattle.ch_model.specs.declared.step.Step.{Step}
use Rattle.ch_model.specs.declared.step.Step.TheVariants as steps
use Rattle.ch_model.specs.declared.step.Weight.{Weight}
use Rattle.ch_model.specs.declared.step.Weight.TheVariants.{Free}
use Rattle.ch_model.specs.Greater.{is_greater}
use Rattle.ch_model.specs.Host.{on_socket, joins, keeps, host_on, front_of, first_ready, takes, handles, some_steps, host_next}
use Rattle.ch_model.specs.HostCalls.{◌>>=◌, stepped, of_ids, open_endpoint, wants, puts_and_wants, host_connect, carries, found_or, short_enough, has_room, host_send, host_close, shuts_links, closes_endpoint, host_close_endpoint, host_timer_runs}
use Rattle.ch_model.specs.HostItems.{most_arrived, posts, gone_from, is_gone, refusal_of, asks_link, reads_request, heard_answer, arrived_at, with_arrival, next_arrival, arrives, closes, receives, reads_frame, reads_on, reads_other, reads}
use Rattle.ch_model.specs.HostLinks.{most_dials, next_dial, dialed, dials_for, accepts_on, asked_on, wanted_on, fails_with, says_closed, raised, acknowledged, does_act, hears}
use Rattle.ch_model.specs.HostState.{Endpoint, Link, Socket, HostState}
use Rattle.ch_model.specs.HostSteps.{Stepped, still, does, after_steps, ◌then◌, own_address, is_endpoint, is_link, link_with, store_link, with_link, with_socket, with_endpoint, is_socket}
use Rattle.ch_model.specs.HostWrites.{writes, leaves, answers_and_leaves, puts, frame_step, forgotten, leaves_off, end_socket}
use Rattle.ch_model.specs.Stages.{Stage, Open, is_pending, is_open}
use Rattle.ch_laws_links.specs.Naming.{LinksApart}
use Rattle.ch_laws_links.proofs.Keys.{key_self, key_of, find_link_stored, ended_rest}

-- ---- links that are stored

find_as : (one two : Link) → one.end ≡ two.end → one.peer ≡ two.peer → (rest : List Link) → find (is_link one.end one.peer) rest ≡ find (is_link two.end two.peer) rest
find_as one two e p rest = ap (λ (z : ℕ). find (is_link z one.peer) rest) e ∙ ap (λ (z : Address). find (is_link two.end z) rest) p

stored_apart : (link : Link) (links : List Link) → LinksApart links → LinksApart (store_link link links)
stored_apart link [] a = (refl, tt)
stored_apart link (known ∷ rest) a = by_test (is_link link.end link.peer known) refl (stored_apart link rest a.1) where
  other : (b : Bool) → is_link known.end known.peer link ≡ b → is_link link.end link.peer known ≡ false → b ≡ false
  other true h f = let key = key_of known.end known.peer link h in absurd (no (is_link link.end link.peer known) (ap (λ (z : ℕ). is_link z link.peer known) key.0 ∙ ap (λ (z : Address). is_link known.end z known) key.1 ∙ key_self known) f) where
    no : (b : Bool) → b ≡ true → b ≡ false → ⊥
    no b t f = absurd cc
  other false h f = refl

  by_test : (b : Bool) → is_link link.end link.peer known ≡ b → LinksApart (store_link link rest) → LinksApart (cond b (link ∷ rest) (known ∷ store_link link rest))
  by_test true h ih = let key = key_of link.end link.peer known h in (sym (find_as known link key.0 key.1 rest) ∙ a.0, a.1)
  by_test false h ih = (find_link_stored link rest known.end known.peer ∙ ap (λ b. cond b (Some link) (find (is_link known.end known.peer) rest)) (other (is_link known.end known.peer link) refl h) ∙ a.0, ih)

-- a link that is found in some way is the one of its endpoint and peer
pub found_link : (test : Link → Bool) (links : List Link) (link : Link) → LinksApart links → find test links ≡ Some link → find (is_link link.end link.peer) links ≡ Some link
found_link test [] link a e = absurd cc
found_link test (known ∷ rest) link a e = by_test (test known) e (found_link test rest link a.1) where
  not_both : (o : Option Link) → o ≡ Some link → o ≡ None → ⊥
  not_both o s n = absurd cc

  further : find (is_link link.end link.peer) rest ≡ Some link → (b : Bool) → is_link link.end link.peer known ≡ b → cond b (Some known) (find (is_link link.end link.peer) rest) ≡ Some link
  further f true h = let key = key_of link.end link.peer known h in absurd (not_both (find (is_link link.end link.peer) rest) f (sym (find_as known link key.0 key.1 rest) ∙ a.0))
  further f false h = f

  by_test : (b : Bool) → cond b (Some known) (find test rest) ≡ Some link → (find test rest ≡ Some link → find (is_link link.end link.peer) rest ≡ Some link) → find (is_link link.end link.peer) (known ∷ rest) ≡ Some link
  by_test true e ih = let is : known ≡ link = cc in subst (λ (l : Link). find (is_link l.end l.peer) (known ∷ rest) ≡ Some l) is (ap (λ b. cond b (Some known) (find (is_link known.end known.peer) rest)) (key_self known))
  by_test false e ih = further (ih e) (is_link link.end link.peer known) refl

-- ---- what a host does

-- links that are apart stay so
abbrev pub AllApart : {S E : Type 0} → HostState → Result (S × HostState) E → Type 0
AllApart before (Ok done) = LinksApart before.links → LinksApart done.1.links
AllApart before (Err e) = Unit {0}

chained : (host : HostState) (done : Stepped) (f : HostState → Stepped) → AllApart host done → ((next : HostState) → AllApart next (f next)) → AllApart host (done then f)
chained host (Ok done) f a g = from (f done.1) (g done.1) where
  from : (more : Stepped) → AllApart done.1 more → AllApart host (after_steps done.0 more)
  from (Ok more) b = λ s. b (a s)
  from (Err stop) b = tt
chained host (Err stop) f a g = tt

from_apart : (one two : HostState) (done : Stepped) → (LinksApart one.links → LinksApart two.links) → AllApart two done → AllApart one done
from_apart one two (Ok done) k f = λ s. f (k s)
from_apart one two (Err stop) k f = tt

kept : (link : Link) (host : HostState) → LinksApart host.links → LinksApart (with_link link host).links
kept link host a = stored_apart link host.links a

ended_links : (sock : ℕ) (host : HostState) → LinksApart host.links → LinksApart (end_socket sock host).links
ended_links sock host a = subst LinksApart (sym (ended_rest sock host).0) a

left_off : (state : LinkState) (host : HostState) → AllApart host (leaves_off state host)
left_off (states.Up sock probed) host = ended_links sock host
left_off (states.Dialing sock) host = ended_links sock host
left_off states.Idle host = λ a. a
left_off states.AwaitOther host = λ a. a

answered : (sock : ℕ) (answer : Answer) (host : HostState) → AllApart host (answers_and_leaves sock answer host)
answered sock answer host = ended_links sock host

dialed_one : (sock : ℕ) (link : Link) (host : HostState) → AllApart host (dials_for sock link host)
dialed_one sock link host = by_test (nat_lt host.dials most_dials) where
  by_test : (b : Bool) → AllApart {E = Stop} host (cond b (Ok (steps.Dial sock link.end link.peer ∷ [], with_socket (dialed sock link.end link.peer) (record host { dials = host.dials + 1 }))) (Err stops.Worn))
  by_test true = λ a. a
  by_test false = tt

accepted : (sock : ℕ) (link : Link) (host : HostState) → AllApart host (accepts_on sock link host)
accepted sock link host = kept (record link { waits = [] }) host

raised_one : (state : LinkState) (link : Link) (host : HostState) → AllApart host (raised state link host)
raised_one (states.Up sock probed) link host = kept (record link { waits = [] }) host
raised_one (states.Dialing sock) link host = λ a. a
raised_one states.Idle link host = λ a. a
raised_one states.AwaitOther link host = λ a. a

acknowledged_one : (state : LinkState) (host : HostState) → AllApart host (acknowledged state host)
acknowledged_one (states.Up sock probed) host = λ a. a
acknowledged_one (states.Dialing sock) host = λ a. a
acknowledged_one states.Idle host = λ a. a
acknowledged_one states.AwaitOther host = λ a. a

closed_said : (state : LinkState) (host : HostState) → AllApart host (says_closed state host)
closed_said (states.Up sock probed) host = λ a. a
closed_said (states.Dialing sock) host = λ a. a
closed_said states.Idle host = λ a. a
closed_said states.AwaitOther host = λ a. a

acted : (act : LinkAct) (old : LinkState) (input : LinkIn) (link : Link) (host : HostState) → AllApart host (does_act act old input link host)
acted acts.Nothing old input link host = λ a. a
acted acts.Dial old input link host = dialed_one (wanted_on input) link host
acted acts.Accept old input link host = accepted (asked_on input) link host
acted acts.Cross old input link host = answered (asked_on input) answers.Crossed host
acted (acts.LeaveAndAccept own) old input link host = chained host (leaves own host) (accepts_on (asked_on input) link) (ended_links own host) (λ next. accepted (asked_on input) link next)
acted (acts.CrossAndProbe up) old input link host = ended_links (asked_on input) host
acted acts.Raise old input link host = raised_one link.state link host
acted (acts.Leave own) old input link host = ended_links own host
acted (acts.Fail why) old input link host = chained host (leaves_off old host) (λ left. fails_with link why (with_link (forgotten link link.state) left)) (left_off old host) (λ next. kept (forgotten link link.state) next)
acted acts.Acknowledge old input link host = acknowledged_one link.state host
acted acts.Close old input link host = chained host (says_closed old host then leaves_off old) (λ left. still (with_link (forgotten link link.state) left)) (chained host (says_closed old host) (leaves_off old) (closed_said old host) (λ next. left_off old next)) (λ next. kept (forgotten link link.state) next)

heard : (input : LinkIn) (link : Link) (host : HostState) → AllApart host (hears input link host)
heard input link host = from_apart host (with_link now host) (does_act told.1 link.state input now (with_link now host)) (kept now host) (acted told.1 link.state input now (with_link now host)) where
  told : LinkState × LinkAct
  told = step_of link.state input (is_greater (own_address host link.end) link.peer)

  now : Link
  now = record link { state = told.0 }

put : (item : Frame × Weight) (link : Link) (host : HostState) → AllApart host (puts item link host)
put item link host = by_state link.state where
  by_state : (state : LinkState) → AllApart {E = Stop} host (elim state as (λ x. Stepped) [
    | states.Up sock probed ↦ Ok (frame_step sock item ∷ [], with_link link host)
    | _ ↦ Ok ([], with_link (record link { waits = link.waits ++ item ∷ [] }) host)
  ])
  by_state (states.Up sock probed) = kept link host
  by_state (states.Dialing sock) = kept (record link { waits = link.waits ++ item ∷ [] }) host
  by_state states.Idle = kept (record link { waits = link.waits ++ item ∷ [] }) host
  by_state states.AwaitOther = kept (record link { waits = link.waits ++ item ∷ [] }) host

-- ---- items

gone : (sock : ℕ) (link : Link) (host : HostState) → AllApart host (gone_from sock link host)
gone sock link host = by_test (names link.state sock) where
  by_test : (b : Bool) → AllApart {E = Stop} host (cond b (hears inputs.Gone link host) (leaves sock host))
  by_test true = heard inputs.Gone link host
  by_test false = ended_links sock host

socket_gone : (socket : Socket) (host : HostState) → AllApart host (is_gone socket host)
socket_gone socket host = by_user socket.user where
  by_user : (user : Option (ℕ × Address)) → AllApart {E = Stop} host (elim user as (λ x. Stepped) [
    | None ↦ leaves socket.number host
    | Some user ↦ gone_from socket.number (link_with host user.0 user.1) host
  ])
  by_user None = ended_links socket.number host
  by_user (Some user) = gone socket.number (link_with host user.0 user.1) host

requested : (socket : Socket) (request : Request) (host : HostState) → AllApart host (reads_request socket request host)
requested socket request host = by_answer (refusal_of host socket request.target request.from) where
  by_answer : (answer : Option Answer) → AllApart {E = Stop} host (elim answer as (λ x. Stepped) [
    | Some answer ↦ answers_and_leaves socket.number answer host
    | None ↦ asks_link socket request.target request.from host
  ])
  by_answer (Some answer) = answered socket.number answer host
  by_answer None = heard (inputs.Asked socket.number) (link_with host request.target request.from) (with_socket (record socket { user = Some (request.target, request.from) }) host)

arrival : (end : ℕ) (before host : HostState) → (LinksApart before.links → LinksApart host.links) → LinksApart before.links → LinksApart (with_arrival end host).links
arrival end before host k = by_endpoint (find (is_endpoint end) host.ends) where
  by_endpoint : (o : Option Endpoint) → LinksApart before.links → LinksApart (elim o as (λ x. HostState) [
    | None ↦ host
    | Some endpoint ↦ with_endpoint (record endpoint { arrived = endpoint.arrived + 1 }) host
  ]).links
  by_endpoint None = k
  by_endpoint (Some endpoint) = k

arrived : (socket : Socket) (link : Link) (created : Result (List Connection) LightError) (host : HostState) → AllApart host (arrives socket link created host)
arrived socket link (Err e) host = socket_gone socket host
arrived socket link (Ok created) host = by_test (nat_lt (arrived_at host link.end) most_arrived) where
  by_test : (b : Bool) → AllApart {E = Stop} host (cond b (posts link.end (events.ConnectionOpened (next_arrival host link.end) link.peer) (with_arrival link.end (with_link (record link { created = created }) host))) (Err stops.Worn))
  by_test true = arrival link.end host (with_link (record link { created = created }) host) (kept (record link { created = created }) host)
  by_test false = tt

closed : (socket : Socket) (link : Link) (done : Result (ℕ × List Connection) LightError) (host : HostState) → AllApart host (closes socket link done host)
closed socket link (Err e) host = socket_gone socket host
closed socket link (Ok done) host = kept (record link { created = done.1 }) host

received : (socket : Socket) (link : Link) (payload : List ℕ) (conn : Result ℕ LightError) (host : HostState) → AllApart host (receives socket link payload conn host)
received socket link payload (Err e) host = socket_gone socket host
received socket link payload (Ok conn) host = λ a. a

framed : (socket : Socket) (link : Link) (frame : Frame) (host : HostState) → AllApart host (reads_frame socket link frame host)
framed socket link (frames.Created id) host = arrived socket link (created_of link.created id (next_arrival host link.end)) host
framed socket link (frames.Closed id) host = closed socket link (closed_of link.created id) host
framed socket link (frames.Data id payload) host = received socket link payload (conn_of link.created id) host
framed socket link frames.EndClosed host = heard inputs.EndClosed link host
framed socket link frames.Probe host = heard inputs.Probe link host
framed socket link frames.ProbeAck host = heard inputs.Ack link host

read_on : (socket : Socket) (link : Link) (item : Item) (host : HostState) → AllApart host (reads_on socket link item host)
read_on socket link (items.Request request) host = λ a. a
read_on socket link (items.Answer answer) host = heard (inputs.Answered (heard_answer answer)) link host
read_on socket link (items.Frame frame) host = framed socket link frame host

read_other : (socket : Socket) (item : Item) (host : HostState) → AllApart host (reads_other socket item host)
read_other socket item host = by_user socket.user where
  by_user : (user : Option (ℕ × Address)) → AllApart {E = Stop} host (elim user as (λ x. Stepped) [
    | None ↦ still host
    | Some user ↦ reads_on socket (link_with host user.0 user.1) item host
  ])
  by_user None = λ a. a
  by_user (Some user) = read_on socket (link_with host user.0 user.1) item host

read : (socket : Socket) (item : Item) (host : HostState) → AllApart host (reads socket item host)
read socket (items.Request request) host = requested socket request host
read socket (items.Answer answer) host = read_other socket (items.Answer answer) host
read socket (items.Frame frame) host = read_other socket (items.Frame frame) host

handled : (socket : Socket) (front : Front × ℕ) (host : HostState) → AllApart host (handles socket front host)
handled socket front host = by_front front.0 where
  now : Socket
  now = record socket { since = drop front.1 socket.since; expected = expected.Frame }

  by_front : (x : Front) → AllApart {E = Stop} host (elim x as (λ x. Stepped) [
    | Unfinished ↦ still host
    | Refused error ↦ is_gone socket host
    | Whole item ↦ takes now item host
  ])
  by_front Unfinished = λ a. a
  by_front (Refused error) = socket_gone socket host
  by_front (Whole item) = chained host (does (steps.Read now.number) (with_socket now host)) (reads now item) (λ a. a) (λ next. read now item next)

pub next_apart : (host : HostState) → AllApart host (host_next host)
unfolding host_next
next_apart host = by_first (first_ready host.sockets) where
  by_done : (one : Stepped) → AllApart host one → AllApart host (some_steps one)
  by_done (Ok one) f = f
  by_done (Err stop) f = tt

  by_first : (o : Option Socket) → AllApart {E = Stop} host (elim o as (λ o. Result (Option (List Step) × HostState) Stop) [
    | None ↦ Ok (None, host)
    | Some socket ↦ some_steps (handles socket (front_of socket) host)
  ])
  by_first None = λ a. a
  by_first (Some socket) = by_done (handles socket (front_of socket) host) (handled socket (front_of socket) host)

-- ---- events

on_one : (test : Stage → Bool) (sock : ℕ) (f : Socket → HostState → Stepped) (host : HostState) → ((socket : Socket) → AllApart host (f socket host)) → AllApart host (on_socket test sock f host)
on_one test sock f host each = by_socket (find (is_socket sock) host.sockets) where
  by_test : (socket : Socket) (b : Bool) → AllApart {E = Stop} host (cond b (f socket host) (still host))
  by_test socket true = each socket
  by_test socket false = λ a. a

  by_socket : (o : Option Socket) → AllApart {E = Stop} host (elim o as (λ x. Stepped) [
    | None ↦ still host
    | Some socket ↦ cond (test socket.stage) (f socket host) (still host)
  ])
  by_socket None = λ a. a
  by_socket (Some socket) = by_test socket (test socket.stage)

joined : (socket : Socket) (host : HostState) → AllApart host (joins socket host)
joined socket host = by_user socket.user where
  by_user : (user : Option (ℕ × Address)) → AllApart {E = Stop} host (elim user as (λ x. Stepped) [
    | None ↦ still host
    | Some user ↦ writes socket.number (request_spelling (record { target = user.1.id; from = own_address host user.0 })) (with_socket (record socket { stage = Open }) host)
  ])
  by_user None = λ a. a
  by_user (Some user) = λ a. a

pub event_apart : (host : HostState) (event : SocketEvent) → AllApart host (host_on host event)
unfolding host_on
event_apart host (sockets.Joined sock) = on_one is_pending sock joins host (λ socket. joined socket host)
event_apart host (sockets.Came sock peer_host) = λ a. a
event_apart host (sockets.Refused sock) = on_one is_pending sock is_gone host (λ socket. socket_gone socket host)
event_apart host (sockets.Fed sock bytes) = on_one is_open sock (keeps bytes) host (λ socket a. a)
event_apart host (sockets.Ended sock) = on_one is_open sock is_gone host (λ socket. socket_gone socket host)
event_apart host (sockets.Lost sock) = on_one is_open sock is_gone host (λ socket. socket_gone socket host)
event_apart host (sockets.Late end peer) = by_test (host_timer_runs host end peer) where
  by_test : (b : Bool) → AllApart {E = Stop} host (cond b (hears inputs.Late (link_with host end peer) host) (still host))
  by_test true = heard inputs.Late (link_with host end peer) host
  by_test false = λ a. a

-- ---- what an endpoint asks

bound : {A : Type 0} (host : HostState) (given : Result A EndError) (f : A → Result (List Step × HostState) EndError) → ((x : A) → AllApart host (f x)) → AllApart host (given >>= f)
bound host (Ok x) f k = k x
bound host (Err e) f k = tt

as_asked : (host : HostState) (done : Stepped) → AllApart host done → AllApart host (stepped done)
as_asked host (Ok done) f = f
as_asked host (Err stop) f = tt

put_and_wanted : (item : Frame × Weight) (link : Link) (host : HostState) → AllApart host (puts_and_wants item link host)
put_and_wanted item link host = chained host (puts item link host) (wants link.end link.peer) (put item link host) (λ next. heard (inputs.Want (next_dial next)) (link_with next link.end link.peer) next)

pub connected_apart : (host : HostState) (end : ℕ) (peer : Address) (conn : ℕ) → AllApart host (host_connect host end peer conn)
unfolding host_connect
connected_apart host end peer conn = bound host (open_endpoint host end) _ (λ standing. bound host (of_ids (give_of (link_with host end peer).given conn)) _ (λ given. as_asked host _ (put_and_wanted (frames.Created given.0, Free) (record (link_with host end peer) { given = given.1 }) host)))

pub sent_apart : (host : HostState) (end conn : ℕ) (payload : List ℕ) (weight : Weight) → AllApart host (host_send host end conn payload weight)
unfolding host_send
sent_apart host end conn payload weight =
    bound host (found_or (find (carries end conn) host.links)) _ (λ link. bound host (short_enough payload) _ (λ short. bound host (has_room link weight) _ (λ roomy. bound host (found_or (id_of link.given conn)) _ (λ id. as_asked host _ (put_and_wanted (frames.Data id short, weight) link host)))))

pub closed_apart : (host : HostState) (end conn : ℕ) → AllApart host (host_close host end conn)
unfolding host_close
closed_apart host end conn =
    bound host (found_or (find (carries end conn) host.links)) _ (λ link. bound host (of_ids (close_of link.given conn)) _ (λ closed. as_asked host _ (put (frames.Closed closed.0, Free) (record link { given = closed.1 }) host)))

shut_links : (end : ℕ) (links : List Link) (host : HostState) → AllApart host (shuts_links end links host)
shut_links end [] host = λ a. a
shut_links end (link ∷ rest) host = by_test (link.end == end) (shut_links end rest) where
  by_test : (b : Bool) → ((next : HostState) → AllApart next (shuts_links end rest next)) → AllApart host (cond b (hears inputs.Shut (link_with host end link.peer) host) (still host) then shuts_links end rest)
  by_test true k = chained host (hears inputs.Shut (link_with host end link.peer) host) (shuts_links end rest) (heard inputs.Shut (link_with host end link.peer) host) k
  by_test false k = chained host (still host) (shuts_links end rest) (λ a. a) k

closed_end : (o : Option Endpoint) (host : HostState) → LinksApart host.links → LinksApart (closes_endpoint o host).links
closed_end None host = λ a. a
closed_end (Some endpoint) host = λ a. a

pub endpoint_apart : (host : HostState) (end : ℕ) → AllApart host (host_close_endpoint host end)
unfolding host_close_endpoint
endpoint_apart host end =
    bound host (open_endpoint host end) _ (λ standing. as_asked host _ (chained host (shuts_links end host.links host) (λ shut. posts end events.EndPointClosed (closes_endpoint (find (is_endpoint end) shut.ends) shut)) (shut_links end host.links host) (λ next. closed_end (find (is_endpoint end) next.ends) next)))
