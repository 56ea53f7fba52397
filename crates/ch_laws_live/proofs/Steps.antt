-- In one call of a host ends are closed first, and at most one comes up or is dialed, last.
use Rattle.std.proofs.Common.{◌≡◌, ℕ, ◌+◌, Bool, true, false, cond, ◌&&◌, List, [], ◌∷◌, ◌++◌, drop, map, Ok, Err, refl, ap, ◌∙◌, subst}
use Rattle.std.proofs.lemmas.Bool.{and_parts}
use Rattle.std.proofs.lemmas.List.Folds.{list_all-append}
use Rattle.std.specs.Prelude.{not, find, nat_lt, Result, Option, Some, None}
use Rattle.ch_base.specs.declared.address.Address.{Address}
use Rattle.ch_base.specs.declared.event.Event.TheVariants as events
use Rattle.ch_base.specs.declared.memory.Stop.{Stop}
use Rattle.ch_base.specs.declared.memory.Stop.TheVariants as stops
use Rattle.ch_wire.specs.Spelling.{request_spelling}
use Rattle.ch_wire.specs.declared.answer.Answer.{Answer}
use Rattle.ch_wire.specs.declared.frame.Frame.{Frame}
use Rattle.ch_wire.specs.declared.frame.Frame.TheVariants as frames
use Rattle.ch_wire.specs.declared.request.Request.{Request}
use Rattle.ch_light.specs.Ids.{give_of, id_of, close_of, created_of, conn_of, closed_of}
use Rattle.ch_light.specs.declared.Connection.{Connection}
use Rattle.ch_light.specs.declared.error.LightError.{LightError}
use Rattle.ch_link.specs.Sockets.{names}
use Rattle.ch_link.specs.Table.{step_of}
use Rattle.ch_link.specs.declared.LinkAct.{LinkAct}
use Rattle.ch_link.specs.declared.LinkAct.TheVariants as acts
use Rattle.ch_link.specs.declared.LinkIn.{LinkIn}
use Rattle.ch_link.specs.declared.LinkIn.TheVariants as inputs
use Rattle.ch_link.specs.declared.LinkState.{LinkState}
use Rattle.ch_link.specs.declared.LinkState.TheVariants.{Idle, Dialing, AwaitOther, Up}
use Rattle.ch_reader.specs.declared.item.Expected.TheVariants as expected
use Rattle.ch_reader.specs.declared.item.Front.{Front}
use Rattle.ch_reader.specs.declared.item.Front.TheVariants.{Unfinished, Whole, Refused}
use Rattle.ch_reader.specs.declared.item.Item.{Item}
use Rattle.ch_reader.specs.declared.item.Item.TheVariants as items
use Rattle.ch_model.specs.declared.step.EndError.{EndError}
use Rattle.ch_model.specs.declared.step.SocketEvent.{SocketEvent}
use Rattle.ch_model.specs.declared.step.SocketEvent.TheVariants as sockets
use Rattle.ch_model.specs.declared.step.Step.{Step}
use Rattle.ch_model.specs.declared.step.Step.TheVariants as steps
use Rattle.ch_model.specs.declared.step.Weight.{Weight}
use Rattle.ch_model.specs.declared.step.Weight.TheVariants.{Free}
use Rattle.ch_model.specs.Greater.{is_greater}
use Rattle.ch_model.specs.Host.{on_socket, joins, keeps, host_on, front_of, first_ready, handles, some_steps, host_next}
use Rattle.ch_model.specs.HostCalls.{◌>>=◌, stepped, of_ids, open_endpoint, wants, puts_and_wants, host_connect, carries, found_or, short_enough, has_room, host_send, host_close, host_timer_runs}
use Rattle.ch_model.specs.HostItems.{posts, gone_from, is_gone, refusal_of, asks_link, reads_request, heard_answer, arrived_at, most_arrived, next_arrival, with_arrival, arrives, closes, receives, reads_frame, reads_on, reads_other, reads}
use Rattle.ch_model.specs.HostLinks.{next_dial, most_dials, dialed, dials_for, wanted_on, asked_on, accepts_on, fails_with, says_closed, raised, acknowledged, does_act, hears}
use Rattle.ch_model.specs.HostState.{Link, Socket, HostState}
use Rattle.ch_model.specs.HostSteps.{Stepped, after_steps, ◌then◌, is_socket, own_address, link_with, with_link, with_socket}
use Rattle.ch_model.specs.HostWrites.{writes, puts, frame_step, leaves, answers_and_leaves, forgotten, leaves_off}
use Rattle.ch_model.specs.Stages.{Stage, Open, is_pending, is_open}
use Rattle.ch_laws_live.specs.Turns.{step_starts, no_starts, no_turns, starts_last}

-- ---- steps

both : (a b : Bool) → a ≡ true → b ≡ true → (a && b) ≡ true
both true b g h = h
both false b g h = absurd cc

-- what follows what starts nothing
starts_after : (xs ys : List Step) → no_starts xs ≡ true → starts_last ys ≡ true → starts_last (xs ++ ys) ≡ true
starts_after [] ys a b = b
starts_after (step ∷ xs) ys a b = by_test (step_starts step) (and_parts (not (step_starts step)) (no_starts xs) a).0 (starts_after xs ys (and_parts (not (step_starts step)) (no_starts xs) a).1 b) where
  by_test : (t : Bool) → not t ≡ true → starts_last (xs ++ ys) ≡ true → cond t (no_turns (xs ++ ys)) (starts_last (xs ++ ys)) ≡ true
  by_test true n more = absurd cc
  by_test false n more = more

none_after : (xs ys : List Step) → no_starts xs ≡ true → no_starts ys ≡ true → no_starts (xs ++ ys) ≡ true
none_after xs ys a b = list_all-append (λ step. not (step_starts step)) xs ys ∙ both (no_starts xs) (no_starts ys) a b

pub none_last : (xs : List Step) → no_starts xs ≡ true → starts_last xs ≡ true
none_last [] a = refl
none_last (step ∷ xs) a = by_test (step_starts step) (and_parts (not (step_starts step)) (no_starts xs) a).0 (none_last xs (and_parts (not (step_starts step)) (no_starts xs) a).1) where
  by_test : (t : Bool) → not t ≡ true → starts_last xs ≡ true → cond t (no_turns xs) (starts_last xs) ≡ true
  by_test true n more = absurd cc
  by_test false n more = more

abbrev Starts : Stepped → Type 0
Starts (Ok done) = starts_last done.0 ≡ true
Starts (Err stop) = Unit {0}

abbrev Startless : Stepped → Type 0
Startless (Ok done) = no_starts done.0 ≡ true
Startless (Err stop) = Unit {0}

then_starts : (done : Stepped) (f : HostState → Stepped) → Startless done → ((next : HostState) → Starts (f next)) → Starts (done then f)
then_starts (Ok done) f a g = by_more (f done.1) (g done.1) where
  by_more : (more : Stepped) → Starts more → Starts (after_steps done.0 more)
  by_more (Ok more) b = starts_after done.0 more.0 a b
  by_more (Err stop) b = tt
then_starts (Err stop) f a g = tt

then_none : (done : Stepped) (f : HostState → Stepped) → Startless done → ((next : HostState) → Startless (f next)) → Startless (done then f)
then_none (Ok done) f a g = by_more (f done.1) (g done.1) where
  by_more : (more : Stepped) → Startless more → Startless (after_steps done.0 more)
  by_more (Ok more) b = none_after done.0 more.0 a b
  by_more (Err stop) b = tt
then_none (Err stop) f a g = tt

none_starts : (done : Stepped) → Startless done → Starts done
none_starts (Ok done) a = none_last done.0 a
none_starts (Err stop) a = tt

frames_turn : (sock : ℕ) (waits : List (Frame × Weight)) → no_turns (map (frame_step sock) waits) ≡ true
frames_turn sock [] = refl
frames_turn sock (item ∷ waits) = frames_turn sock waits

-- ---- a link

left_none : (state : LinkState) (host : HostState) → Startless (leaves_off state host)
left_none Idle host = refl
left_none (Dialing d) host = refl
left_none AwaitOther host = refl
left_none (Up u probed) host = refl

accept_starts : (sock : ℕ) (link : Link) (host : HostState) → Starts (accepts_on sock link host)
accept_starts sock link host = frames_turn sock link.waits

raised_starts : (state : LinkState) (link : Link) (host : HostState) → Starts (raised state link host)
raised_starts Idle link host = refl
raised_starts (Dialing d) link host = refl
raised_starts AwaitOther link host = refl
raised_starts (Up u probed) link host = frames_turn u link.waits

acknowledged_none : (state : LinkState) (host : HostState) → Startless (acknowledged state host)
acknowledged_none Idle host = refl
acknowledged_none (Dialing d) host = refl
acknowledged_none AwaitOther host = refl
acknowledged_none (Up u probed) host = refl

said_none : (state : LinkState) (host : HostState) → Startless (says_closed state host)
said_none Idle host = refl
said_none (Dialing d) host = refl
said_none AwaitOther host = refl
said_none (Up u probed) host = refl

dial_starts : (sock : ℕ) (link : Link) (host : HostState) → Starts (dials_for sock link host)
dial_starts sock link host = by_test (nat_lt host.dials most_dials) where
  by_test : (b : Bool) → Starts (cond b (Ok (steps.Dial sock link.end link.peer ∷ [], with_socket (dialed sock link.end link.peer) (record host { dials = host.dials + 1 }))) (Err stops.Worn))
  by_test true = refl
  by_test false = tt

act_starts : (act : LinkAct) (old : LinkState) (input : LinkIn) (link : Link) (host : HostState) → Starts (does_act act old input link host)
act_starts acts.Nothing old input link host = refl
act_starts acts.Dial old input link host = dial_starts (wanted_on input) link host
act_starts acts.Accept old input link host = accept_starts (asked_on input) link host
act_starts acts.Cross old input link host = refl
act_starts (acts.LeaveAndAccept own) old input link host = then_starts (leaves own host) (accepts_on (asked_on input) link) refl (λ next. accept_starts (asked_on input) link next)
act_starts (acts.CrossAndProbe up) old input link host = refl
act_starts acts.Raise old input link host = raised_starts link.state link host
act_starts (acts.Leave own) old input link host = refl
act_starts (acts.Fail why) old input link host = then_starts (leaves_off old host) (λ left. fails_with link why (with_link (forgotten link link.state) left)) (left_none old host) (λ next. refl)
act_starts acts.Acknowledge old input link host = none_starts (acknowledged link.state host) (acknowledged_none link.state host)
act_starts acts.Close old input link host = then_starts (says_closed old host then leaves_off old) (λ left. Ok ([], with_link (forgotten link link.state) left)) (then_none (says_closed old host) (leaves_off old) (said_none old host) (left_none old)) (λ next. refl)

hears_starts : (input : LinkIn) (link : Link) (host : HostState) → Starts (hears input link host)
hears_starts input link host = let greater = is_greater (own_address host link.end) link.peer in
    act_starts (step_of link.state input greater).1 link.state input (record link { state = (step_of link.state input greater).0 }) (with_link (record link { state = (step_of link.state input greater).0 }) host)

-- ---- an item

gone_starts : (socket : Socket) (host : HostState) → Starts (is_gone socket host)
gone_starts socket host = by_user socket.user where
  by_test : (link : Link) (b : Bool) → Starts (cond b (hears inputs.Gone link host) (leaves socket.number host))
  by_test link true = hears_starts inputs.Gone link host
  by_test link false = refl

  by_user : (o : Option (ℕ × Address)) → Starts (elim o as (λ o. Stepped) [
    | None ↦ leaves socket.number host
    | Some user ↦ gone_from socket.number (link_with host user.0 user.1) host
  ])
  by_user None = refl
  by_user (Some user) = by_test (link_with host user.0 user.1) (names (link_with host user.0 user.1).state socket.number)

request_starts : (socket : Socket) (request : Request) (host : HostState) → Starts (reads_request socket request host)
request_starts socket request host = by_answer (refusal_of host socket request.target request.from) where
  by_answer : (o : Option Answer) → Starts (elim o as (λ o. Stepped) [
    | Some answer ↦ answers_and_leaves socket.number answer host
    | None ↦ asks_link socket request.target request.from host
  ])
  by_answer (Some answer) = refl
  by_answer None = hears_starts (inputs.Asked socket.number) (link_with host request.target request.from) (with_socket (record socket { user = Some (request.target, request.from) }) host)

frame_starts : (socket : Socket) (link : Link) (frame : Frame) (host : HostState) → Starts (reads_frame socket link frame host)
frame_starts socket link (frames.Created id) host = by_made (created_of link.created id (next_arrival host link.end)) where
  by_test : (created : List Connection) (b : Bool) → Starts (cond b (posts link.end (events.ConnectionOpened (next_arrival host link.end) link.peer) (with_arrival link.end (with_link (record link { created = created }) host))) (Err stops.Worn))
  by_test created true = refl
  by_test created false = tt

  by_made : (r : Result (List Connection) LightError) → Starts (arrives socket link r host)
  by_made (Err e) = gone_starts socket host
  by_made (Ok created) = by_test created (nat_lt (arrived_at host link.end) most_arrived)
frame_starts socket link (frames.Closed id) host = by_closed (closed_of link.created id) where
  by_closed : (r : Result (ℕ × List Connection) LightError) → Starts (closes socket link r host)
  by_closed (Err e) = gone_starts socket host
  by_closed (Ok closed) = refl
frame_starts socket link (frames.Data id payload) host = by_found (conn_of link.created id) where
  by_found : (r : Result ℕ LightError) → Starts (receives socket link payload r host)
  by_found (Err e) = gone_starts socket host
  by_found (Ok conn) = refl
frame_starts socket link frames.EndClosed host = hears_starts inputs.EndClosed link host
frame_starts socket link frames.Probe host = hears_starts inputs.Probe link host
frame_starts socket link frames.ProbeAck host = hears_starts inputs.Ack link host

other_starts : (socket : Socket) (item : Item) (host : HostState) → Starts (reads_other socket item host)
other_starts socket item host = by_user socket.user where
  by_item : (item : Item) (link : Link) → Starts (reads_on socket link item host)
  by_item (items.Request request) link = refl
  by_item (items.Answer answer) link = hears_starts (inputs.Answered (heard_answer answer)) link host
  by_item (items.Frame frame) link = frame_starts socket link frame host

  by_user : (o : Option (ℕ × Address)) → Starts (elim o as (λ o. Stepped) [
    | None ↦ Ok ([], host)
    | Some user ↦ reads_on socket (link_with host user.0 user.1) item host
  ])
  by_user None = refl
  by_user (Some user) = by_item item (link_with host user.0 user.1)

item_starts : (socket : Socket) (item : Item) (host : HostState) → Starts (reads socket item host)
item_starts socket (items.Request request) host = request_starts socket request host
item_starts socket (items.Answer answer) host = other_starts socket (items.Answer answer) host
item_starts socket (items.Frame frame) host = other_starts socket (items.Frame frame) host

handled_starts : (socket : Socket) (front : Front × ℕ) (host : HostState) → Starts (handles socket front host)
handled_starts socket front host = by_front front.0 where
  by_front : (x : Front) → Starts (handles socket (x, front.1) host)
  by_front Unfinished = refl
  by_front (Refused error) = gone_starts socket host
  by_front (Whole item) = let now : Socket = record socket { since = drop front.1 socket.since; expected = expected.Frame } in
      then_starts (Ok (steps.Read socket.number ∷ [], with_socket now host)) (reads now item) refl (λ next. item_starts now item next)

pub next_starts : (host after : HostState) (told : List Step) → host_next host ≡ Ok (Some told, after) → starts_last told ≡ true
unfolding host_next
next_starts host after told e = by_first (first_ready host.sockets) e where
  steps_in : Result (Option (List Step) × HostState) Stop → List Step
  steps_in (Ok next) = elim next.0 [
    | None ↦ []
    | Some steps ↦ steps
  ]
  steps_in (Err stop) = []

  some_in : Result (Option (List Step) × HostState) Stop → Option (List Step)
  some_in (Ok next) = next.0
  some_in (Err stop) = None

  by_done : (one : Stepped) → Starts one → some_steps one ≡ Ok (Some told, after) → starts_last told ≡ true
  by_done (Ok one) f e = subst (λ (l : List Step). starts_last l ≡ true) (ap steps_in e) f
  by_done (Err stop) f e = absurd cc

  by_first : (o : Option Socket) → (elim o as (λ o. Result (Option (List Step) × HostState) Stop) [
    | None ↦ Ok (None, host)
    | Some socket ↦ some_steps (handles socket (front_of socket) host)
  ]) ≡ Ok (Some told, after) → starts_last told ≡ true
  by_first None e = let never : None ≡ Some told = ap some_in e in absurd cc
  by_first (Some socket) e = by_done (handles socket (front_of socket) host) (handled_starts socket (front_of socket) host) e

-- ---- what happens to a socket

on_starts : (test : Stage → Bool) (sock : ℕ) (f : Socket → HostState → Stepped) (host : HostState) → ((socket : Socket) → Starts (f socket host)) → Starts (on_socket test sock f host)
on_starts test sock f host each = by_socket (find (is_socket sock) host.sockets) where
  by_test : (socket : Socket) (b : Bool) → Starts (cond b (f socket host) (Ok ([], host)))
  by_test socket true = each socket
  by_test socket false = refl

  by_socket : (o : Option Socket) → Starts (elim o as (λ o. Stepped) [
    | None ↦ Ok ([], host)
    | Some socket ↦ cond (test socket.stage) (f socket host) (Ok ([], host))
  ])
  by_socket None = refl
  by_socket (Some socket) = by_test socket (test socket.stage)

join_starts : (socket : Socket) (host : HostState) → Starts (joins socket host)
join_starts socket host = by_user socket.user where
  by_user : (o : Option (ℕ × Address)) → Starts (elim o as (λ o. Stepped) [
    | None ↦ Ok ([], host)
    | Some user ↦ writes socket.number (request_spelling (record { target = user.1.id; from = own_address host user.0 })) (with_socket (record socket { stage = Open }) host)
  ])
  by_user None = refl
  by_user (Some user) = refl

event_starts : (host : HostState) (event : SocketEvent) → Starts (host_on host event)
unfolding host_on
event_starts host (sockets.Joined sock) = on_starts is_pending sock joins host (λ socket. join_starts socket host)
event_starts host (sockets.Came sock peer_host) = refl
event_starts host (sockets.Refused sock) = on_starts is_pending sock is_gone host (λ socket. gone_starts socket host)
event_starts host (sockets.Fed sock bytes) = on_starts is_open sock (keeps bytes) host (λ socket. refl)
event_starts host (sockets.Ended sock) = on_starts is_open sock is_gone host (λ socket. gone_starts socket host)
event_starts host (sockets.Lost sock) = on_starts is_open sock is_gone host (λ socket. gone_starts socket host)
event_starts host (sockets.Late end peer) = by_test (host_timer_runs host end peer) where
  by_test : (b : Bool) → Starts (cond b (hears inputs.Late (link_with host end peer) host) (Ok ([], host)))
  by_test true = hears_starts inputs.Late (link_with host end peer) host
  by_test false = refl

pub on_starts_last : (host after : HostState) (event : SocketEvent) (told : List Step) → host_on host event ≡ Ok (told, after) → starts_last told ≡ true
on_starts_last host after event told e = subst Starts e (event_starts host event)

-- ---- what an endpoint asks

abbrev EndStarts : Result (List Step × HostState) EndError → Type 0
EndStarts (Ok done) = starts_last done.0 ≡ true
EndStarts (Err e) = Unit {0}

bind_starts : {A : Type 0} (x : Result A EndError) (f : A → Result (List Step × HostState) EndError) → ((a : A) → EndStarts (f a)) → EndStarts (x >>= f)
bind_starts (Ok a) f g = g a
bind_starts (Err e) f g = tt

stepped_starts : (done : Stepped) → Starts done → EndStarts (stepped done)
stepped_starts (Ok done) u = u
stepped_starts (Err stop) u = tt

put_none : (item : Frame × Weight) (link : Link) (host : HostState) → Startless (puts item link host)
put_none item link host = by_state link.state where
  by_state : (state : LinkState) → Startless (elim state as (λ s. Stepped) [
    | Up sock probed ↦ Ok (frame_step sock item ∷ [], with_link link host)
    | _ ↦ Ok ([], with_link (record link { waits = link.waits ++ item ∷ [] }) host)
  ])
  by_state Idle = refl
  by_state (Dialing d) = refl
  by_state AwaitOther = refl
  by_state (Up u probed) = refl

wants_starts : (item : Frame × Weight) (link : Link) (host : HostState) → Starts (puts_and_wants item link host)
wants_starts item link host = then_starts (puts item link host) (wants link.end link.peer) (put_none item link host) (λ next. hears_starts (inputs.Want (next_dial next)) (link_with next link.end link.peer) next)

connect_starts : (host : HostState) (end : ℕ) (peer : Address) (conn : ℕ) → EndStarts (host_connect host end peer conn)
unfolding host_connect
connect_starts host end peer conn = bind_starts (open_endpoint host end) _ (λ standing. bind_starts (of_ids (give_of (link_with host end peer).given conn)) _ (λ given. stepped_starts (puts_and_wants (frames.Created given.0, Free) (record (link_with host end peer) { given = given.1 }) host) (wants_starts (frames.Created given.0, Free) (record (link_with host end peer) { given = given.1 }) host)))

send_starts : (host : HostState) (end conn : ℕ) (payload : List ℕ) (weight : Weight) → EndStarts (host_send host end conn payload weight)
unfolding host_send
send_starts host end conn payload weight =
    bind_starts (found_or (find (carries end conn) host.links)) _ (λ link. bind_starts (short_enough payload) _ (λ short. bind_starts (has_room link weight) _ (λ roomy. bind_starts (found_or (id_of link.given conn)) _ (λ id. stepped_starts (puts_and_wants (frames.Data id short, weight) link host) (wants_starts (frames.Data id short, weight) link host)))))

close_starts : (host : HostState) (end conn : ℕ) → EndStarts (host_close host end conn)
unfolding host_close
close_starts host end conn = bind_starts (found_or (find (carries end conn) host.links)) _ (λ link. bind_starts (of_ids (close_of link.given conn)) _ (λ closed. stepped_starts (puts (frames.Closed closed.0, Free) (record link { given = closed.1 }) host) (none_starts (puts (frames.Closed closed.0, Free) (record link { given = closed.1 }) host) (put_none (frames.Closed closed.0, Free) (record link { given = closed.1 }) host))))

pub connect_starts_last : (host after : HostState) (end : ℕ) (peer : Address) (conn : ℕ) (told : List Step) → host_connect host end peer conn ≡ Ok (told, after) → starts_last told ≡ true
connect_starts_last host after end peer conn told e = subst EndStarts e (connect_starts host end peer conn)

pub send_starts_last : (host after : HostState) (end conn : ℕ) (payload : List ℕ) (weight : Weight) (told : List Step) → host_send host end conn payload weight ≡ Ok (told, after) → starts_last told ≡ true
send_starts_last host after end conn payload weight told e = subst EndStarts e (send_starts host end conn payload weight)

pub close_starts_last : (host after : HostState) (end conn : ℕ) (told : List Step) → host_close host end conn ≡ Ok (told, after) → starts_last told ≡ true
close_starts_last host after end conn told e = subst EndStarts e (close_starts host end conn)
