-- Which calls of a host tell neither of a link that has failed nor of an end that was up and is closed.
use Rattle.std.proofs.Common.{◌≡◌, ℕ, ◌+◌, Bool, true, false, cond, ◌&&◌, List, [], ◌∷◌, ◌++◌, drop, map, Ok, Err, refl, sym, ◌∙◌, subst}
use Rattle.std.proofs.lemmas.List.Folds.{list_all-append}
use Rattle.std.specs.Prelude.{find, nat_lt, Result, Option, Some, None, is_some}
use Rattle.ch_base.specs.declared.address.Address.{Address}
use Rattle.ch_base.specs.declared.event.Event.TheVariants as events
use Rattle.ch_base.specs.declared.memory.Stop.TheVariants as stops
use Rattle.ch_wire.specs.Spelling.{request_spelling}
use Rattle.ch_wire.specs.declared.answer.Answer.{Answer}
use Rattle.ch_wire.specs.declared.answer.Answer.TheVariants as answers
use Rattle.ch_wire.specs.declared.frame.Frame.{Frame}
use Rattle.ch_wire.specs.declared.frame.Frame.TheVariants as frames
use Rattle.ch_wire.specs.declared.request.Request.{Request}
use Rattle.ch_light.specs.Ids.{give_of, id_of, close_of, conn_of, closed_of}
use Rattle.ch_light.specs.declared.Connection.{Connection}
use Rattle.ch_light.specs.declared.error.LightError.{LightError}
use Rattle.ch_link.specs.Table.{step_of}
use Rattle.ch_link.specs.declared.LinkAct.{LinkAct}
use Rattle.ch_link.specs.declared.LinkAct.TheVariants as acts
use Rattle.ch_link.specs.declared.LinkAnswer.TheVariants as links
use Rattle.ch_link.specs.declared.LinkIn.{LinkIn}
use Rattle.ch_link.specs.declared.LinkIn.TheVariants as inputs
use Rattle.ch_link.specs.declared.LinkState.{LinkState}
use Rattle.ch_link.specs.declared.LinkState.TheVariants.{Idle, Dialing, AwaitOther, Up}
use Rattle.ch_reader.specs.declared.item.Expected.TheVariants as expected
use Rattle.ch_reader.specs.declared.item.Front.{Front}
use Rattle.ch_reader.specs.declared.item.Front.TheVariants.{Unfinished, Whole, Refused}
use Rattle.ch_reader.specs.declared.item.Item.{Item}
use Rattle.ch_reader.specs.declared.item.Item.TheVariants as items
use Rattle.ch_model.specs.declared.step.EndError.{EndError}
use Rattle.ch_model.specs.declared.step.SocketEvent.TheVariants as sockets
use Rattle.ch_model.specs.declared.step.Step.{Step}
use Rattle.ch_model.specs.declared.step.Step.TheVariants as steps
use Rattle.ch_model.specs.declared.step.Weight.{Weight}
use Rattle.ch_model.specs.declared.step.Weight.TheVariants.{Free}
use Rattle.ch_model.specs.Greater.{is_greater}
use Rattle.ch_model.specs.Host.{on_socket, joins, keeps, host_on, handles}
use Rattle.ch_model.specs.HostCalls.{◌>>=◌, stepped, of_ids, open_endpoint, wants, puts_and_wants, host_connect, carries, found_or, short_enough, has_room, host_send, host_close}
use Rattle.ch_model.specs.HostItems.{posts, gone_from, is_gone, refusal_of, asks_link, reads_request, heard_answer, arrived_at, most_arrived, next_arrival, with_arrival, arrives, closes, receives, reads_frame, reads_on, reads_other, reads}
use Rattle.ch_model.specs.HostLinks.{next_dial, most_dials, dialed, dials_for, wanted_on, asked_on, accepts_on, raised, acknowledged, does_act, hears}
use Rattle.ch_model.specs.HostState.{Link, Socket, HostState}
use Rattle.ch_model.specs.HostSteps.{Stepped, after_steps, ◌then◌, is_socket, own_address, link_with, with_link, with_socket}
use Rattle.ch_model.specs.HostWrites.{writes, puts, frame_step, leaves, answers_and_leaves}
use Rattle.ch_model.specs.Stages.{Stage, Open, is_pending, is_open}
use Rattle.ch_laws_calls.specs.Tables.{table_of, frame_on}
use Rattle.ch_laws_raced.proofs.RaceItemsTables.{data_fits, close_fits, open_fits}
use Rattle.ch_laws_raced.specs.UnbrokenBreaks.{is_calm, calm}

-- ---- steps

pub both : (a b : Bool) → a ≡ true → b ≡ true → (a && b) ≡ true
both true b g h = h
both false b g h = absurd cc

-- what is done is calm
abbrev pub Calm : Stepped → Type 0
Calm (Ok done) = calm done.0 ≡ true
Calm (Err stop) = Unit {0}

calm_both : (xs ys : List Step) → calm xs ≡ true → calm ys ≡ true → calm (xs ++ ys) ≡ true
calm_both xs ys a b = list_all-append is_calm xs ys ∙ both (calm xs) (calm ys) a b

pub after_calm : (xs : List Step) (more : Stepped) → calm xs ≡ true → Calm more → Calm (after_steps xs more)
after_calm xs (Ok more) a b = calm_both xs more.0 a b
after_calm xs (Err stop) a b = tt

then_calm : (done : Stepped) (f : HostState → Stepped) → Calm done → ((next : HostState) → Calm (f next)) → Calm (done then f)
then_calm (Ok done) f a g = after_calm done.0 (f done.1) a (g done.1)
then_calm (Err stop) f a g = tt

frames_calm : (sock : ℕ) (waits : List (Frame × Weight)) → calm (map (frame_step sock) waits) ≡ true
frames_calm sock [] = refl
frames_calm sock (item ∷ waits) = frames_calm sock waits

-- ---- a link

-- the act isn't that of a link that fails or is shut
abbrev pub is_mild : LinkAct → Bool
is_mild (acts.Fail why) = false
is_mild acts.Close = false
is_mild act = true

accept_calm : (sock : ℕ) (link : Link) (host : HostState) → Calm (accepts_on sock link host)
accept_calm sock link host = frames_calm sock link.waits

raised_calm : (state : LinkState) (link : Link) (host : HostState) → Calm (raised state link host)
raised_calm Idle link host = refl
raised_calm (Dialing d) link host = refl
raised_calm AwaitOther link host = refl
raised_calm (Up u probed) link host = frames_calm u link.waits

acknowledged_calm : (state : LinkState) (host : HostState) → Calm (acknowledged state host)
acknowledged_calm Idle host = refl
acknowledged_calm (Dialing d) host = refl
acknowledged_calm AwaitOther host = refl
acknowledged_calm (Up u probed) host = refl

dial_calm : (sock : ℕ) (link : Link) (host : HostState) → Calm (dials_for sock link host)
dial_calm sock link host = by_test (nat_lt host.dials most_dials) where
  by_test : (b : Bool) → Calm (cond b (Ok (steps.Dial sock link.end link.peer ∷ [], with_socket (dialed sock link.end link.peer) (record host { dials = host.dials + 1 }))) (Err stops.Worn))
  by_test true = refl
  by_test false = tt

act_calm : (act : LinkAct) (old : LinkState) (input : LinkIn) (link : Link) (host : HostState) → is_mild act ≡ true → Calm (does_act act old input link host)
act_calm acts.Nothing old input link host m = refl
act_calm acts.Dial old input link host m = dial_calm (wanted_on input) link host
act_calm acts.Accept old input link host m = accept_calm (asked_on input) link host
act_calm acts.Cross old input link host m = refl
act_calm (acts.LeaveAndAccept own) old input link host m = then_calm (leaves own host) (accepts_on (asked_on input) link) refl (λ next. accept_calm (asked_on input) link next)
act_calm (acts.CrossAndProbe up) old input link host m = refl
act_calm acts.Raise old input link host m = raised_calm link.state link host
act_calm (acts.Leave own) old input link host m = refl
act_calm (acts.Fail why) old input link host m = absurd cc
act_calm acts.Acknowledge old input link host m = acknowledged_calm link.state host
act_calm acts.Close old input link host m = absurd cc

-- a link that neither fails nor is shut by what it hears
hears_calm : (input : LinkIn) (link : Link) (host : HostState) → ((state : LinkState) (greater : Bool) → is_mild (step_of state input greater).1 ≡ true) → Calm (hears input link host)
hears_calm input link host mild = let greater = is_greater (own_address host link.end) link.peer in
    act_calm (step_of link.state input greater).1 link.state input (record link { state = (step_of link.state input greater).0 }) (with_link (record link { state = (step_of link.state input greater).0 }) host) (mild link.state greater)

-- ---- the table

want_mild : (n : ℕ) (state : LinkState) (greater : Bool) → is_mild (step_of state (inputs.Want n) greater).1 ≡ true
unfolding step_of
want_mild n Idle greater = refl
want_mild n (Dialing d) greater = refl
want_mild n AwaitOther greater = refl
want_mild n (Up u probed) greater = refl

asked_mild : (n : ℕ) (state : LinkState) (greater : Bool) → is_mild (step_of state (inputs.Asked n) greater).1 ≡ true
unfolding step_of
asked_mild n Idle greater = refl
asked_mild n AwaitOther greater = refl
asked_mild n (Dialing d) true = refl
asked_mild n (Dialing d) false = refl
asked_mild n (Up u true) greater = refl
asked_mild n (Up u false) greater = refl

accepted_mild : (state : LinkState) (greater : Bool) → is_mild (step_of state (inputs.Answered links.Accepted) greater).1 ≡ true
unfolding step_of
accepted_mild Idle greater = refl
accepted_mild (Dialing d) greater = refl
accepted_mild AwaitOther greater = refl
accepted_mild (Up u probed) greater = refl

crossed_mild : (state : LinkState) (greater : Bool) → is_mild (step_of state (inputs.Answered links.Crossed) greater).1 ≡ true
unfolding step_of
crossed_mild Idle greater = refl
crossed_mild (Dialing d) greater = refl
crossed_mild AwaitOther greater = refl
crossed_mild (Up u probed) greater = refl

probe_mild : (state : LinkState) (greater : Bool) → is_mild (step_of state inputs.Probe greater).1 ≡ true
unfolding step_of
probe_mild Idle greater = refl
probe_mild (Dialing d) greater = refl
probe_mild AwaitOther greater = refl
probe_mild (Up u probed) greater = refl

ack_mild : (state : LinkState) (greater : Bool) → is_mild (step_of state inputs.Ack greater).1 ≡ true
unfolding step_of
ack_mild Idle greater = refl
ack_mild (Dialing d) greater = refl
ack_mild AwaitOther greater = refl
ack_mild (Up u probed) greater = refl

-- ---- an item

-- an end that is for no link is left
pub gone_calm : (socket : Socket) (host : HostState) → socket.user ≡ None → Calm (is_gone socket host)
gone_calm socket host none = by_user socket.user none where
  by_user : (o : Option (ℕ × Address)) → o ≡ None → Calm (elim o as (λ o. Stepped) [
    | None ↦ leaves socket.number host
    | Some user ↦ gone_from socket.number (link_with host user.0 user.1) host
  ])
  by_user None e = refl
  by_user (Some user) e = absurd cc

request_calm : (socket : Socket) (request : Request) (host : HostState) → Calm (reads_request socket request host)
request_calm socket request host = by_answer (refusal_of host socket request.target request.from) where
  by_answer : (o : Option Answer) → Calm (elim o as (λ o. Stepped) [
    | Some answer ↦ answers_and_leaves socket.number answer host
    | None ↦ asks_link socket request.target request.from host
  ])
  by_answer (Some answer) = refl
  by_answer None = hears_calm (inputs.Asked socket.number) (link_with host request.target request.from) (with_socket (record socket { user = Some (request.target, request.from) }) host) (asked_mild socket.number)

-- what is read on a socket that is for no link
other_unused : (socket : Socket) (item : Item) (host : HostState) → socket.user ≡ None → Calm (reads_other socket item host)
other_unused socket item host none = by_user socket.user none where
  by_user : (o : Option (ℕ × Address)) → o ≡ None → Calm (elim o as (λ o. Stepped) [
    | None ↦ Ok ([], host)
    | Some user ↦ reads_on socket (link_with host user.0 user.1) item host
  ])
  by_user None e = refl
  by_user (Some user) e = absurd cc

item_unused : (socket : Socket) (item : Item) (host : HostState) → socket.user ≡ None → Calm (reads socket item host)
item_unused socket (items.Request request) host none = request_calm socket request host
item_unused socket (items.Answer answer) host none = other_unused socket (items.Answer answer) host none
item_unused socket (items.Frame frame) host none = other_unused socket (items.Frame frame) host none

pub unused_calm : (socket : Socket) (front : Front × ℕ) (host : HostState) → socket.user ≡ None → Calm (handles socket front host)
unused_calm socket front host none = by_front front.0 where
  by_front : (x : Front) → Calm (handles socket (x, front.1) host)
  by_front Unfinished = refl
  by_front (Refused error) = gone_calm socket host none
  by_front (Whole item) = let now : Socket = record socket { since = drop front.1 socket.since; expected = expected.Frame } in
      then_calm (Ok (steps.Read socket.number ∷ [], with_socket now host)) (reads now item) refl (λ next. item_unused now item next none)

-- the request isn't refused
abbrev pub is_refusing : Answer → Bool
is_refusing answers.Invalid = true
is_refusing answers.Mismatch = true
is_refusing answer = false

-- an answer that isn't a refusal
pub answer_calm : (answer : Answer) (link : Link) (host : HostState) → is_refusing answer ≡ false → Calm (hears (inputs.Answered (heard_answer answer)) link host)
answer_calm answers.Accepted link host r = hears_calm (inputs.Answered links.Accepted) link host accepted_mild
answer_calm answers.Crossed link host r = hears_calm (inputs.Answered links.Crossed) link host crossed_mild
answer_calm answers.Invalid link host r = absurd cc
answer_calm answers.Mismatch link host r = absurd cc

-- the frame tells that the peer's endpoint is closed
abbrev pub is_end_closed : Frame → Bool
is_end_closed frames.EndClosed = true
is_end_closed frame = false

-- a frame that fits the connections that the link has open, and doesn't tell that
pub frame_calm : (socket : Socket) (link : Link) (frame : Frame) (host : HostState) → is_end_closed frame ≡ false → is_some (frame_on frame (table_of link.created)) ≡ true → Calm (reads_frame socket link frame host)
frame_calm socket link (frames.Created id) host c fits = let made = open_fits link.created id (next_arrival host link.end) fits in
    subst (λ (r : Result (List Connection) LightError). Calm (arrives socket link r host)) (sym made.1) (by_test made.0 (nat_lt (arrived_at host link.end) most_arrived)) where
      by_test : (created : List Connection) (b : Bool) → Calm (cond b (posts link.end (events.ConnectionOpened (next_arrival host link.end) link.peer) (with_arrival link.end (with_link (record link { created = created }) host))) (Err stops.Worn))
      by_test created true = refl
      by_test created false = tt
frame_calm socket link (frames.Closed id) host c fits = let left = close_fits link.created id fits in by_closed (closed_of link.created id) left.0 left.1 where
  by_closed : (r : Result (ℕ × List Connection) LightError) (left : ℕ × List Connection) → r ≡ Ok left → Calm (closes socket link r host)
  by_closed (Ok closed) left e = refl
  by_closed (Err error) left e = absurd cc
frame_calm socket link (frames.Data id payload) host c fits = let carried = data_fits link.created id payload fits in by_found (conn_of link.created id) carried.0 carried.1 where
  by_found : (r : Result ℕ LightError) (conn : ℕ) → r ≡ Ok conn → Calm (receives socket link payload r host)
  by_found (Ok conn) c e = refl
  by_found (Err error) c e = absurd cc
frame_calm socket link frames.EndClosed host c fits = absurd cc
frame_calm socket link frames.Probe host c fits = hears_calm inputs.Probe link host probe_mild
frame_calm socket link frames.ProbeAck host c fits = hears_calm inputs.Ack link host ack_mild

-- ---- what happens to a socket

on_calm : (test : Stage → Bool) (sock : ℕ) (f : Socket → HostState → Stepped) (host : HostState) → ((socket : Socket) → find (is_socket sock) host.sockets ≡ Some socket → test socket.stage ≡ true → Calm (f socket host)) → Calm (on_socket test sock f host)
on_calm test sock f host each = by_socket (find (is_socket sock) host.sockets) refl where
  by_test : (socket : Socket) → find (is_socket sock) host.sockets ≡ Some socket → (b : Bool) → test socket.stage ≡ b → Calm (cond b (f socket host) (Ok ([], host)))
  by_test socket is true e = each socket is e
  by_test socket is false e = refl

  by_socket : (o : Option Socket) → find (is_socket sock) host.sockets ≡ o → Calm (elim o as (λ o. Stepped) [
    | None ↦ Ok ([], host)
    | Some socket ↦ cond (test socket.stage) (f socket host) (Ok ([], host))
  ])
  by_socket None is = refl
  by_socket (Some socket) is = by_test socket is (test socket.stage) refl

join_calm : (socket : Socket) (host : HostState) → Calm (joins socket host)
join_calm socket host = by_user socket.user where
  by_user : (o : Option (ℕ × Address)) → Calm (elim o as (λ o. Stepped) [
    | None ↦ Ok ([], host)
    | Some user ↦ writes socket.number (request_spelling (record { target = user.1.id; from = own_address host user.0 })) (with_socket (record socket { stage = Open }) host)
  ])
  by_user None = refl
  by_user (Some user) = refl

joined_calm : (host : HostState) (sock : ℕ) → Calm (host_on host (sockets.Joined sock))
unfolding host_on
joined_calm host sock = on_calm is_pending sock joins host (λ socket is e. join_calm socket host)

came_calm : (host : HostState) (sock : ℕ) (peer_host : List ℕ) → Calm (host_on host (sockets.Came sock peer_host))
unfolding host_on
came_calm host sock peer_host = refl

fed_calm : (host : HostState) (sock : ℕ) (bytes : List ℕ) → Calm (host_on host (sockets.Fed sock bytes))
unfolding host_on
fed_calm host sock bytes = on_calm is_open sock (keeps bytes) host (λ socket is e. refl)

ended_calm : (host : HostState) (sock : ℕ) → ((known : Socket) → find (is_socket sock) host.sockets ≡ Some known → is_open known.stage ≡ true → known.user ≡ None) → Calm (host_on host (sockets.Ended sock))
unfolding host_on
ended_calm host sock none = on_calm is_open sock is_gone host (λ socket is e. gone_calm socket host (none socket is e))

pub calm_joined : (host after : HostState) (sock : ℕ) (told : List Step) → host_on host (sockets.Joined sock) ≡ Ok (told, after) → calm told ≡ true
calm_joined host after sock told e = subst Calm e (joined_calm host sock)

pub calm_came : (host after : HostState) (sock : ℕ) (peer_host : List ℕ) (told : List Step) → host_on host (sockets.Came sock peer_host) ≡ Ok (told, after) → calm told ≡ true
calm_came host after sock peer_host told e = subst Calm e (came_calm host sock peer_host)

pub calm_fed : (host after : HostState) (sock : ℕ) (bytes : List ℕ) (told : List Step) → host_on host (sockets.Fed sock bytes) ≡ Ok (told, after) → calm told ≡ true
calm_fed host after sock bytes told e = subst Calm e (fed_calm host sock bytes)

-- the end of input of an open end that is for no link
pub calm_ended : (host after : HostState) (sock : ℕ) (told : List Step) → ((known : Socket) → find (is_socket sock) host.sockets ≡ Some known → is_open known.stage ≡ true → known.user ≡ None) → host_on host (sockets.Ended sock) ≡ Ok (told, after) → calm told ≡ true
calm_ended host after sock told none e = subst Calm e (ended_calm host sock none)

-- ---- what an endpoint asks

abbrev EndCalm : Result (List Step × HostState) EndError → Type 0
EndCalm (Ok done) = calm done.0 ≡ true
EndCalm (Err e) = Unit {0}

bind_calm : {A : Type 0} (x : Result A EndError) (f : A → Result (List Step × HostState) EndError) → ((a : A) → EndCalm (f a)) → EndCalm (x >>= f)
bind_calm (Ok a) f g = g a
bind_calm (Err e) f g = tt

stepped_calm : (done : Stepped) → Calm done → EndCalm (stepped done)
stepped_calm (Ok done) u = u
stepped_calm (Err stop) u = tt

put_calm : (item : Frame × Weight) (link : Link) (host : HostState) → Calm (puts item link host)
put_calm item link host = by_state link.state where
  by_state : (state : LinkState) → Calm (elim state as (λ s. Stepped) [
    | Up sock probed ↦ Ok (frame_step sock item ∷ [], with_link link host)
    | _ ↦ Ok ([], with_link (record link { waits = link.waits ++ item ∷ [] }) host)
  ])
  by_state Idle = refl
  by_state (Dialing d) = refl
  by_state AwaitOther = refl
  by_state (Up u probed) = refl

wants_calm : (item : Frame × Weight) (link : Link) (host : HostState) → Calm (puts_and_wants item link host)
wants_calm item link host = then_calm (puts item link host) (wants link.end link.peer) (put_calm item link host) (λ next. hears_calm (inputs.Want (next_dial next)) (link_with next link.end link.peer) next (want_mild (next_dial next)))

connect_calm : (host : HostState) (end : ℕ) (peer : Address) (conn : ℕ) → EndCalm (host_connect host end peer conn)
unfolding host_connect
connect_calm host end peer conn = bind_calm (open_endpoint host end) _ (λ standing. bind_calm (of_ids (give_of (link_with host end peer).given conn)) _ (λ given. stepped_calm (puts_and_wants (frames.Created given.0, Free) (record (link_with host end peer) { given = given.1 }) host) (wants_calm (frames.Created given.0, Free) (record (link_with host end peer) { given = given.1 }) host)))

send_calm : (host : HostState) (end conn : ℕ) (payload : List ℕ) (weight : Weight) → EndCalm (host_send host end conn payload weight)
unfolding host_send
send_calm host end conn payload weight =
    bind_calm (found_or (find (carries end conn) host.links)) _ (λ link. bind_calm (short_enough payload) _ (λ short. bind_calm (has_room link weight) _ (λ roomy. bind_calm (found_or (id_of link.given conn)) _ (λ id. stepped_calm (puts_and_wants (frames.Data id short, weight) link host) (wants_calm (frames.Data id short, weight) link host)))))

close_calm : (host : HostState) (end conn : ℕ) → EndCalm (host_close host end conn)
unfolding host_close
close_calm host end conn = bind_calm (found_or (find (carries end conn) host.links)) _ (λ link. bind_calm (of_ids (close_of link.given conn)) _ (λ closed. stepped_calm (puts (frames.Closed closed.0, Free) (record link { given = closed.1 }) host) (put_calm (frames.Closed closed.0, Free) (record link { given = closed.1 }) host)))

pub calm_connect : (host after : HostState) (end : ℕ) (peer : Address) (conn : ℕ) (told : List Step) → host_connect host end peer conn ≡ Ok (told, after) → calm told ≡ true
calm_connect host after end peer conn told e = subst EndCalm e (connect_calm host end peer conn)

pub calm_send : (host after : HostState) (end conn : ℕ) (payload : List ℕ) (weight : Weight) (told : List Step) → host_send host end conn payload weight ≡ Ok (told, after) → calm told ≡ true
calm_send host after end conn payload weight told e = subst EndCalm e (send_calm host end conn payload weight)

pub calm_close : (host after : HostState) (end conn : ℕ) (told : List Step) → host_close host end conn ≡ Ok (told, after) → calm told ≡ true
calm_close host after end conn told e = subst EndCalm e (close_calm host end conn)
