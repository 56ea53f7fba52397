-- In each call of a host that is calm links go on: none that has begun is idle after it, and those that are dialed for were.
use Rattle.std.proofs.Common.{◌≡◌, ℕ, ◌+◌, Bool, true, false, cond, List, [], ◌∷◌, ◌++◌, drop, Ok, Err, refl, sym, ap, ◌∙◌, subst}
use Rattle.std.specs.Prelude.{find, nat_lt, Result, Option, Some, None}
use Rattle.ch_base.specs.declared.address.Address.{Address}
use Rattle.ch_base.specs.declared.event.Event.TheVariants as events
use Rattle.ch_base.specs.declared.memory.Stop.{Stop}
use Rattle.ch_base.specs.declared.memory.Stop.TheVariants as stops
use Rattle.ch_wire.specs.Spelling.{request_spelling}
use Rattle.ch_wire.specs.declared.answer.Answer.{Answer}
use Rattle.ch_wire.specs.declared.frame.Frame.{Frame}
use Rattle.ch_wire.specs.declared.frame.Frame.TheVariants as frames
use Rattle.ch_wire.specs.declared.request.Request.{Request}
use Rattle.ch_reader.specs.declared.item.Expected.TheVariants as expected
use Rattle.ch_reader.specs.declared.item.Front.{Front}
use Rattle.ch_reader.specs.declared.item.Front.TheVariants.{Unfinished, Whole, Refused}
use Rattle.ch_reader.specs.declared.item.Item.{Item}
use Rattle.ch_reader.specs.declared.item.Item.TheVariants as items
use Rattle.ch_link.specs.Sockets.{names}
use Rattle.ch_link.specs.declared.LinkIn.TheVariants as inputs
use Rattle.ch_link.specs.declared.LinkState.{LinkState}
use Rattle.ch_link.specs.declared.LinkState.TheVariants.{Idle, Dialing, AwaitOther, Up}
use Rattle.ch_light.specs.Ids.{created_of, conn_of, closed_of, id_of, give_of, close_of}
use Rattle.ch_light.specs.declared.Connection.{Connection}
use Rattle.ch_light.specs.declared.error.LightError.{LightError}
use Rattle.ch_model.specs.declared.step.EndError.{EndError}
use Rattle.ch_model.specs.declared.step.SocketEvent.{SocketEvent}
use Rattle.ch_model.specs.declared.step.SocketEvent.TheVariants as sockets
use Rattle.ch_model.specs.declared.step.Step.{Step}
use Rattle.ch_model.specs.declared.step.Step.TheVariants as steps
use Rattle.ch_model.specs.declared.step.Weight.{Weight}
use Rattle.ch_model.specs.declared.step.Weight.TheVariants.{Free}
use Rattle.ch_model.specs.Host.{on_socket, joins, keeps, accepted, host_on, front_of, first_ready, takes, handles, some_steps, host_next}
use Rattle.ch_model.specs.HostCalls.{◌>>=◌, stepped, of_ids, open_endpoint, wants, puts_and_wants, host_connect, carries, found_or, short_enough, has_room, host_send, host_close, host_timer_runs}
use Rattle.ch_model.specs.HostItems.{most_arrived, posts, gone_from, is_gone, refusal_of, asks_link, reads_request, heard_answer, arrived_at, with_arrival, next_arrival, arrives, closes, receives, reads_frame, reads_on, reads_other, reads}
use Rattle.ch_model.specs.HostLinks.{next_dial, hears}
use Rattle.ch_model.specs.HostState.{Endpoint, Link, Socket, HostState}
use Rattle.ch_model.specs.HostSteps.{Stepped, still, does, own_address, is_endpoint, link_or_new, link_with, with_link, with_socket, with_endpoint, is_socket}
use Rattle.ch_model.specs.HostWrites.{writes, leaves, answers_and_leaves, puts, frame_step, end_socket}
use Rattle.ch_model.specs.Stages.{Stage, Open, is_pending, is_open}
use Rattle.ch_laws_links.specs.Naming.{IsNaming}
use Rattle.ch_laws_links.proofs.Acts.{IsAt, again}
use Rattle.ch_laws_links.proofs.Keys.{state_at, relinked, key_of, link_named, ended_rest, states_as}
use Rattle.ch_laws_links.proofs.Links.{found_link}
use Rattle.ch_laws_raced.specs.UnbrokenBreaks.{calm}
use Rattle.ch_laws_raced.specs.OnceBegun.{GoesOn}
use Rattle.ch_laws_raced.proofs.OnceActs.{AllOn, NoDials, rests, then_on, from_on, hears_on}

-- ---- links as they are found

-- the link of an endpoint with a peer is in its state
found_at : (host : HostState) (end : ℕ) (peer : Address) → IsAt (link_with host end peer) host
found_at host end peer own other h =
    let key = key_of own other (link_with host end peer) h in
    let named = link_named host end peer in
    ap (λ (n : ℕ). state_at host n other) (sym key.0 ∙ named.0) ∙ ap (λ (a : Address). state_at host end a) (sym key.1 ∙ named.1)

-- so is one that was found in another way
is_found : (test : Link → Bool) (host : HostState) (link : Link) → IsNaming host → find test host.links ≡ Some link → IsAt link host
is_found test host link s e own other h =
    let key = key_of own other link h in
    ap (λ (n : ℕ). state_at host n other) (sym key.0) ∙ ap (λ (a : Address). state_at host link.end a) (sym key.1) ∙ ap (λ (o : Option Link). (link_or_new link.end link.peer o).state) (found_link test host.links link s.links e)

-- an end that is left changes no link
left : (sock : ℕ) (host : HostState) → AllOn host (leaves sock host)
left sock host c = rests host (end_socket sock host) (steps.Left sock ∷ []) (λ end peer. states_as (end_socket sock host) host (ended_rest sock host).0 end peer) (λ end peer. refl)

answered : (sock : ℕ) (answer : Answer) (host : HostState) → AllOn host (answers_and_leaves sock answer host)
answered sock answer host c = rests host (end_socket sock host) _ (λ end peer. states_as (end_socket sock host) host (ended_rest sock host).0 end peer) (λ end peer. refl)

-- nothing is done
pub stays : (host : HostState) (told : List Step) → NoDials told → GoesOn host told host
stays host told none = rests host host told (λ end peer. refl) none

-- the link is kept as it stood, but for what else it has
rekept : (link : Link) (host : HostState) (told : List Step) → IsAt link host → NoDials told → GoesOn host told (with_link link host)
rekept link host told at none = rests host (with_link link host) told (λ end peer. relinked link host end peer ∙ again link host at end peer) none

put : (item : Frame × Weight) (link : Link) (host : HostState) → IsAt link host → AllOn host (puts item link host)
put item link host at = by_state link.state where
  by_state : (state : LinkState) → AllOn host (elim state as (λ x. Stepped) [
    | Up sock probed ↦ Ok (frame_step sock item ∷ [], with_link link host)
    | _ ↦ Ok ([], with_link (record link { waits = link.waits ++ item ∷ [] }) host)
  ])
  by_state (Up sock probed) = λ c. rekept link host (frame_step sock item ∷ []) at (λ end peer. refl)
  by_state (Dialing sock) = λ c. rekept (record link { waits = link.waits ++ item ∷ [] }) host [] at (λ end peer. refl)
  by_state Idle = λ c. rekept (record link { waits = link.waits ++ item ∷ [] }) host [] at (λ end peer. refl)
  by_state AwaitOther = λ c. rekept (record link { waits = link.waits ++ item ∷ [] }) host [] at (λ end peer. refl)

-- ---- items

gone : (sock : ℕ) (link : Link) (host : HostState) → IsAt link host → AllOn host (gone_from sock link host)
gone sock link host at = by_test (names link.state sock) where
  by_test : (b : Bool) → AllOn host (cond b (hears inputs.Gone link host) (leaves sock host))
  by_test true = hears_on inputs.Gone link host at refl
  by_test false = left sock host

socket_gone : (socket : Socket) (host : HostState) → AllOn host (is_gone socket host)
socket_gone socket host = by_user socket.user where
  by_user : (user : Option (ℕ × Address)) → AllOn host (elim user as (λ x. Stepped) [
    | None ↦ leaves socket.number host
    | Some user ↦ gone_from socket.number (link_with host user.0 user.1) host
  ])
  by_user None = left socket.number host
  by_user (Some user) = gone socket.number (link_with host user.0 user.1) host (found_at host user.0 user.1)

requested : (socket : Socket) (request : Request) (host : HostState) → AllOn host (reads_request socket request host)
requested socket request host = by_answer (refusal_of host socket request.target request.from) where
  used : HostState
  used = with_socket (record socket { user = Some (request.target, request.from) }) host

  by_answer : (answer : Option Answer) → AllOn host (elim answer as (λ x. Stepped) [
    | Some answer ↦ answers_and_leaves socket.number answer host
    | None ↦ asks_link socket request.target request.from host
  ])
  by_answer (Some answer) = answered socket.number answer host
  by_answer None = from_on host used (hears (inputs.Asked socket.number) (link_with host request.target request.from) used) (λ end peer. refl)
      (hears_on (inputs.Asked socket.number) (link_with host request.target request.from) used (found_at host request.target request.from) refl)

arrival : (end : ℕ) (host : HostState) (own : ℕ) (peer : Address) → state_at (with_arrival end host) own peer ≡ state_at host own peer
arrival end host own peer = by_endpoint (find (is_endpoint end) host.ends) where
  by_endpoint : (o : Option Endpoint) → state_at (elim o as (λ x. HostState) [
    | None ↦ host
    | Some endpoint ↦ with_endpoint (record endpoint { arrived = endpoint.arrived + 1 }) host
  ]) own peer ≡ state_at host own peer
  by_endpoint None = refl
  by_endpoint (Some endpoint) = refl

arrived : (socket : Socket) (link : Link) (created : Result (List Connection) LightError) (host : HostState) → IsAt link host → AllOn host (arrives socket link created host)
arrived socket link (Err e) host at = socket_gone socket host
arrived socket link (Ok created) host at = by_test (nat_lt (arrived_at host link.end) most_arrived) where
  now : Link
  now = record link { created = created }

  by_test : (b : Bool) → AllOn host (cond b (posts link.end (events.ConnectionOpened (next_arrival host link.end) link.peer) (with_arrival link.end (with_link now host))) (Err stops.Worn))
  by_test true = λ c. rests host (with_arrival link.end (with_link now host)) _ (λ end peer. arrival link.end (with_link now host) end peer ∙ relinked now host end peer ∙ again now host at end peer) (λ end peer. refl)
  by_test false = tt

closed : (socket : Socket) (link : Link) (done : Result (ℕ × List Connection) LightError) (host : HostState) → IsAt link host → AllOn host (closes socket link done host)
closed socket link (Err e) host at = socket_gone socket host
closed socket link (Ok done) host at = λ c. rekept (record link { created = done.1 }) host _ at (λ end peer. refl)

received : (socket : Socket) (link : Link) (payload : List ℕ) (conn : Result ℕ LightError) (host : HostState) → AllOn host (receives socket link payload conn host)
received socket link payload (Err e) host = socket_gone socket host
received socket link payload (Ok conn) host = λ c. stays host _ (λ end peer. refl)

framed : (socket : Socket) (link : Link) (frame : Frame) (host : HostState) → IsAt link host → AllOn host (reads_frame socket link frame host)
framed socket link (frames.Created id) host at = arrived socket link (created_of link.created id (next_arrival host link.end)) host at
framed socket link (frames.Closed id) host at = closed socket link (closed_of link.created id) host at
framed socket link (frames.Data id payload) host at = received socket link payload (conn_of link.created id) host
framed socket link frames.EndClosed host at = hears_on inputs.EndClosed link host at refl
framed socket link frames.Probe host at = hears_on inputs.Probe link host at refl
framed socket link frames.ProbeAck host at = hears_on inputs.Ack link host at refl

read_on : (socket : Socket) (link : Link) (item : Item) (host : HostState) → IsAt link host → AllOn host (reads_on socket link item host)
read_on socket link (items.Request request) host at = λ c. stays host [] (λ end peer. refl)
read_on socket link (items.Answer answer) host at = hears_on (inputs.Answered (heard_answer answer)) link host at refl
read_on socket link (items.Frame frame) host at = framed socket link frame host at

read_other : (socket : Socket) (item : Item) (host : HostState) → AllOn host (reads_other socket item host)
read_other socket item host = by_user socket.user where
  by_user : (user : Option (ℕ × Address)) → AllOn host (elim user as (λ x. Stepped) [
    | None ↦ still host
    | Some user ↦ reads_on socket (link_with host user.0 user.1) item host
  ])
  by_user None = λ c. stays host [] (λ end peer. refl)
  by_user (Some user) = read_on socket (link_with host user.0 user.1) item host (found_at host user.0 user.1)

read : (socket : Socket) (item : Item) (host : HostState) → AllOn host (reads socket item host)
read socket (items.Request request) host = requested socket request host
read socket (items.Answer answer) host = read_other socket (items.Answer answer) host
read socket (items.Frame frame) host = read_other socket (items.Frame frame) host

handled : (socket : Socket) (front : Front × ℕ) (host : HostState) → AllOn host (handles socket front host)
handled socket front host = by_front front.0 where
  now : Socket
  now = record socket { since = drop front.1 socket.since; expected = expected.Frame }

  by_front : (x : Front) → AllOn host (elim x as (λ x. Stepped) [
    | Unfinished ↦ still host
    | Refused error ↦ is_gone socket host
    | Whole item ↦ takes now item host
  ])
  by_front Unfinished = λ c. stays host [] (λ end peer. refl)
  by_front (Refused error) = socket_gone socket host
  by_front (Whole item) = then_on host (does (steps.Read now.number) (with_socket now host)) (reads now item) (λ c. rests host (with_socket now host) (steps.Read now.number ∷ []) (λ end peer. refl) (λ end peer. refl)) (λ next. read now item next)

-- ---- calls

abbrev NextOn : HostState → Result (Option (List Step) × HostState) Stop → Type 0
NextOn before (Ok (Some told, after)) = calm told ≡ true → GoesOn before told after
NextOn before (Ok (None, after)) = Unit {0}
NextOn before (Err stop) = Unit {0}

next_on : (host : HostState) → NextOn host (host_next host)
unfolding host_next
next_on host = by_first (first_ready host.sockets) where
  by_done : (one : Stepped) → AllOn host one → NextOn host (some_steps one)
  by_done (Ok one) f = f
  by_done (Err stop) f = tt

  by_first : (o : Option Socket) → NextOn host (elim o as (λ o. Result (Option (List Step) × HostState) Stop) [
    | None ↦ Ok (None, host)
    | Some socket ↦ some_steps (handles socket (front_of socket) host)
  ])
  by_first None = tt
  by_first (Some socket) = by_done (handles socket (front_of socket) host) (handled socket (front_of socket) host)

on_one : (test : Stage → Bool) (sock : ℕ) (f : Socket → HostState → Stepped) (host : HostState) → ((socket : Socket) → AllOn host (f socket host)) → AllOn host (on_socket test sock f host)
on_one test sock f host each = by_socket (find (is_socket sock) host.sockets) where
  by_test : (socket : Socket) (b : Bool) → AllOn host (cond b (f socket host) (still host))
  by_test socket true = each socket
  by_test socket false = λ c. stays host [] (λ end peer. refl)

  by_socket : (o : Option Socket) → AllOn host (elim o as (λ x. Stepped) [
    | None ↦ still host
    | Some socket ↦ cond (test socket.stage) (f socket host) (still host)
  ])
  by_socket None = λ c. stays host [] (λ end peer. refl)
  by_socket (Some socket) = by_test socket (test socket.stage)

joined : (socket : Socket) (host : HostState) → AllOn host (joins socket host)
joined socket host = by_user socket.user where
  by_user : (user : Option (ℕ × Address)) → AllOn host (elim user as (λ x. Stepped) [
    | None ↦ still host
    | Some user ↦ writes socket.number (request_spelling (record { target = user.1.id; from = own_address host user.0 })) (with_socket (record socket { stage = Open }) host)
  ])
  by_user None = λ c. stays host [] (λ end peer. refl)
  by_user (Some user) = λ c. rests host (with_socket (record socket { stage = Open }) host) _ (λ end peer. refl) (λ end peer. refl)

event_on : (host : HostState) (event : SocketEvent) → AllOn host (host_on host event)
unfolding host_on
event_on host (sockets.Joined sock) = on_one is_pending sock joins host (λ socket. joined socket host)
event_on host (sockets.Came sock peer_host) = λ c. rests host (with_socket (accepted sock peer_host) host) [] (λ end peer. refl) (λ end peer. refl)
event_on host (sockets.Refused sock) = on_one is_pending sock is_gone host (λ socket. socket_gone socket host)
event_on host (sockets.Fed sock bytes) = on_one is_open sock (keeps bytes) host (λ socket c. rests host (with_socket (record socket { since = socket.since ++ bytes }) host) [] (λ end peer. refl) (λ end peer. refl))
event_on host (sockets.Ended sock) = on_one is_open sock is_gone host (λ socket. socket_gone socket host)
event_on host (sockets.Lost sock) = on_one is_open sock is_gone host (λ socket. socket_gone socket host)
event_on host (sockets.Late end peer) = by_test (host_timer_runs host end peer) where
  by_test : (b : Bool) → AllOn host (cond b (hears inputs.Late (link_with host end peer) host) (still host))
  by_test true = hears_on inputs.Late (link_with host end peer) host (found_at host end peer) refl
  by_test false = λ c. stays host [] (λ own other. refl)

-- ---- what an endpoint asks

abbrev EndOn : HostState → Result (List Step × HostState) EndError → Type 0
EndOn before (Ok done) = calm done.0 ≡ true → GoesOn before done.0 done.1
EndOn before (Err e) = Unit {0}

bound : {A : Type 0} (host : HostState) (given : Result A EndError) (f : A → Result (List Step × HostState) EndError) → ((x : A) → given ≡ Ok x → EndOn host (f x)) → EndOn host (given >>= f)
bound host (Ok x) f k = k x refl
bound host (Err e) f k = tt

as_asked : (host : HostState) (done : Stepped) → AllOn host done → EndOn host (stepped done)
as_asked host (Ok done) f = f
as_asked host (Err stop) f = tt

put_and_wanted : (item : Frame × Weight) (link : Link) (host : HostState) → IsAt link host → AllOn host (puts_and_wants item link host)
put_and_wanted item link host at = then_on host (puts item link host) (wants link.end link.peer) (put item link host at)
    (λ next. hears_on (inputs.Want (next_dial next)) (link_with next link.end link.peer) next (found_at next link.end link.peer) refl)

-- a link that is found, or nothing is done
found_some : (o : Option Link) (link : Link) → found_or o ≡ Ok link → o ≡ Some link
found_some None link e = absurd cc
found_some (Some known) link e = cc

connect_on : (host : HostState) (end : ℕ) (peer : Address) (conn : ℕ) → EndOn host (host_connect host end peer conn)
unfolding host_connect
connect_on host end peer conn = bound host (open_endpoint host end) _ (λ standing e. bound host (of_ids (give_of (link_with host end peer).given conn)) _ (λ given f. as_asked host _
    (put_and_wanted (frames.Created given.0, Free) (record (link_with host end peer) { given = given.1 }) host (found_at host end peer))))

send_on : (host : HostState) (end conn : ℕ) (payload : List ℕ) (weight : Weight) → IsNaming host → EndOn host (host_send host end conn payload weight)
unfolding host_send
send_on host end conn payload weight s =
    bound host (found_or (find (carries end conn) host.links)) _ (λ link e. bound host (short_enough payload) _ (λ short f. bound host (has_room link weight) _ (λ roomy g. bound host (found_or (id_of link.given conn)) _ (λ id h. as_asked host _
    (put_and_wanted (frames.Data id short, weight) link host (is_found (carries end conn) host link s (found_some (find (carries end conn) host.links) link e)))))))

close_on : (host : HostState) (end conn : ℕ) → IsNaming host → EndOn host (host_close host end conn)
unfolding host_close
close_on host end conn s = bound host (found_or (find (carries end conn) host.links)) _ (λ link e. bound host (of_ids (close_of link.given conn)) _ (λ closed f. as_asked host _
    (put (frames.Closed closed.0, Free) (record link { given = closed.1 }) host (is_found (carries end conn) host link s (found_some (find (carries end conn) host.links) link e)))))

-- ---- of a call that is answered

pub on_goes : (host after : HostState) (event : SocketEvent) (told : List Step) → host_on host event ≡ Ok (told, after) → calm told ≡ true → GoesOn host told after
on_goes host after event told e = subst (AllOn host) e (event_on host event)

pub next_goes : (host after : HostState) (told : List Step) → host_next host ≡ Ok (Some told, after) → calm told ≡ true → GoesOn host told after
next_goes host after told e = subst (NextOn host) e (next_on host)

pub connect_goes : (host after : HostState) (end : ℕ) (peer : Address) (conn : ℕ) (told : List Step) → host_connect host end peer conn ≡ Ok (told, after) → calm told ≡ true → GoesOn host told after
connect_goes host after end peer conn told e = subst (EndOn host) e (connect_on host end peer conn)

pub send_goes : (host after : HostState) (end conn : ℕ) (payload : List ℕ) (weight : Weight) (told : List Step) → IsNaming host → host_send host end conn payload weight ≡ Ok (told, after) → calm told ≡ true → GoesOn host told after
send_goes host after end conn payload weight told s e = subst (EndOn host) e (send_on host end conn payload weight s)

pub close_goes : (host after : HostState) (end conn : ℕ) (told : List Step) → IsNaming host → host_close host end conn ≡ Ok (told, after) → calm told ≡ true → GoesOn host told after
close_goes host after end conn told s e = subst (EndOn host) e (close_on host end conn s)
