-- A host writes that it accepts only directly after a link came up on that socket.
use Rattle.std.proofs.Common.{◌≡◌, inl, inr, ℕ, ◌+◌, Bool, true, false, cond, List, [], ◌∷◌, ◌++◌, length, drop, map, Ok, Err, refl, sym, ap, ◌∙◌, subst, arith}
use Rattle.std.proofs.lemmas.List.{length-append}
use Rattle.std.proofs.lemmas.Slice.Eq.{bytes_eq-Decides}
use Rattle.std.specs.Prelude.{find, nat_lt, Result, Option, Some, None}
use Rattle.std.specs.List.{list_any}
use Rattle.std.specs.Str.{bytes_eq}
use Rattle.ch_base.specs.declared.address.Address.{Address}
use Rattle.ch_base.specs.Addresses.{address_text}
use Rattle.ch_base.specs.declared.event.Event.TheVariants as events
use Rattle.ch_base.specs.declared.memory.Stop.{Stop}
use Rattle.ch_base.specs.declared.memory.Stop.TheVariants as stops
use Rattle.ch_wire.specs.Spelling.{answer_spelling, request_spelling, frame_spelling}
use Rattle.ch_wire.specs.Words.{word, counted}
use Rattle.ch_wire.specs.declared.answer.Answer.TheVariants as answers
use Rattle.ch_wire.specs.declared.frame.Frame.{Frame}
use Rattle.ch_wire.specs.declared.frame.Frame.TheVariants as frames
use Rattle.ch_wire.specs.declared.request.Request.{Request}
use Rattle.ch_light.specs.Ids.{give_of, id_of, close_of, created_of, conn_of, closed_of}
use Rattle.ch_light.specs.declared.Connection.{Connection}
use Rattle.ch_light.specs.declared.error.LightError.{LightError}
use Rattle.ch_link.specs.Sockets.{names}
use Rattle.ch_link.specs.Table.{step_of}
use Rattle.ch_link.specs.declared.LinkAct.{LinkAct}
use Rattle.ch_link.specs.declared.LinkAct.TheVariants as acts
use Rattle.ch_link.specs.declared.LinkIn.{LinkIn}
use Rattle.ch_link.specs.declared.LinkIn.TheVariants as inputs
use Rattle.ch_link.specs.declared.LinkState.{LinkState}
use Rattle.ch_link.specs.declared.LinkState.TheVariants.{Idle, Dialing, AwaitOther, Up}
use Rattle.ch_reader.specs.declared.item.Expected.TheVariants as expected
use Rattle.ch_reader.specs.declared.item.Front.{Front}
use Rattle.ch_reader.specs.declared.item.Front.TheVariants.{Unfinished, Whole, Refused}
use Rattle.ch_reader.specs.declared.item.Item.{Item}
use Rattle.ch_reader.specs.declared.item.Item.TheVariants as items
use Rattle.ch_model.specs.declared.step.EndError.{EndError}
use Rattle.ch_model.specs.declared.step.SocketEvent.{SocketEvent}
use Rattle.ch_model.specs.declared.step.SocketEvent.TheVariants as sockets
use Rattle.ch_model.specs.declared.step.Step.{Step}
use Rattle.ch_model.specs.declared.step.Step.TheVariants as steps
use Rattle.ch_model.specs.declared.step.Weight.{Weight}
use Rattle.ch_model.specs.declared.step.Weight.TheVariants.{Free}
use Rattle.ch_model.specs.Greater.{is_greater}
use Rattle.ch_model.specs.Host.{on_socket, joins, keeps, host_on, front_of, first_ready, handles, some_steps, host_next}
use Rattle.ch_model.specs.HostCalls.{◌>>=◌, stepped, of_ids, open_endpoint, wants, puts_and_wants, host_connect, carries, found_or, short_enough, has_room, host_send, host_close, host_timer_runs}
use Rattle.ch_model.specs.HostItems.{posts, gone_from, is_gone, is_mismatch, asks_link, reads_request, heard_answer, arrived_at, most_arrived, next_arrival, with_arrival, arrives, closes, receives, reads_frame, reads_on, reads}
use Rattle.ch_model.specs.HostLinks.{next_dial, most_dials, dialed, dials_for, wanted_on, asked_on, accepts_on, fails_with, says_closed, raised, acknowledged, does_act, hears}
use Rattle.ch_model.specs.HostState.{Link, Socket, HostState}
use Rattle.ch_model.specs.HostSteps.{Stepped, is_open_endpoint, after_steps, ◌then◌, is_socket, own_address, link_with, with_link, with_socket}
use Rattle.ch_model.specs.HostWrites.{writes, puts, frame_step, leaves, answers_and_leaves, forgotten, leaves_off}
use Rattle.ch_model.specs.Stages.{Stage, Open, is_pending, is_open}
use Rattle.ch_laws_risen.specs.Risings.{AcceptsAfter, MayWrite}

-- ---- bytes that don't accept

-- bytes of another length are others
other_length : (xs ys : List ℕ) → (length xs ≡ length ys → ⊥) → bytes_eq xs ys ≡ false
other_length xs ys differ = by_test (bytes_eq xs ys) refl where
  by_test : (b : Bool) → bytes_eq xs ys ≡ b → b ≡ false
  by_test false e = refl
  by_test true e = absurd (differ (ap length ((bytes_eq-Decides xs ys).0 e)))

counted_length : (n : ℕ) (text : List ℕ) → length (counted n text) ≡ 4 + (4 + length text)
counted_length n text = length-append (word n) (word (length text) ++ text) ∙ ap (λ (k : ℕ). 4 + k) (length-append (word (length text)) text)

no_accepting : (n : ℕ) (text : List ℕ) → bytes_eq (counted n text) (answer_spelling answers.Accepted) ≡ false
no_accepting n text = other_length (counted n text) (answer_spelling answers.Accepted) (λ e. longer (length text) (sym (counted_length n text) ∙ e)) where
  longer : (k : ℕ) → 4 + (4 + k) ≡ 4 → ⊥
  longer k e = omega arith

two_words : (m n : ℕ) → bytes_eq (word m ++ word n) (answer_spelling answers.Accepted) ≡ false
two_words m n = other_length (word m ++ word n) (answer_spelling answers.Accepted) (λ e. eight (sym (length-append (word m) (word n)) ∙ e)) where
  eight : ◌≡◌ {A = ℕ} 8 4 → ⊥
  eight e = omega arith

frame_plain : (frame : Frame) → bytes_eq (frame_spelling frame) (answer_spelling answers.Accepted) ≡ false
frame_plain (frames.Created id) = two_words 0 id
frame_plain (frames.Closed id) = two_words 1 id
frame_plain frames.EndClosed = refl
frame_plain frames.Probe = refl
frame_plain frames.ProbeAck = refl
frame_plain (frames.Data id payload) = no_accepting id payload

-- ---- steps

weaker_write : (last : Option ℕ) (sock : ℕ) (bytes : List ℕ) → MayWrite None sock bytes → MayWrite last sock bytes
weaker_write last sock bytes (inl e) = inl e
weaker_write last sock bytes (inr e) = absurd cc

weaker : (last : Option ℕ) (told : List Step) → AcceptsAfter None told → AcceptsAfter last told
weaker last [] a = tt
weaker last (steps.Up sock ∷ rest) a = a
weaker last (steps.Write sock bytes said ∷ rest) a = (weaker_write last sock bytes a.0, a.1)
weaker last (steps.Dial sock end peer ∷ rest) a = a
weaker last (steps.Read sock ∷ rest) a = a
weaker last (steps.Down sock ∷ rest) a = a
weaker last (steps.Left sock ∷ rest) a = a
weaker last (steps.Broke end peer why ∷ rest) a = a
weaker last (steps.Post end event ∷ rest) a = a

both_accept : (last : Option ℕ) (xs ys : List Step) → AcceptsAfter last xs → AcceptsAfter None ys → AcceptsAfter last (xs ++ ys)
both_accept last [] ys a b = weaker last ys b
both_accept last (steps.Up sock ∷ xs) ys a b = both_accept (Some sock) xs ys a b
both_accept last (steps.Write sock bytes said ∷ xs) ys a b = (a.0, both_accept None xs ys a.1 b)
both_accept last (steps.Dial sock end peer ∷ xs) ys a b = both_accept None xs ys a b
both_accept last (steps.Read sock ∷ xs) ys a b = both_accept None xs ys a b
both_accept last (steps.Down sock ∷ xs) ys a b = both_accept None xs ys a b
both_accept last (steps.Left sock ∷ xs) ys a b = both_accept None xs ys a b
both_accept last (steps.Broke end peer why ∷ xs) ys a b = both_accept None xs ys a b
both_accept last (steps.Post end event ∷ xs) ys a b = both_accept None xs ys a b

abbrev Accept : {E : Type 0} → Result (List Step × HostState) E → Type 0
Accept (Ok done) = AcceptsAfter None done.0
Accept (Err e) = Unit {0}

then_accept : (done : Stepped) (f : HostState → Stepped) → Accept done → ((next : HostState) → Accept (f next)) → Accept (done then f)
then_accept (Ok done) f a g = by_more (f done.1) (g done.1) where
  by_more : (more : Stepped) → Accept more → Accept (after_steps done.0 more)
  by_more (Ok more) b = both_accept None done.0 more.0 a b
  by_more (Err stop) b = tt
then_accept (Err stop) f a g = tt

frames_accept : (sock : ℕ) (waits : List (Frame × Weight)) → AcceptsAfter None (map (frame_step sock) waits)
frames_accept sock [] = tt
frames_accept sock (item ∷ waits) = (inl (frame_plain item.0), frames_accept sock waits)

-- ---- a link

left_accept : (state : LinkState) (host : HostState) → Accept (leaves_off state host)
left_accept Idle host = tt
left_accept (Dialing d) host = tt
left_accept AwaitOther host = tt
left_accept (Up u probed) host = tt

accept_accept : (sock : ℕ) (link : Link) (host : HostState) → Accept (accepts_on sock link host)
accept_accept sock link host = (inr refl, frames_accept sock link.waits)

raised_accept : (state : LinkState) (link : Link) (host : HostState) → Accept (raised state link host)
raised_accept Idle link host = tt
raised_accept (Dialing d) link host = tt
raised_accept AwaitOther link host = tt
raised_accept (Up u probed) link host = weaker (Some u) (map (frame_step u) link.waits) (frames_accept u link.waits)

acknowledged_accept : (state : LinkState) (host : HostState) → Accept (acknowledged state host)
acknowledged_accept Idle host = tt
acknowledged_accept (Dialing d) host = tt
acknowledged_accept AwaitOther host = tt
acknowledged_accept (Up u probed) host = (inl refl, tt)

said_accept : (state : LinkState) (host : HostState) → Accept (says_closed state host)
said_accept Idle host = tt
said_accept (Dialing d) host = tt
said_accept AwaitOther host = tt
said_accept (Up u probed) host = (inl refl, tt)

dial_accept : (sock : ℕ) (link : Link) (host : HostState) → Accept (dials_for sock link host)
dial_accept sock link host = by_test (nat_lt host.dials most_dials) where
  by_test : (b : Bool) → Accept {E = Stop} (cond b (Ok (steps.Dial sock link.end link.peer ∷ [], with_socket (dialed sock link.end link.peer) (record host { dials = host.dials + 1 }))) (Err stops.Worn))
  by_test true = tt
  by_test false = tt

act_accept : (act : LinkAct) (old : LinkState) (input : LinkIn) (link : Link) (host : HostState) → Accept (does_act act old input link host)
act_accept acts.Nothing old input link host = tt
act_accept acts.Dial old input link host = dial_accept (wanted_on input) link host
act_accept acts.Accept old input link host = accept_accept (asked_on input) link host
act_accept acts.Cross old input link host = (inl refl, tt)
act_accept (acts.LeaveAndAccept own) old input link host = then_accept (leaves own host) (accepts_on (asked_on input) link) tt (λ next. accept_accept (asked_on input) link next)
act_accept (acts.CrossAndProbe up) old input link host = (inl refl, (inl refl, tt))
act_accept acts.Raise old input link host = raised_accept link.state link host
act_accept (acts.Leave own) old input link host = tt
act_accept (acts.Fail why) old input link host = then_accept (leaves_off old host) (λ left. fails_with link why (with_link (forgotten link link.state) left)) (left_accept old host) (λ next. tt)
act_accept acts.Acknowledge old input link host = acknowledged_accept link.state host
act_accept acts.Close old input link host = then_accept (says_closed old host then leaves_off old) (λ left. Ok ([], with_link (forgotten link link.state) left)) (then_accept (says_closed old host) (leaves_off old) (said_accept old host) (left_accept old)) (λ next. tt)

hears_accept : (input : LinkIn) (link : Link) (host : HostState) → Accept (hears input link host)
hears_accept input link host = let greater = is_greater (own_address host link.end) link.peer in
    act_accept (step_of link.state input greater).1 link.state input (record link { state = (step_of link.state input greater).0 }) (with_link (record link { state = (step_of link.state input greater).0 }) host)

-- ---- an item

gone_accept : (socket : Socket) (host : HostState) → Accept (is_gone socket host)
gone_accept socket host = by_user socket.user where
  by_test : (link : Link) (b : Bool) → Accept {E = Stop} (cond b (hears inputs.Gone link host) (leaves socket.number host))
  by_test link true = hears_accept inputs.Gone link host
  by_test link false = tt

  by_user : (o : Option (ℕ × Address)) → Accept {E = Stop} (elim o as (λ o. Stepped) [
    | None ↦ leaves socket.number host
    | Some user ↦ gone_from socket.number (link_with host user.0 user.1) host
  ])
  by_user None = tt
  by_user (Some user) = by_test (link_with host user.0 user.1) (names (link_with host user.0 user.1).state socket.number)

request_accept : (socket : Socket) (request : Request) (host : HostState) → Accept (reads_request socket request host)
request_accept socket request host = by_tests (is_mismatch host socket.peer_host request.target request.from) (list_any (is_open_endpoint request.target) host.ends) where
  by_tests : (a b : Bool) → Accept {E = Stop} (elim (cond a (Some answers.Mismatch) (cond b None (Some answers.Invalid))) as (λ o. Stepped) [
    | Some answer ↦ answers_and_leaves socket.number answer host
    | None ↦ asks_link socket request.target request.from host
  ])
  by_tests true b = (inl refl, tt)
  by_tests false true = hears_accept (inputs.Asked socket.number) (link_with host request.target request.from) (with_socket (record socket { user = Some (request.target, request.from) }) host)
  by_tests false false = (inl refl, tt)

frame_accept : (socket : Socket) (link : Link) (frame : Frame) (host : HostState) → Accept (reads_frame socket link frame host)
frame_accept socket link (frames.Created id) host = by_made (created_of link.created id (next_arrival host link.end)) where
  by_test : (created : List Connection) (b : Bool) → Accept {E = Stop} (cond b (posts link.end (events.ConnectionOpened (next_arrival host link.end) link.peer) (with_arrival link.end (with_link (record link { created = created }) host))) (Err stops.Worn))
  by_test created true = tt
  by_test created false = tt

  by_made : (r : Result (List Connection) LightError) → Accept (arrives socket link r host)
  by_made (Err e) = gone_accept socket host
  by_made (Ok created) = by_test created (nat_lt (arrived_at host link.end) most_arrived)
frame_accept socket link (frames.Closed id) host = by_closed (closed_of link.created id) where
  by_closed : (r : Result (ℕ × List Connection) LightError) → Accept (closes socket link r host)
  by_closed (Err e) = gone_accept socket host
  by_closed (Ok closed) = tt
frame_accept socket link (frames.Data id payload) host = by_found (conn_of link.created id) where
  by_found : (r : Result ℕ LightError) → Accept (receives socket link payload r host)
  by_found (Err e) = gone_accept socket host
  by_found (Ok conn) = tt
frame_accept socket link frames.EndClosed host = hears_accept inputs.EndClosed link host
frame_accept socket link frames.Probe host = hears_accept inputs.Probe link host
frame_accept socket link frames.ProbeAck host = hears_accept inputs.Ack link host

item_accept : (socket : Socket) (item : Item) (mid : HostState) → Accept (reads socket item mid)
item_accept socket (items.Request request) mid = request_accept socket request mid
item_accept socket (items.Answer answer) mid = by_user socket.user where
  by_user : (o : Option (ℕ × Address)) → Accept {E = Stop} (elim o as (λ o. Stepped) [
    | None ↦ Ok ([], mid)
    | Some user ↦ reads_on socket (link_with mid user.0 user.1) (items.Answer answer) mid
  ])
  by_user None = tt
  by_user (Some user) = hears_accept (inputs.Answered (heard_answer answer)) (link_with mid user.0 user.1) mid
item_accept socket (items.Frame frame) mid = by_user socket.user where
  by_user : (o : Option (ℕ × Address)) → Accept {E = Stop} (elim o as (λ o. Stepped) [
    | None ↦ Ok ([], mid)
    | Some user ↦ reads_on socket (link_with mid user.0 user.1) (items.Frame frame) mid
  ])
  by_user None = tt
  by_user (Some user) = frame_accept socket (link_with mid user.0 user.1) frame mid

handled_accept : (host : HostState) (socket : Socket) (front : Front) (size : ℕ) → Accept (handles socket (front, size) host)
handled_accept host socket Unfinished size = tt
handled_accept host socket (Refused error) size = gone_accept socket host
handled_accept host socket (Whole item) size = then_accept (Ok (steps.Read socket.number ∷ [], with_socket now host)) (reads now item) tt (λ next. item_accept now item next) where
  now : Socket
  now = record socket { since = drop size socket.since; expected = expected.Frame }

pub next_accepts : (host after : HostState) (told : List Step) → host_next host ≡ Ok (Some told, after) → AcceptsAfter None told
unfolding host_next
next_accepts host after told e = by_first (first_ready host.sockets) e where
  steps_of : Result (Option (List Step) × HostState) Stop → List Step
  steps_of (Ok next) = elim next.0 [
    | None ↦ []
    | Some steps ↦ steps
  ]
  steps_of (Err stop) = []

  some_of : Result (Option (List Step) × HostState) Stop → Option (List Step)
  some_of (Ok next) = next.0
  some_of (Err stop) = None

  by_done : (one : Stepped) → Accept one → some_steps one ≡ Ok (Some told, after) → AcceptsAfter None told
  by_done (Ok one) f e = subst (AcceptsAfter None) (ap steps_of e) f
  by_done (Err stop) f e = absurd cc

  by_first : (o : Option Socket) → (elim o as (λ o. Result (Option (List Step) × HostState) Stop) [
    | None ↦ Ok (None, host)
    | Some socket ↦ some_steps (handles socket (front_of socket) host)
  ]) ≡ Ok (Some told, after) → AcceptsAfter None told
  by_first None e = let never : None ≡ Some told = ap some_of e in absurd cc
  by_first (Some socket) e = by_done (handles socket (front_of socket) host) (handled_accept host socket (front_of socket).0 (front_of socket).1) e

-- ---- an event

on_accept : (test : Stage → Bool) (sock : ℕ) (f : Socket → HostState → Stepped) (host : HostState) → ((socket : Socket) → Accept (f socket host)) → Accept (on_socket test sock f host)
on_accept test sock f host each = by_socket (find (is_socket sock) host.sockets) where
  by_test : (socket : Socket) (b : Bool) → Accept {E = Stop} (cond b (f socket host) (Ok ([], host)))
  by_test socket true = each socket
  by_test socket false = tt

  by_socket : (o : Option Socket) → Accept {E = Stop} (elim o as (λ o. Stepped) [
    | None ↦ Ok ([], host)
    | Some socket ↦ cond (test socket.stage) (f socket host) (Ok ([], host))
  ])
  by_socket None = tt
  by_socket (Some socket) = by_test socket (test socket.stage)

join_accept : (socket : Socket) (host : HostState) → Accept (joins socket host)
join_accept socket host = by_user socket.user where
  by_user : (o : Option (ℕ × Address)) → Accept {E = Stop} (elim o as (λ o. Stepped) [
    | None ↦ Ok ([], host)
    | Some user ↦ writes socket.number (request_spelling (record { target = user.1.id; from = own_address host user.0 })) (with_socket (record socket { stage = Open }) host)
  ])
  by_user None = tt
  by_user (Some user) = (inl (no_accepting user.1.id (address_text (own_address host user.0))), tt)

event_accept : (host : HostState) (event : SocketEvent) → Accept (host_on host event)
unfolding host_on
event_accept host (sockets.Joined sock) = on_accept is_pending sock joins host (λ socket. join_accept socket host)
event_accept host (sockets.Came sock peer_host) = tt
event_accept host (sockets.Refused sock) = on_accept is_pending sock is_gone host (λ socket. gone_accept socket host)
event_accept host (sockets.Fed sock bytes) = on_accept is_open sock (keeps bytes) host (λ socket. tt)
event_accept host (sockets.Ended sock) = on_accept is_open sock is_gone host (λ socket. gone_accept socket host)
event_accept host (sockets.Lost sock) = on_accept is_open sock is_gone host (λ socket. gone_accept socket host)
event_accept host (sockets.Late end peer) = by_test (host_timer_runs host end peer) where
  by_test : (b : Bool) → Accept {E = Stop} (cond b (hears inputs.Late (link_with host end peer) host) (Ok ([], host)))
  by_test true = hears_accept inputs.Late (link_with host end peer) host
  by_test false = tt

-- ---- what an endpoint asks

done_accept : {E : Type 0} (done : Result (List Step × HostState) E) (after : HostState) (told : List Step) → Accept done → done ≡ Ok (told, after) → AcceptsAfter None told
done_accept {E = E} done after told a e = subst (λ (d : Result (List Step × HostState) E). Accept d) e a

pub on_accepts : (host after : HostState) (event : SocketEvent) (told : List Step) → host_on host event ≡ Ok (told, after) → AcceptsAfter None told
on_accepts host after event told e = done_accept (host_on host event) after told (event_accept host event) e

bind_accept : {A : Type 0} (x : Result A EndError) (f : A → Result (List Step × HostState) EndError) → ((a : A) → Accept (f a)) → Accept (x >>= f)
bind_accept (Ok a) f g = g a
bind_accept (Err e) f g = tt

stepped_accept : (done : Stepped) → Accept done → Accept (stepped done)
stepped_accept (Ok done) u = u
stepped_accept (Err stop) u = tt

put_accept : (item : Frame × Weight) (link : Link) (host : HostState) → Accept (puts item link host)
put_accept item link host = by_state link.state where
  by_state : (state : LinkState) → Accept {E = Stop} (elim state as (λ s. Stepped) [
    | Up sock probed ↦ Ok (frame_step sock item ∷ [], with_link link host)
    | _ ↦ Ok ([], with_link (record link { waits = link.waits ++ item ∷ [] }) host)
  ])
  by_state Idle = tt
  by_state (Dialing d) = tt
  by_state AwaitOther = tt
  by_state (Up u probed) = (inl (frame_plain item.0), tt)

wants_accept : (item : Frame × Weight) (link : Link) (host : HostState) → Accept (puts_and_wants item link host)
wants_accept item link host = then_accept (puts item link host) (wants link.end link.peer) (put_accept item link host) (λ next. hears_accept (inputs.Want (next_dial next)) (link_with next link.end link.peer) next)

connect_accept : (host : HostState) (end : ℕ) (peer : Address) (conn : ℕ) → Accept (host_connect host end peer conn)
unfolding host_connect
connect_accept host end peer conn = bind_accept (open_endpoint host end) _ (λ standing. bind_accept (of_ids (give_of (link_with host end peer).given conn)) _ (λ given. stepped_accept (puts_and_wants (frames.Created given.0, Free) (record (link_with host end peer) { given = given.1 }) host) (wants_accept (frames.Created given.0, Free) (record (link_with host end peer) { given = given.1 }) host)))

send_accept : (host : HostState) (end conn : ℕ) (payload : List ℕ) (weight : Weight) → Accept (host_send host end conn payload weight)
unfolding host_send
send_accept host end conn payload weight =
    bind_accept (found_or (find (carries end conn) host.links)) _ (λ link. bind_accept (short_enough payload) _ (λ short. bind_accept (has_room link weight) _ (λ roomy. bind_accept (found_or (id_of link.given conn)) _ (λ id. stepped_accept (puts_and_wants (frames.Data id short, weight) link host) (wants_accept (frames.Data id short, weight) link host)))))

close_accept : (host : HostState) (end conn : ℕ) → Accept (host_close host end conn)
unfolding host_close
close_accept host end conn = bind_accept (found_or (find (carries end conn) host.links)) _ (λ link. bind_accept (of_ids (close_of link.given conn)) _ (λ closed. stepped_accept (puts (frames.Closed closed.0, Free) (record link { given = closed.1 }) host) (put_accept (frames.Closed closed.0, Free) (record link { given = closed.1 }) host)))

pub connect_accepts : (host after : HostState) (end : ℕ) (peer : Address) (conn : ℕ) (told : List Step) → host_connect host end peer conn ≡ Ok (told, after) → AcceptsAfter None told
connect_accepts host after end peer conn told e = done_accept (host_connect host end peer conn) after told (connect_accept host end peer conn) e

pub send_accepts : (host after : HostState) (end conn : ℕ) (payload : List ℕ) (weight : Weight) (told : List Step) → host_send host end conn payload weight ≡ Ok (told, after) → AcceptsAfter None told
send_accepts host after end conn payload weight told e = done_accept (host_send host end conn payload weight) after told (send_accept host end conn payload weight) e

pub close_accepts : (host after : HostState) (end conn : ℕ) (told : List Step) → host_close host end conn ≡ Ok (told, after) → AcceptsAfter None told
close_accepts host after end conn told e = done_accept (host_close host end conn) after told (close_accept host end conn) e
