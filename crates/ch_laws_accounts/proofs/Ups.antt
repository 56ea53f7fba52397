-- A link comes up on a socket only by the item that the host reads of it: a request, or the accepting answer.
use Rattle.std.proofs.Common.{◌==◌, ◌≡◌, ◌⊎◌, inl, inr, ℕ, ◌+◌, Bool, true, false, cond, ◌&&◌, List, [], ◌∷◌, ◌++◌, drop, map, Ok, Err, refl, sym, ap, ◌∙◌, subst}
use Rattle.std.specs.Prelude.{find, nat_lt, Result, Option, Some, None}
use Rattle.ch_base.specs.declared.address.Address.{Address}
use Rattle.ch_base.specs.declared.event.Event.TheVariants as events
use Rattle.ch_base.specs.declared.memory.Stop.{Stop}
use Rattle.ch_base.specs.declared.memory.Stop.TheVariants as stops
use Rattle.ch_wire.specs.Spelling.{request_spelling}
use Rattle.ch_wire.specs.declared.answer.Answer.{Answer}
use Rattle.ch_wire.specs.declared.answer.Answer.TheVariants as answers
use Rattle.ch_wire.specs.declared.frame.Frame.{Frame}
use Rattle.ch_wire.specs.declared.frame.Frame.TheVariants as frames
use Rattle.ch_wire.specs.declared.request.Request.{Request}
use Rattle.ch_light.specs.Ids.{give_of, id_of, close_of, created_of, conn_of, closed_of}
use Rattle.ch_light.specs.declared.Connection.{Connection}
use Rattle.ch_light.specs.declared.error.LightError.{LightError}
use Rattle.ch_link.specs.Sockets.{names}
use Rattle.ch_link.specs.Table.{step_of}
use Rattle.ch_link.specs.declared.LinkAct.{LinkAct}
use Rattle.ch_link.specs.declared.LinkAct.TheVariants as acts
use Rattle.ch_link.specs.declared.LinkAnswer.TheVariants as links
use Rattle.ch_link.specs.declared.LinkIn.{LinkIn}
use Rattle.ch_link.specs.declared.LinkIn.TheVariants as inputs
use Rattle.ch_link.specs.declared.LinkState.{LinkState}
use Rattle.ch_link.specs.declared.LinkState.TheVariants.{Idle, Dialing, AwaitOther, Up}
use Rattle.ch_reader.specs.declared.item.Expected.TheVariants as expected
use Rattle.ch_reader.specs.declared.item.Front.{Front}
use Rattle.ch_reader.specs.declared.item.Front.TheVariants.{Unfinished, Whole, Refused}
use Rattle.ch_reader.specs.declared.item.Item.{Item}
use Rattle.ch_reader.specs.declared.item.Item.TheVariants as items
use Rattle.ch_model.specs.declared.step.EndError.{EndError}
use Rattle.ch_model.specs.declared.step.SocketEvent.{SocketEvent}
use Rattle.ch_model.specs.declared.step.SocketEvent.TheVariants as sockets
use Rattle.ch_model.specs.declared.step.Step.{Step}
use Rattle.ch_model.specs.declared.step.Step.TheVariants as steps
use Rattle.ch_model.specs.declared.step.Weight.{Weight}
use Rattle.ch_model.specs.declared.step.Weight.TheVariants.{Free}
use Rattle.ch_model.specs.Greater.{is_greater}
use Rattle.ch_model.specs.Host.{on_socket, joins, keeps, host_on, front_of, is_ready_front, first_ready, takes, handles, some_steps, host_next}
use Rattle.ch_model.specs.HostCalls.{◌>>=◌, stepped, of_ids, open_endpoint, wants, puts_and_wants, host_connect, carries, found_or, short_enough, has_room, host_send, host_close, shuts_links, closes_endpoint, host_close_endpoint, host_timer_runs}
use Rattle.ch_model.specs.HostItems.{posts, gone_from, is_gone, refusal_of, asks_link, reads_request, heard_answer, arrived_at, most_arrived, next_arrival, with_arrival, arrives, closes, receives, reads_frame, reads_on, reads}
use Rattle.ch_model.specs.HostLinks.{next_dial, most_dials, dialed, dials_for, wanted_on, asked_on, accepts_on, fails_with, says_closed, raised, acknowledged, does_act, hears}
use Rattle.ch_model.specs.HostState.{Link, Socket, HostState}
use Rattle.ch_model.specs.HostSteps.{Stepped, is_endpoint, after_steps, ◌then◌, is_socket, own_address, link_with, with_link, with_socket}
use Rattle.ch_model.specs.HostWrites.{writes, puts, frame_step, leaves, answers_and_leaves, forgotten, leaves_off}
use Rattle.ch_model.specs.Stages.{Stage, Pending, Open, Ended, is_pending, is_open, is_ended}
use Rattle.ch_laws_items.proofs.Next.{served}
use Rattle.ch_laws_links.specs.Naming.{IsNaming, IsDialedBy, IsUpFor}
use Rattle.ch_laws_links.proofs.Says.{used}
use Rattle.ch_laws_accounts.specs.Ups.{AllUps, raises_by, IsRaised}

-- ---- steps

ups_both : (P : ℕ → Type 0) (xs ys : List Step) → AllUps P xs → AllUps P ys → AllUps P (xs ++ ys)
ups_both P [] ys a b = b
ups_both P (steps.Up sock ∷ xs) ys a b = (a.0, ups_both P xs ys a.1 b)
ups_both P (steps.Dial sock end peer ∷ xs) ys a b = ups_both P xs ys a b
ups_both P (steps.Read sock ∷ xs) ys a b = ups_both P xs ys a b
ups_both P (steps.Write sock bytes said ∷ xs) ys a b = ups_both P xs ys a b
ups_both P (steps.Down sock ∷ xs) ys a b = ups_both P xs ys a b
ups_both P (steps.Left sock ∷ xs) ys a b = ups_both P xs ys a b
ups_both P (steps.Broke end peer why ∷ xs) ys a b = ups_both P xs ys a b
ups_both P (steps.Post end event ∷ xs) ys a b = ups_both P xs ys a b

abbrev StepUps : (ℕ → Type 0) → Stepped → Type 0
StepUps P (Ok done) = AllUps P done.0
StepUps P (Err stop) = Unit {0}

then_ups : (P : ℕ → Type 0) (done : Stepped) (f : HostState → Stepped) → StepUps P done → ((next : HostState) → StepUps P (f next)) → StepUps P (done then f)
then_ups P (Ok done) f a g = by_more (f done.1) (g done.1) where
  by_more : (more : Stepped) → StepUps P more → StepUps P (after_steps done.0 more)
  by_more (Ok more) b = ups_both P done.0 more.0 a b
  by_more (Err stop) b = tt
then_ups P (Err stop) f a g = tt

frames_ups : (P : ℕ → Type 0) (sock : ℕ) (waits : List (Frame × Weight)) → AllUps P (map (frame_step sock) waits)
frames_ups P sock [] = tt
frames_ups P sock (item ∷ waits) = frames_ups P sock waits

-- ---- a link

left_ups : (P : ℕ → Type 0) (state : LinkState) (host : HostState) → StepUps P (leaves_off state host)
left_ups P Idle host = tt
left_ups P (Dialing d) host = tt
left_ups P AwaitOther host = tt
left_ups P (Up u probed) host = tt

-- the link in this new state came up on such a socket
abbrev RaisedTo : (ℕ → Type 0) → LinkState → Type 0
RaisedTo P (Up sock probed) = P sock
RaisedTo P state = Unit {0}

abbrev ActMay : (ℕ → Type 0) → LinkAct → LinkIn → LinkState → Type 0
ActMay P acts.Accept input state = P (asked_on input)
ActMay P (acts.LeaveAndAccept own) input state = P (asked_on input)
ActMay P acts.Raise input state = RaisedTo P state
ActMay P act input state = Unit {0}

accept_ups : (P : ℕ → Type 0) (sock : ℕ) (link : Link) (host : HostState) → P sock → StepUps P (accepts_on sock link host)
accept_ups P sock link host p = (p, frames_ups P sock link.waits)

raised_ups : (P : ℕ → Type 0) (state : LinkState) (link : Link) (host : HostState) → RaisedTo P state → StepUps P (raised state link host)
raised_ups P Idle link host r = tt
raised_ups P (Dialing d) link host r = tt
raised_ups P AwaitOther link host r = tt
raised_ups P (Up u probed) link host r = (r, frames_ups P u link.waits)

acknowledged_ups : (P : ℕ → Type 0) (state : LinkState) (host : HostState) → StepUps P (acknowledged state host)
acknowledged_ups P Idle host = tt
acknowledged_ups P (Dialing d) host = tt
acknowledged_ups P AwaitOther host = tt
acknowledged_ups P (Up u probed) host = tt

said_ups : (P : ℕ → Type 0) (state : LinkState) (host : HostState) → StepUps P (says_closed state host)
said_ups P Idle host = tt
said_ups P (Dialing d) host = tt
said_ups P AwaitOther host = tt
said_ups P (Up u probed) host = tt

dial_ups : (P : ℕ → Type 0) (sock : ℕ) (link : Link) (host : HostState) → StepUps P (dials_for sock link host)
dial_ups P sock link host = by_test (nat_lt host.dials most_dials) where
  by_test : (b : Bool) → StepUps P (cond b (Ok (steps.Dial sock link.end link.peer ∷ [], with_socket (dialed sock link.end link.peer) (record host { dials = host.dials + 1 }))) (Err stops.Worn))
  by_test true = tt
  by_test false = tt

act_ups : (P : ℕ → Type 0) (act : LinkAct) (old : LinkState) (input : LinkIn) (link : Link) (host : HostState) → ActMay P act input link.state → StepUps P (does_act act old input link host)
act_ups P acts.Nothing old input link host m = tt
act_ups P acts.Dial old input link host m = dial_ups P (wanted_on input) link host
act_ups P acts.Accept old input link host m = accept_ups P (asked_on input) link host m
act_ups P acts.Cross old input link host m = tt
act_ups P (acts.LeaveAndAccept own) old input link host m = then_ups P (leaves own host) (accepts_on (asked_on input) link) tt (λ next. accept_ups P (asked_on input) link next m)
act_ups P (acts.CrossAndProbe up) old input link host m = tt
act_ups P acts.Raise old input link host m = raised_ups P link.state link host m
act_ups P (acts.Leave own) old input link host m = tt
act_ups P (acts.Fail why) old input link host m = then_ups P (leaves_off old host) (λ left. fails_with link why (with_link (forgotten link link.state) left)) (left_ups P old host) (λ next. tt)
act_ups P acts.Acknowledge old input link host m = acknowledged_ups P link.state host
act_ups P acts.Close old input link host m = then_ups P (says_closed old host then leaves_off old) (λ left. Ok ([], with_link (forgotten link link.state) left)) (then_ups P (says_closed old host) (leaves_off old) (said_ups P old host) (left_ups P old)) (λ next. tt)

-- an input that may raise the link in this state does so on such a socket
abbrev MayRaise : (ℕ → Type 0) → LinkIn → LinkState → Type 0
MayRaise P (inputs.Asked s) state = P s
MayRaise P (inputs.Answered links.Accepted) (Dialing d) = P d
MayRaise P input state = Unit {0}

table_may : (P : ℕ → Type 0) (state : LinkState) (input : LinkIn) (greater : Bool) → MayRaise P input state → ActMay P (step_of state input greater).1 input (step_of state input greater).0
unfolding step_of
table_may P Idle (inputs.Asked s) greater m = m
table_may P AwaitOther (inputs.Asked s) greater m = m
table_may P (Dialing d) (inputs.Asked s) true m = tt
table_may P (Dialing d) (inputs.Asked s) false m = m
table_may P (Up u true) (inputs.Asked s) greater m = tt
table_may P (Up u false) (inputs.Asked s) greater m = tt
table_may P (Dialing d) (inputs.Answered links.Accepted) greater m = m
table_may P (Up u true) inputs.Late greater m = tt
table_may P (Up u false) inputs.Late greater m = tt
table_may P state input greater m = tt

hears_ups : (P : ℕ → Type 0) (input : LinkIn) (link : Link) (host : HostState) → MayRaise P input link.state → StepUps P (hears input link host)
hears_ups P input link host m = let greater = is_greater (own_address host link.end) link.peer in
    act_ups P (step_of link.state input greater).1 link.state input (record link { state = (step_of link.state input greater).0 }) (with_link (record link { state = (step_of link.state input greater).0 }) host) (table_may P link.state input greater m)

-- ---- an item

gone_ups : (P : ℕ → Type 0) (socket : Socket) (host : HostState) → StepUps P (is_gone socket host)
gone_ups P socket host = by_user socket.user where
  by_test : (link : Link) (b : Bool) → StepUps P (cond b (hears inputs.Gone link host) (leaves socket.number host))
  by_test link true = hears_ups P inputs.Gone link host tt
  by_test link false = tt

  by_user : (o : Option (ℕ × Address)) → StepUps P (elim o as (λ o. Stepped) [
    | None ↦ leaves socket.number host
    | Some user ↦ gone_from socket.number (link_with host user.0 user.1) host
  ])
  by_user None = tt
  by_user (Some user) = by_test (link_with host user.0 user.1) (names (link_with host user.0 user.1).state socket.number)

request_ups : (P : ℕ → Type 0) (socket : Socket) (request : Request) (host : HostState) → P socket.number → StepUps P (reads_request socket request host)
request_ups P socket request host p = by_answer (refusal_of host socket request.target request.from) where
  by_answer : (o : Option Answer) → StepUps P (elim o as (λ o. Stepped) [
    | Some answer ↦ answers_and_leaves socket.number answer host
    | None ↦ asks_link socket request.target request.from host
  ])
  by_answer (Some answer) = tt
  by_answer None = hears_ups P (inputs.Asked socket.number) (link_with host request.target request.from) (with_socket (record socket { user = Some (request.target, request.from) }) host) p

frame_ups : (P : ℕ → Type 0) (socket : Socket) (link : Link) (frame : Frame) (host : HostState) → StepUps P (reads_frame socket link frame host)
frame_ups P socket link (frames.Created id) host = by_made (created_of link.created id (next_arrival host link.end)) where
  by_test : (created : List Connection) (b : Bool) → StepUps P (cond b (posts link.end (events.ConnectionOpened (next_arrival host link.end) link.peer) (with_arrival link.end (with_link (record link { created = created }) host))) (Err stops.Worn))
  by_test created true = tt
  by_test created false = tt

  by_made : (r : Result (List Connection) LightError) → StepUps P (arrives socket link r host)
  by_made (Err e) = gone_ups P socket host
  by_made (Ok created) = by_test created (nat_lt (arrived_at host link.end) most_arrived)
frame_ups P socket link (frames.Closed id) host = by_closed (closed_of link.created id) where
  by_closed : (r : Result (ℕ × List Connection) LightError) → StepUps P (closes socket link r host)
  by_closed (Err e) = gone_ups P socket host
  by_closed (Ok closed) = tt
frame_ups P socket link (frames.Data id payload) host = by_found (conn_of link.created id) where
  by_found : (r : Result ℕ LightError) → StepUps P (receives socket link payload r host)
  by_found (Err e) = gone_ups P socket host
  by_found (Ok conn) = tt
frame_ups P socket link frames.EndClosed host = hears_ups P inputs.EndClosed link host tt
frame_ups P socket link frames.Probe host = hears_ups P inputs.Probe link host tt
frame_ups P socket link frames.ProbeAck host = hears_ups P inputs.Ack link host tt

answer_ups : (P : ℕ → Type 0) (answer : Answer) (link : Link) (host : HostState) → ((d : ℕ) → answer ≡ answers.Accepted → link.state ≡ Dialing d → P d) → StepUps P (hears (inputs.Answered (heard_answer answer)) link host)
answer_ups P answers.Accepted link host may = hears_ups P (inputs.Answered links.Accepted) link host (by_state link.state may) where
  by_state : (state : LinkState) → ((d : ℕ) → answers.Accepted ≡ answers.Accepted → state ≡ Dialing d → P d) → MayRaise P (inputs.Answered links.Accepted) state
  by_state Idle may = tt
  by_state (Dialing d) may = may d refl refl
  by_state AwaitOther may = tt
  by_state (Up u probed) may = tt
answer_ups P answers.Invalid link host may = hears_ups P (inputs.Answered links.Invalid) link host tt
answer_ups P answers.Crossed link host may = hears_ups P (inputs.Answered links.Crossed) link host tt
answer_ups P answers.Mismatch link host may = hears_ups P (inputs.Answered links.Mismatch) link host tt

-- ---- what stands at the front

-- a socket that is served: open, with this at its front
record IsFound (socket : Socket) (host : HostState) : Type 0 where
  found : find (is_socket socket.number) host.sockets ≡ Some socket
  stands : socket.stage ≡ Open

not_ended : (stage : Stage) → stage ≡ Open → is_ended stage ≡ false
not_ended stage e = ap is_ended e

-- the link of its user dials it, where it dials any
dials_it : (host : HostState) (socket : Socket) → IsNaming host → IsFound socket host → (user : ℕ × Address) → socket.user ≡ Some user → (d : ℕ) → (link_with host user.0 user.1).state ≡ Dialing d → socket.number ≡ d
dials_it host socket s f user u d e = by_used (used host user.0 user.1 socket.number socket s f.found u (not_ended socket.stage f.stands)) where
  by_used : (((link_with host user.0 user.1).state ≡ Dialing socket.number) × IsDialedBy user.0 user.1 socket) ⊎ ((probed : Bool) × ((link_with host user.0 user.1).state ≡ Up socket.number probed) × IsUpFor user.0 user.1 socket) → socket.number ≡ d
  by_used (inl x) = let same : Dialing socket.number ≡ Dialing d = sym x.0 ∙ e in cc
  by_used (inr x) = let same : Up socket.number x.0 ≡ Dialing d = sym x.1 ∙ e in absurd cc

read_first : (P : ℕ → Type 0) (n : ℕ) (mid : HostState) (f : HostState → Stepped) → StepUps P (f mid) → StepUps P (Ok (steps.Read n ∷ [], mid) then f)
read_first P n mid f b = by_more (f mid) b where
  by_more : (more : Stepped) → StepUps P more → StepUps P (after_steps (steps.Read n ∷ []) more)
  by_more (Ok more) b = b
  by_more (Err stop) b = tt

item_ups : (host : HostState) (socket : Socket) (rest : List ℕ) (item : Item) → IsNaming host → IsFound socket host → (front_of socket).0 ≡ Whole item → StepUps (IsRaised host) (takes (record socket { since = rest; expected = expected.Frame }) item host)
item_ups host socket rest item s f front = read_first (IsRaised host) socket.number mid (reads now item) (by_item item front) where
  now : Socket
  now = record socket { since = rest; expected = expected.Frame }

  mid : HostState
  mid = with_socket now host

  by_answer : (answer : Answer) → (front_of socket).0 ≡ Whole (items.Answer answer) → (o : Option (ℕ × Address)) → socket.user ≡ o → StepUps (IsRaised host) (elim o as (λ o. Stepped) [
    | None ↦ Ok ([], mid)
    | Some user ↦ reads_on now (link_with mid user.0 user.1) (items.Answer answer) mid
  ])
  by_answer answer front None u = tt
  by_answer answer front (Some user) u = answer_ups (IsRaised host) answer (link_with mid user.0 user.1) mid
      (λ d accepted state. subst (IsRaised host) (dials_it host socket s f user u d state) (socket, f.found, ap raises_by front ∙ ap (λ (x : Answer). raises_by (Whole (items.Answer x))) accepted))

  by_frame : (frame : Frame) (o : Option (ℕ × Address)) → StepUps (IsRaised host) (elim o as (λ o. Stepped) [
    | None ↦ Ok ([], mid)
    | Some user ↦ reads_on now (link_with mid user.0 user.1) (items.Frame frame) mid
  ])
  by_frame frame None = tt
  by_frame frame (Some user) = frame_ups (IsRaised host) now (link_with mid user.0 user.1) frame mid

  by_item : (item : Item) → (front_of socket).0 ≡ Whole item → StepUps (IsRaised host) (reads now item mid)
  by_item (items.Request request) front = request_ups (IsRaised host) now request mid (socket, f.found, ap raises_by front)
  by_item (items.Answer answer) front = by_answer answer front socket.user refl
  by_item (items.Frame frame) front = by_frame frame socket.user

handled_ups : (host : HostState) (socket : Socket) → IsNaming host → IsFound socket host → StepUps (IsRaised host) (handles socket (front_of socket) host)
handled_ups host socket s f = by_front (front_of socket).0 refl where
  by_front : (x : Front) → (front_of socket).0 ≡ x → StepUps (IsRaised host) (handles socket (x, (front_of socket).1) host)
  by_front Unfinished e = tt
  by_front (Refused error) e = gone_ups (IsRaised host) socket host
  by_front (Whole item) e = item_ups host socket (drop (front_of socket).1 socket.since) item s f e

pub next_ups : (host after : HostState) (told : List Step) → IsNaming host → host_next host ≡ Ok (Some told, after) → AllUps (IsRaised host) told
unfolding host_next
next_ups host after told s e = by_first (first_ready host.sockets) refl e where
  steps_in : Result (Option (List Step) × HostState) Stop → List Step
  steps_in (Ok next) = elim next.0 [
    | None ↦ []
    | Some steps ↦ steps
  ]
  steps_in (Err stop) = []

  some_in : Result (Option (List Step) × HostState) Stop → Option (List Step)
  some_in (Ok next) = next.0
  some_in (Err stop) = None

  by_done : (one : Stepped) → StepUps (IsRaised host) one → some_steps one ≡ Ok (Some told, after) → AllUps (IsRaised host) told
  by_done (Ok one) f e = subst (AllUps (IsRaised host)) (ap steps_in e) f
  by_done (Err stop) f e = absurd cc

  open_front : (stage : Stage) (b : Bool) → (is_open stage && b) ≡ true → stage ≡ Open
  open_front Open b e = refl
  open_front Pending b e = absurd cc
  open_front Ended b e = absurd cc

  by_first : (o : Option Socket) → first_ready host.sockets ≡ o → (elim o as (λ o. Result (Option (List Step) × HostState) Stop) [
    | None ↦ Ok (None, host)
    | Some socket ↦ some_steps (handles socket (front_of socket) host)
  ]) ≡ Ok (Some told, after) → AllUps (IsRaised host) told
  by_first None f e = let never : None ≡ Some told = ap some_in e in absurd cc
  by_first (Some socket) f e = let at = served host.sockets socket s.sockets f in
      by_done (handles socket (front_of socket) host) (handled_ups host socket s (record { found = at.found; stands = open_front socket.stage (is_ready_front (front_of socket).0) at.ready })) e

-- ---- what else a host does raises none

told_ups : (P : ℕ → Type 0) (done : Stepped) (after : HostState) (told : List Step) → StepUps P done → done ≡ Ok (told, after) → AllUps P told
told_ups P done after told u e = subst (StepUps P) e u

on_ups : (P : ℕ → Type 0) (test : Stage → Bool) (sock : ℕ) (f : Socket → HostState → Stepped) (host : HostState) → ((socket : Socket) → StepUps P (f socket host)) → StepUps P (on_socket test sock f host)
on_ups P test sock f host each = by_socket (find (is_socket sock) host.sockets) where
  by_test : (socket : Socket) (b : Bool) → StepUps P (cond b (f socket host) (Ok ([], host)))
  by_test socket true = each socket
  by_test socket false = tt

  by_socket : (o : Option Socket) → StepUps P (elim o as (λ o. Stepped) [
    | None ↦ Ok ([], host)
    | Some socket ↦ cond (test socket.stage) (f socket host) (Ok ([], host))
  ])
  by_socket None = tt
  by_socket (Some socket) = by_test socket (test socket.stage)

join_ups : (P : ℕ → Type 0) (socket : Socket) (host : HostState) → StepUps P (joins socket host)
join_ups P socket host = by_user socket.user where
  by_user : (o : Option (ℕ × Address)) → StepUps P (elim o as (λ o. Stepped) [
    | None ↦ Ok ([], host)
    | Some user ↦ writes socket.number (request_spelling (record { target = user.1.id; from = own_address host user.0 })) (with_socket (record socket { stage = Open }) host)
  ])
  by_user None = tt
  by_user (Some user) = tt

event_ups : (P : ℕ → Type 0) (host : HostState) (event : SocketEvent) → StepUps P (host_on host event)
unfolding host_on
event_ups P host (sockets.Joined sock) = on_ups P is_pending sock joins host (λ socket. join_ups P socket host)
event_ups P host (sockets.Came sock peer_host) = tt
event_ups P host (sockets.Refused sock) = on_ups P is_pending sock is_gone host (λ socket. gone_ups P socket host)
event_ups P host (sockets.Fed sock bytes) = on_ups P is_open sock (keeps bytes) host (λ socket. tt)
event_ups P host (sockets.Ended sock) = on_ups P is_open sock is_gone host (λ socket. gone_ups P socket host)
event_ups P host (sockets.Lost sock) = on_ups P is_open sock is_gone host (λ socket. gone_ups P socket host)
event_ups P host (sockets.Late end peer) = by_test (host_timer_runs host end peer) where
  by_test : (b : Bool) → StepUps P (cond b (hears inputs.Late (link_with host end peer) host) (Ok ([], host)))
  by_test true = hears_ups P inputs.Late (link_with host end peer) host tt
  by_test false = tt

pub on_raises_none : (host after : HostState) (event : SocketEvent) (told : List Step) → host_on host event ≡ Ok (told, after) → AllUps (λ n. ⊥) told
on_raises_none host after event told e = told_ups (λ n. ⊥) (host_on host event) after told (event_ups (λ n. ⊥) host event) e

-- ---- what an endpoint asks

abbrev EndUps : (ℕ → Type 0) → Result (List Step × HostState) EndError → Type 0
EndUps P (Ok done) = AllUps P done.0
EndUps P (Err e) = Unit {0}

bind_ups : {A : Type 0} (P : ℕ → Type 0) (x : Result A EndError) (f : A → Result (List Step × HostState) EndError) → ((a : A) → EndUps P (f a)) → EndUps P (x >>= f)
bind_ups P (Ok a) f g = g a
bind_ups P (Err e) f g = tt

stepped_ups : (P : ℕ → Type 0) (done : Stepped) → StepUps P done → EndUps P (stepped done)
stepped_ups P (Ok done) u = u
stepped_ups P (Err stop) u = tt

put_ups : (P : ℕ → Type 0) (item : Frame × Weight) (link : Link) (host : HostState) → StepUps P (puts item link host)
put_ups P item link host = by_state link.state where
  by_state : (state : LinkState) → StepUps P (elim state as (λ s. Stepped) [
    | Up sock probed ↦ Ok (frame_step sock item ∷ [], with_link link host)
    | _ ↦ Ok ([], with_link (record link { waits = link.waits ++ item ∷ [] }) host)
  ])
  by_state Idle = tt
  by_state (Dialing d) = tt
  by_state AwaitOther = tt
  by_state (Up u probed) = tt

wants_ups : (P : ℕ → Type 0) (item : Frame × Weight) (link : Link) (host : HostState) → StepUps P (puts_and_wants item link host)
wants_ups P item link host = then_ups P (puts item link host) (wants link.end link.peer) (put_ups P item link host) (λ next. hears_ups P (inputs.Want (next_dial next)) (link_with next link.end link.peer) next tt)

done_ups : (P : ℕ → Type 0) (done : Result (List Step × HostState) EndError) (after : HostState) (told : List Step) → EndUps P done → done ≡ Ok (told, after) → AllUps P told
done_ups P done after told u e = subst (EndUps P) e u

connect_ups : (P : ℕ → Type 0) (host : HostState) (end : ℕ) (peer : Address) (conn : ℕ) → EndUps P (host_connect host end peer conn)
unfolding host_connect
connect_ups P host end peer conn = bind_ups P (open_endpoint host end) _ (λ standing. bind_ups P (of_ids (give_of (link_with host end peer).given conn)) _ (λ given. stepped_ups P (puts_and_wants (frames.Created given.0, Free) (record (link_with host end peer) { given = given.1 }) host) (wants_ups P (frames.Created given.0, Free) (record (link_with host end peer) { given = given.1 }) host)))

send_ups : (P : ℕ → Type 0) (host : HostState) (end conn : ℕ) (payload : List ℕ) (weight : Weight) → EndUps P (host_send host end conn payload weight)
unfolding host_send
send_ups P host end conn payload weight =
    bind_ups P (found_or (find (carries end conn) host.links)) _ (λ link. bind_ups P (short_enough payload) _ (λ short. bind_ups P (has_room link weight) _ (λ roomy. bind_ups P (found_or (id_of link.given conn)) _ (λ id. stepped_ups P (puts_and_wants (frames.Data id short, weight) link host) (wants_ups P (frames.Data id short, weight) link host)))))

close_ups : (P : ℕ → Type 0) (host : HostState) (end conn : ℕ) → EndUps P (host_close host end conn)
unfolding host_close
close_ups P host end conn = bind_ups P (found_or (find (carries end conn) host.links)) _ (λ link. bind_ups P (of_ids (close_of link.given conn)) _ (λ closed. stepped_ups P (puts (frames.Closed closed.0, Free) (record link { given = closed.1 }) host) (put_ups P (frames.Closed closed.0, Free) (record link { given = closed.1 }) host)))

shut_ups : (P : ℕ → Type 0) (end : ℕ) (all : List Link) (host : HostState) → StepUps P (shuts_links end all host)
shut_ups P end [] host = tt
shut_ups P end (link ∷ rest) host = by_test (link.end == end) (shut_ups P end rest) where
  by_test : (b : Bool) → ((next : HostState) → StepUps P (shuts_links end rest next)) → StepUps P (cond b (hears inputs.Shut (link_with host end link.peer) host) (Ok ([], host)) then shuts_links end rest)
  by_test true k = then_ups P (hears inputs.Shut (link_with host end link.peer) host) (shuts_links end rest) (hears_ups P inputs.Shut (link_with host end link.peer) host tt) k
  by_test false k = then_ups P (Ok ([], host)) (shuts_links end rest) tt k

close_endpoint_ups : (P : ℕ → Type 0) (host : HostState) (end : ℕ) → EndUps P (host_close_endpoint host end)
unfolding host_close_endpoint
close_endpoint_ups P host end = bind_ups P (open_endpoint host end) _ (λ standing. stepped_ups P (shuts_links end host.links host then (λ shut. posts end events.EndPointClosed (closes_endpoint (find (is_endpoint end) shut.ends) shut))) (then_ups P (shuts_links end host.links host) (λ shut. posts end events.EndPointClosed (closes_endpoint (find (is_endpoint end) shut.ends) shut)) (shut_ups P end host.links host) (λ next. tt)))

pub connect_raises_none : (host after : HostState) (end : ℕ) (peer : Address) (conn : ℕ) (told : List Step) → host_connect host end peer conn ≡ Ok (told, after) → AllUps (λ n. ⊥) told
connect_raises_none host after end peer conn told e = done_ups (λ n. ⊥) (host_connect host end peer conn) after told (connect_ups (λ n. ⊥) host end peer conn) e

pub send_raises_none : (host after : HostState) (end conn : ℕ) (payload : List ℕ) (weight : Weight) (told : List Step) → host_send host end conn payload weight ≡ Ok (told, after) → AllUps (λ n. ⊥) told
send_raises_none host after end conn payload weight told e = done_ups (λ n. ⊥) (host_send host end conn payload weight) after told (send_ups (λ n. ⊥) host end conn payload weight) e

pub close_raises_none : (host after : HostState) (end conn : ℕ) (told : List Step) → host_close host end conn ≡ Ok (told, after) → AllUps (λ n. ⊥) told
close_raises_none host after end conn told e = done_ups (λ n. ⊥) (host_close host end conn) after told (close_ups (λ n. ⊥) host end conn) e

pub close_endpoint_raises_none : (host after : HostState) (end : ℕ) (told : List Step) → host_close_endpoint host end ≡ Ok (told, after) → AllUps (λ n. ⊥) told
close_endpoint_raises_none host after end told e = done_ups (λ n. ⊥) (host_close_endpoint host end) after told (close_endpoint_ups (λ n. ⊥) host end) e
