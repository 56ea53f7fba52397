-- A link comes up by the accepting answer, or by a request, and then that it is accepted is written next.
use Rattle.std.proofs.Common.{◌≡◌, ◌⊎◌, inl, inr, ℕ, ◌+◌, Bool, true, false, cond, ◌&&◌, List, [], ◌∷◌, ◌++◌, drop, map, Ok, Err, refl, sym, ap, ◌∙◌, subst}
use Rattle.std.specs.Prelude.{find, nat_lt, Result, Option, Some, None}
use Rattle.ch_base.specs.declared.address.Address.{Address}
use Rattle.ch_base.specs.declared.event.Event.TheVariants as events
use Rattle.ch_base.specs.declared.memory.Stop.{Stop}
use Rattle.ch_base.specs.declared.memory.Stop.TheVariants as stops
use Rattle.ch_wire.specs.declared.answer.Answer.{Answer}
use Rattle.ch_wire.specs.declared.answer.Answer.TheVariants as answers
use Rattle.ch_wire.specs.declared.frame.Frame.{Frame}
use Rattle.ch_wire.specs.declared.frame.Frame.TheVariants as frames
use Rattle.ch_wire.specs.declared.request.Request.{Request}
use Rattle.ch_light.specs.Ids.{created_of, conn_of, closed_of}
use Rattle.ch_light.specs.declared.Connection.{Connection}
use Rattle.ch_light.specs.declared.error.LightError.{LightError}
use Rattle.ch_link.specs.Sockets.{names}
use Rattle.ch_link.specs.Table.{step_of}
use Rattle.ch_link.specs.declared.LinkAct.{LinkAct}
use Rattle.ch_link.specs.declared.LinkAct.TheVariants as acts
use Rattle.ch_link.specs.declared.LinkAnswer.TheVariants as links
use Rattle.ch_link.specs.declared.LinkIn.{LinkIn}
use Rattle.ch_link.specs.declared.LinkIn.TheVariants as inputs
use Rattle.ch_link.specs.declared.LinkState.{LinkState}
use Rattle.ch_link.specs.declared.LinkState.TheVariants.{Idle, Dialing, AwaitOther, Up}
use Rattle.ch_reader.specs.declared.item.Expected.TheVariants as expected
use Rattle.ch_reader.specs.declared.item.Front.{Front}
use Rattle.ch_reader.specs.declared.item.Front.TheVariants.{Unfinished, Whole, Refused}
use Rattle.ch_reader.specs.declared.item.Item.{Item}
use Rattle.ch_reader.specs.declared.item.Item.TheVariants as items
use Rattle.ch_model.specs.declared.step.Step.{Step}
use Rattle.ch_model.specs.declared.step.Step.TheVariants as steps
use Rattle.ch_model.specs.declared.step.Weight.{Weight}
use Rattle.ch_model.specs.Greater.{is_greater}
use Rattle.ch_model.specs.Host.{front_of, is_ready_front, first_ready, takes, handles, some_steps, host_next}
use Rattle.ch_model.specs.HostItems.{posts, gone_from, is_gone, refusal_of, asks_link, reads_request, heard_answer, arrived_at, most_arrived, next_arrival, with_arrival, arrives, closes, receives, reads_frame, reads_on, reads}
use Rattle.ch_model.specs.HostLinks.{most_dials, dialed, dials_for, wanted_on, asked_on, accepts_on, fails_with, says_closed, raised, acknowledged, does_act, hears}
use Rattle.ch_model.specs.HostState.{Link, Socket, HostState}
use Rattle.ch_model.specs.HostSteps.{Stepped, after_steps, ◌then◌, is_socket, own_address, link_with, with_link, with_socket}
use Rattle.ch_model.specs.HostWrites.{frame_step, leaves, answers_and_leaves, forgotten, leaves_off}
use Rattle.ch_model.specs.Stages.{Stage, Pending, Open, Ended, is_open, is_ended}
use Rattle.ch_laws_items.proofs.Next.{served}
use Rattle.ch_laws_links.specs.Naming.{IsNaming, IsDialedBy, IsUpFor}
use Rattle.ch_laws_links.proofs.Says.{used}
use Rattle.ch_laws_risen.specs.Risings.{EachUp, AcceptsOn, IsAnswered, RisesSo}

-- ---- steps

-- it comes up on one of these sockets, or that it accepts is written next
abbrev Answers : (ℕ → Type 0) → ℕ → List Step → Type 0
Answers B n rest = B n ⊎ AcceptsOn n rest

accepts_more : (n : ℕ) (rest more : List Step) → AcceptsOn n rest → AcceptsOn n (rest ++ more)
accepts_more n [] more a = absurd a
accepts_more n (steps.Write sock bytes said ∷ rest) more a = a
accepts_more n (steps.Dial sock end peer ∷ rest) more a = absurd a
accepts_more n (steps.Read sock ∷ rest) more a = absurd a
accepts_more n (steps.Up sock ∷ rest) more a = absurd a
accepts_more n (steps.Down sock ∷ rest) more a = absurd a
accepts_more n (steps.Left sock ∷ rest) more a = absurd a
accepts_more n (steps.Broke end peer why ∷ rest) more a = absurd a
accepts_more n (steps.Post end event ∷ rest) more a = absurd a

answers_more : (B : ℕ → Type 0) (n : ℕ) (rest more : List Step) → Answers B n rest → Answers B n (rest ++ more)
answers_more B n rest more (inl b) = inl b
answers_more B n rest more (inr a) = inr (accepts_more n rest more a)

both_rise : (B : ℕ → Type 0) (xs ys : List Step) → EachUp (Answers B) xs → EachUp (Answers B) ys → EachUp (Answers B) (xs ++ ys)
both_rise B [] ys a b = b
both_rise B (steps.Up sock ∷ xs) ys a b = (answers_more B sock xs ys a.0, both_rise B xs ys a.1 b)
both_rise B (steps.Dial sock end peer ∷ xs) ys a b = both_rise B xs ys a b
both_rise B (steps.Read sock ∷ xs) ys a b = both_rise B xs ys a b
both_rise B (steps.Write sock bytes said ∷ xs) ys a b = both_rise B xs ys a b
both_rise B (steps.Down sock ∷ xs) ys a b = both_rise B xs ys a b
both_rise B (steps.Left sock ∷ xs) ys a b = both_rise B xs ys a b
both_rise B (steps.Broke end peer why ∷ xs) ys a b = both_rise B xs ys a b
both_rise B (steps.Post end event ∷ xs) ys a b = both_rise B xs ys a b

abbrev Rise : (ℕ → Type 0) → Stepped → Type 0
Rise B (Ok done) = EachUp (Answers B) done.0
Rise B (Err stop) = Unit {0}

then_rise : (B : ℕ → Type 0) (done : Stepped) (f : HostState → Stepped) → Rise B done → ((next : HostState) → Rise B (f next)) → Rise B (done then f)
then_rise B (Ok done) f a g = by_more (f done.1) (g done.1) where
  by_more : (more : Stepped) → Rise B more → Rise B (after_steps done.0 more)
  by_more (Ok more) b = both_rise B done.0 more.0 a b
  by_more (Err stop) b = tt
then_rise B (Err stop) f a g = tt

frames_rise : (B : ℕ → Type 0) (sock : ℕ) (waits : List (Frame × Weight)) → EachUp (Answers B) (map (frame_step sock) waits)
frames_rise B sock [] = tt
frames_rise B sock (item ∷ waits) = frames_rise B sock waits

-- ---- a link

left_rise : (B : ℕ → Type 0) (state : LinkState) (host : HostState) → Rise B (leaves_off state host)
left_rise B Idle host = tt
left_rise B (Dialing d) host = tt
left_rise B AwaitOther host = tt
left_rise B (Up u probed) host = tt

-- the link in this new state came up on such a socket
abbrev RaisedTo : (ℕ → Type 0) → LinkState → Type 0
RaisedTo B (Up sock probed) = B sock
RaisedTo B state = Unit {0}

abbrev ActMay : (ℕ → Type 0) → LinkAct → LinkState → Type 0
ActMay B acts.Raise state = RaisedTo B state
ActMay B act state = Unit {0}

accept_rise : (B : ℕ → Type 0) (sock : ℕ) (link : Link) (host : HostState) → Rise B (accepts_on sock link host)
accept_rise B sock link host = (inr (refl, refl), frames_rise B sock link.waits)

raised_rise : (B : ℕ → Type 0) (state : LinkState) (link : Link) (host : HostState) → RaisedTo B state → Rise B (raised state link host)
raised_rise B Idle link host r = tt
raised_rise B (Dialing d) link host r = tt
raised_rise B AwaitOther link host r = tt
raised_rise B (Up u probed) link host r = (inl r, frames_rise B u link.waits)

acknowledged_rise : (B : ℕ → Type 0) (state : LinkState) (host : HostState) → Rise B (acknowledged state host)
acknowledged_rise B Idle host = tt
acknowledged_rise B (Dialing d) host = tt
acknowledged_rise B AwaitOther host = tt
acknowledged_rise B (Up u probed) host = tt

said_rise : (B : ℕ → Type 0) (state : LinkState) (host : HostState) → Rise B (says_closed state host)
said_rise B Idle host = tt
said_rise B (Dialing d) host = tt
said_rise B AwaitOther host = tt
said_rise B (Up u probed) host = tt

dial_rise : (B : ℕ → Type 0) (sock : ℕ) (link : Link) (host : HostState) → Rise B (dials_for sock link host)
dial_rise B sock link host = by_test (nat_lt host.dials most_dials) where
  by_test : (b : Bool) → Rise B (cond b (Ok (steps.Dial sock link.end link.peer ∷ [], with_socket (dialed sock link.end link.peer) (record host { dials = host.dials + 1 }))) (Err stops.Worn))
  by_test true = tt
  by_test false = tt

act_rise : (B : ℕ → Type 0) (act : LinkAct) (old : LinkState) (input : LinkIn) (link : Link) (host : HostState) → ActMay B act link.state → Rise B (does_act act old input link host)
act_rise B acts.Nothing old input link host m = tt
act_rise B acts.Dial old input link host m = dial_rise B (wanted_on input) link host
act_rise B acts.Accept old input link host m = accept_rise B (asked_on input) link host
act_rise B acts.Cross old input link host m = tt
act_rise B (acts.LeaveAndAccept own) old input link host m = then_rise B (leaves own host) (accepts_on (asked_on input) link) tt (λ next. accept_rise B (asked_on input) link next)
act_rise B (acts.CrossAndProbe up) old input link host m = tt
act_rise B acts.Raise old input link host m = raised_rise B link.state link host m
act_rise B (acts.Leave own) old input link host m = tt
act_rise B (acts.Fail why) old input link host m = then_rise B (leaves_off old host) (λ left. fails_with link why (with_link (forgotten link link.state) left)) (left_rise B old host) (λ next. tt)
act_rise B acts.Acknowledge old input link host m = acknowledged_rise B link.state host
act_rise B acts.Close old input link host m = then_rise B (says_closed old host then leaves_off old) (λ left. Ok ([], with_link (forgotten link link.state) left)) (then_rise B (says_closed old host) (leaves_off old) (said_rise B old host) (left_rise B old)) (λ next. tt)

-- an input that may raise the link in this state does so on such a socket
abbrev MayRaise : (ℕ → Type 0) → LinkIn → LinkState → Type 0
MayRaise B (inputs.Answered links.Accepted) (Dialing d) = B d
MayRaise B input state = Unit {0}

table_may : (B : ℕ → Type 0) (state : LinkState) (input : LinkIn) (greater : Bool) → MayRaise B input state → ActMay B (step_of state input greater).1 (step_of state input greater).0
unfolding step_of
table_may B Idle (inputs.Asked s) greater m = tt
table_may B AwaitOther (inputs.Asked s) greater m = tt
table_may B (Dialing d) (inputs.Asked s) true m = tt
table_may B (Dialing d) (inputs.Asked s) false m = tt
table_may B (Up u true) (inputs.Asked s) greater m = tt
table_may B (Up u false) (inputs.Asked s) greater m = tt
table_may B (Dialing d) (inputs.Answered links.Accepted) greater m = m
table_may B (Up u true) inputs.Late greater m = tt
table_may B (Up u false) inputs.Late greater m = tt
table_may B state input greater m = tt

hears_rise : (B : ℕ → Type 0) (input : LinkIn) (link : Link) (host : HostState) → MayRaise B input link.state → Rise B (hears input link host)
hears_rise B input link host m = let greater = is_greater (own_address host link.end) link.peer in
    act_rise B (step_of link.state input greater).1 link.state input (record link { state = (step_of link.state input greater).0 }) (with_link (record link { state = (step_of link.state input greater).0 }) host) (table_may B link.state input greater m)

-- ---- an item

gone_rise : (B : ℕ → Type 0) (socket : Socket) (host : HostState) → Rise B (is_gone socket host)
gone_rise B socket host = by_user socket.user where
  by_test : (link : Link) (b : Bool) → Rise B (cond b (hears inputs.Gone link host) (leaves socket.number host))
  by_test link true = hears_rise B inputs.Gone link host tt
  by_test link false = tt

  by_user : (o : Option (ℕ × Address)) → Rise B (elim o as (λ o. Stepped) [
    | None ↦ leaves socket.number host
    | Some user ↦ gone_from socket.number (link_with host user.0 user.1) host
  ])
  by_user None = tt
  by_user (Some user) = by_test (link_with host user.0 user.1) (names (link_with host user.0 user.1).state socket.number)

request_rise : (B : ℕ → Type 0) (socket : Socket) (request : Request) (host : HostState) → Rise B (reads_request socket request host)
request_rise B socket request host = by_answer (refusal_of host socket request.target request.from) where
  by_answer : (o : Option Answer) → Rise B (elim o as (λ o. Stepped) [
    | Some answer ↦ answers_and_leaves socket.number answer host
    | None ↦ asks_link socket request.target request.from host
  ])
  by_answer (Some answer) = tt
  by_answer None = hears_rise B (inputs.Asked socket.number) (link_with host request.target request.from) (with_socket (record socket { user = Some (request.target, request.from) }) host) tt

frame_rise : (B : ℕ → Type 0) (socket : Socket) (link : Link) (frame : Frame) (host : HostState) → Rise B (reads_frame socket link frame host)
frame_rise B socket link (frames.Created id) host = by_made (created_of link.created id (next_arrival host link.end)) where
  by_test : (created : List Connection) (b : Bool) → Rise B (cond b (posts link.end (events.ConnectionOpened (next_arrival host link.end) link.peer) (with_arrival link.end (with_link (record link { created = created }) host))) (Err stops.Worn))
  by_test created true = tt
  by_test created false = tt

  by_made : (r : Result (List Connection) LightError) → Rise B (arrives socket link r host)
  by_made (Err e) = gone_rise B socket host
  by_made (Ok created) = by_test created (nat_lt (arrived_at host link.end) most_arrived)
frame_rise B socket link (frames.Closed id) host = by_closed (closed_of link.created id) where
  by_closed : (r : Result (ℕ × List Connection) LightError) → Rise B (closes socket link r host)
  by_closed (Err e) = gone_rise B socket host
  by_closed (Ok closed) = tt
frame_rise B socket link (frames.Data id payload) host = by_found (conn_of link.created id) where
  by_found : (r : Result ℕ LightError) → Rise B (receives socket link payload r host)
  by_found (Err e) = gone_rise B socket host
  by_found (Ok conn) = tt
frame_rise B socket link frames.EndClosed host = hears_rise B inputs.EndClosed link host tt
frame_rise B socket link frames.Probe host = hears_rise B inputs.Probe link host tt
frame_rise B socket link frames.ProbeAck host = hears_rise B inputs.Ack link host tt

answer_rise : (B : ℕ → Type 0) (answer : Answer) (link : Link) (host : HostState) → ((d : ℕ) → answer ≡ answers.Accepted → link.state ≡ Dialing d → B d) → Rise B (hears (inputs.Answered (heard_answer answer)) link host)
answer_rise B answers.Accepted link host may = hears_rise B (inputs.Answered links.Accepted) link host (by_state link.state may) where
  by_state : (state : LinkState) → ((d : ℕ) → answers.Accepted ≡ answers.Accepted → state ≡ Dialing d → B d) → MayRaise B (inputs.Answered links.Accepted) state
  by_state Idle may = tt
  by_state (Dialing d) may = may d refl refl
  by_state AwaitOther may = tt
  by_state (Up u probed) may = tt
answer_rise B answers.Invalid link host may = hears_rise B (inputs.Answered links.Invalid) link host tt
answer_rise B answers.Crossed link host may = hears_rise B (inputs.Answered links.Crossed) link host tt
answer_rise B answers.Mismatch link host may = hears_rise B (inputs.Answered links.Mismatch) link host tt

-- ---- what stands at the front

-- a socket that is served: open, with this at its front
record IsServed (socket : Socket) (host : HostState) : Type 0 where
  found : find (is_socket socket.number) host.sockets ≡ Some socket
  stands : socket.stage ≡ Open

not_ended : (stage : Stage) → stage ≡ Open → is_ended stage ≡ false
not_ended stage e = ap is_ended e

-- the link of its user dials it, where it dials any
dials_it : (host : HostState) (socket : Socket) → IsNaming host → IsServed socket host → (user : ℕ × Address) → socket.user ≡ Some user → (d : ℕ) → (link_with host user.0 user.1).state ≡ Dialing d → socket.number ≡ d
dials_it host socket s f user u d e = by_used (used host user.0 user.1 socket.number socket s f.found u (not_ended socket.stage f.stands)) where
  by_used : (((link_with host user.0 user.1).state ≡ Dialing socket.number) × IsDialedBy user.0 user.1 socket) ⊎ ((probed : Bool) × ((link_with host user.0 user.1).state ≡ Up socket.number probed) × IsUpFor user.0 user.1 socket) → socket.number ≡ d
  by_used (inl x) = let same : Dialing socket.number ≡ Dialing d = sym x.0 ∙ e in cc
  by_used (inr x) = let same : Up socket.number x.0 ≡ Dialing d = sym x.1 ∙ e in absurd cc

read_first : (B : ℕ → Type 0) (n : ℕ) (mid : HostState) (f : HostState → Stepped) → Rise B (f mid) → Rise B (Ok (steps.Read n ∷ [], mid) then f)
read_first B n mid f b = by_more (f mid) b where
  by_more : (more : Stepped) → Rise B more → Rise B (after_steps (steps.Read n ∷ []) more)
  by_more (Ok more) b = b
  by_more (Err stop) b = tt

item_rise : (host : HostState) (socket : Socket) (rest : List ℕ) (item : Item) → IsNaming host → IsServed socket host → (front_of socket).0 ≡ Whole item → Rise (IsAnswered host) (takes (record socket { since = rest; expected = expected.Frame }) item host)
item_rise host socket rest item s f front = read_first (IsAnswered host) socket.number mid (reads now item) (by_item item front) where
  now : Socket
  now = record socket { since = rest; expected = expected.Frame }

  mid : HostState
  mid = with_socket now host

  by_answer : (answer : Answer) → (front_of socket).0 ≡ Whole (items.Answer answer) → (o : Option (ℕ × Address)) → socket.user ≡ o → Rise (IsAnswered host) (elim o as (λ o. Stepped) [
    | None ↦ Ok ([], mid)
    | Some user ↦ reads_on now (link_with mid user.0 user.1) (items.Answer answer) mid
  ])
  by_answer answer front None u = tt
  by_answer answer front (Some user) u = answer_rise (IsAnswered host) answer (link_with mid user.0 user.1) mid
      (λ d accepted state. subst (IsAnswered host) (dials_it host socket s f user u d state) (socket, f.found, front ∙ ap (λ (x : Answer). Whole (items.Answer x)) accepted))

  by_frame : (frame : Frame) (o : Option (ℕ × Address)) → Rise (IsAnswered host) (elim o as (λ o. Stepped) [
    | None ↦ Ok ([], mid)
    | Some user ↦ reads_on now (link_with mid user.0 user.1) (items.Frame frame) mid
  ])
  by_frame frame None = tt
  by_frame frame (Some user) = frame_rise (IsAnswered host) now (link_with mid user.0 user.1) frame mid

  by_item : (item : Item) → (front_of socket).0 ≡ Whole item → Rise (IsAnswered host) (reads now item mid)
  by_item (items.Request request) front = request_rise (IsAnswered host) now request mid
  by_item (items.Answer answer) front = by_answer answer front socket.user refl
  by_item (items.Frame frame) front = by_frame frame socket.user

handled_rise : (host : HostState) (socket : Socket) → IsNaming host → IsServed socket host → Rise (IsAnswered host) (handles socket (front_of socket) host)
handled_rise host socket s f = by_front (front_of socket).0 refl where
  by_front : (x : Front) → (front_of socket).0 ≡ x → Rise (IsAnswered host) (handles socket (x, (front_of socket).1) host)
  by_front Unfinished e = tt
  by_front (Refused error) e = gone_rise (IsAnswered host) socket host
  by_front (Whole item) e = item_rise host socket (drop (front_of socket).1 socket.since) item s f e

pub next_rises : (host after : HostState) (told : List Step) → IsNaming host → host_next host ≡ Ok (Some told, after) → EachUp (RisesSo host) told
unfolding host_next
next_rises host after told s e = by_first (first_ready host.sockets) refl e where
  steps_of : Result (Option (List Step) × HostState) Stop → List Step
  steps_of (Ok next) = elim next.0 [
    | None ↦ []
    | Some steps ↦ steps
  ]
  steps_of (Err stop) = []

  some_of : Result (Option (List Step) × HostState) Stop → Option (List Step)
  some_of (Ok next) = next.0
  some_of (Err stop) = None

  by_done : (one : Stepped) → Rise (IsAnswered host) one → some_steps one ≡ Ok (Some told, after) → EachUp (RisesSo host) told
  by_done (Ok one) f e = subst (EachUp (RisesSo host)) (ap steps_of e) f
  by_done (Err stop) f e = absurd cc

  open_front : (stage : Stage) (b : Bool) → (is_open stage && b) ≡ true → stage ≡ Open
  open_front Open b e = refl
  open_front Pending b e = absurd cc
  open_front Ended b e = absurd cc

  by_first : (o : Option Socket) → first_ready host.sockets ≡ o → (elim o as (λ o. Result (Option (List Step) × HostState) Stop) [
    | None ↦ Ok (None, host)
    | Some socket ↦ some_steps (handles socket (front_of socket) host)
  ]) ≡ Ok (Some told, after) → EachUp (RisesSo host) told
  by_first None f e = let never : None ≡ Some told = ap some_of e in absurd cc
  by_first (Some socket) f e = let at = served host.sockets socket s.sockets f in
      by_done (handles socket (front_of socket) host) (handled_rise host socket s (record { found = at.found; stands = open_front socket.stage (is_ready_front (front_of socket).0) at.ready })) e
