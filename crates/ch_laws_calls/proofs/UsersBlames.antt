-- No host that reads an item answers, first, that a host text is false: but to a request whose host text is.
use Rattle.std.proofs.Common.{◌≡◌, ℕ, Bool, true, false, cond, List, [], ◌∷◌, ◌++◌, length, map, drop, Ok, Err, refl, sym, ap, ◌∙◌, subst}
use Rattle.std.proofs.lemmas.Bool.{and_parts}
use Rattle.std.specs.Prelude.{find, ◌==◌, Result, Option, Some, None, nat_lt}
use Rattle.std.specs.List.{list_any}
use Rattle.ch_base.specs.declared.address.Address.{Address}
use Rattle.ch_base.specs.declared.event.Event.TheVariants as events
use Rattle.ch_base.specs.declared.memory.Stop.{Stop}
use Rattle.ch_base.specs.declared.memory.Stop.TheVariants as stops
use Rattle.ch_wire.specs.Spelling.{answer_spelling, frame_spelling}
use Rattle.ch_wire.specs.declared.answer.Answer.{Answer}
use Rattle.ch_wire.specs.declared.answer.Answer.TheVariants as answers
use Rattle.ch_wire.specs.declared.frame.Frame.{Frame}
use Rattle.ch_wire.specs.declared.frame.Frame.TheVariants as frames
use Rattle.ch_wire.specs.declared.request.Request.{Request}
use Rattle.ch_reader.specs.Reading.{reading}
use Rattle.ch_reader.specs.declared.item.Expected.TheVariants as expected
use Rattle.ch_reader.specs.declared.item.Front.{Front}
use Rattle.ch_reader.specs.declared.item.Front.TheVariants.{Unfinished, Whole, Refused}
use Rattle.ch_reader.specs.declared.item.Item.{Item}
use Rattle.ch_reader.specs.declared.item.Item.TheVariants as items
use Rattle.ch_reader.proofs.Bodies.{at}
use Rattle.ch_reader.proofs.Complete.{reads_item}
use Rattle.ch_link.specs.Sockets.{names}
use Rattle.ch_link.specs.Table.{step_of}
use Rattle.ch_link.specs.declared.LinkAct.{LinkAct}
use Rattle.ch_link.specs.declared.LinkAnswer.TheVariants as links
use Rattle.ch_link.specs.declared.LinkIn.{LinkIn}
use Rattle.ch_link.specs.declared.LinkIn.TheVariants as inputs
use Rattle.ch_link.specs.declared.LinkState.{LinkState}
use Rattle.ch_link.specs.declared.LinkState.TheVariants as states
use Rattle.ch_light.specs.Ids.{created_of, conn_of, closed_of}
use Rattle.ch_light.specs.declared.Connection.{Connection}
use Rattle.ch_light.specs.declared.error.LightError.{LightError}
use Rattle.ch_model.specs.declared.step.SocketEvent.TheVariants as sockets
use Rattle.ch_model.specs.declared.step.Step.{Step}
use Rattle.ch_model.specs.declared.step.Step.TheVariants as steps
use Rattle.ch_model.specs.declared.step.Weight.{Weight}
use Rattle.ch_model.specs.Greater.{is_greater}
use Rattle.ch_model.specs.Host.{front_of, is_ready_front, first_ready, takes, handles, some_steps, host_on, host_next}
use Rattle.ch_model.specs.HostItems.{most_arrived, posts, gone_from, is_gone, is_mismatch, refusal_of, asks_link, reads_request, heard_answer, arrived_at, with_arrival, next_arrival, arrives, closes, receives, reads_frame, reads_on, reads_other, reads}
use Rattle.ch_model.specs.HostLinks.{does_act, hears}
use Rattle.ch_model.specs.HostState.{Link, Socket, HostState}
use Rattle.ch_model.specs.HostSteps.{Stepped, still, after_steps, is_open_endpoint, is_socket, own_address, link_with, with_link, with_socket}
use Rattle.ch_model.specs.HostWrites.{frame_step, leaves, answers_and_leaves}
use Rattle.ch_model.specs.Stages.{Stage, Pending, Open, Ended, is_open}
use Rattle.ch_laws_items.proofs.Next.{served}
use Rattle.ch_laws_log.proofs.Stored.{number_is, number_same}
use Rattle.ch_laws_writes.specs.Dues.{Due, Answering, due_of, due_open, due_asked, due_staged, due_at}
use Rattle.ch_laws_writes.specs.Orderly.{IsOrderly, user_of}
use Rattle.ch_laws_calls.specs.UsersRecords.{IsReadAs, first_written, Refuses}

-- ---- answers are told apart

-- an answer at the front of bytes is the one that they spell
pub same_answer : (a b : Answer) (xs ys : List ℕ) → answer_spelling a ++ xs ≡ answer_spelling b ++ ys → a ≡ b
same_answer a b xs ys e = one (sym (reads_item expected.Answer (items.Answer a) xs tt) ∙ ap (reading expected.Answer) e ∙ reads_item expected.Answer (items.Answer b) ys tt) where
  of : Front × ℕ → Answer
  of (Whole (items.Answer c), n) = c
  of front = a

  one : at (Whole (items.Answer a)) (length (answer_spelling a)) ≡ at (Whole (items.Answer b)) (length (answer_spelling b)) → a ≡ b
  one e = ap of e

-- one that isn't a mismatch isn't spelled as one
told_apart : (a : Answer) → (a ≡ answers.Mismatch → ⊥) → ◌≡◌ {A = Option (List ℕ)} (Some (answer_spelling a)) (Some (answer_spelling answers.Mismatch)) → ⊥
told_apart a never e = never (same_answer a answers.Mismatch [] [] (ap (λ (l : List ℕ). l ++ []) (bytes_of e))) where
  bytes_of : {x y : List ℕ} → ◌≡◌ {A = Option (List ℕ)} (Some x) (Some y) → x ≡ y
  bytes_of e = cc

not_accepted : answers.Accepted ≡ answers.Mismatch → ⊥
not_accepted e = cc

not_crossed : answers.Crossed ≡ answers.Mismatch → ⊥
not_crossed e = cc

not_invalid : answers.Invalid ≡ answers.Mismatch → ⊥
not_invalid e = cc

-- ---- what is written under a number

-- nothing, whatever was done
abbrev pub Silent : {E : Type 0} → ℕ → Result (List Step × HostState) E → Type 0
Silent n (Ok done) = first_written n done.0 ≡ None
Silent n (Err e) = Unit {0}

-- not first that the host text is false
abbrev Fine : ℕ → Stepped → Type 0
Fine n (Ok done) = Refuses n done.0 → ⊥
Fine n (Err stop) = Unit {0}

fine : (n : ℕ) (done : Stepped) → Silent n done → Fine n done
fine n (Ok done) s = λ e. let no : ◌≡◌ {A = Option (List ℕ)} None (Some (answer_spelling answers.Mismatch)) = sym s ∙ e in absurd cc
fine n (Err stop) s = tt

-- what is written elsewhere isn't there
elsewhere : (sock n : ℕ) (bytes : List ℕ) (rest : Option (List ℕ)) → (sock == n) ≡ false → rest ≡ None → cond (sock == n) (Some bytes) rest ≡ None
elsewhere sock n bytes rest e r = ap (λ b. cond b (Some bytes) rest) e ∙ r

frames_silent : (n sock : ℕ) (waits : List (Frame × Weight)) → (sock == n) ≡ false → first_written n (map (frame_step sock) waits) ≡ None
frames_silent n sock [] e = refl
frames_silent n sock (wait ∷ waits) e = elsewhere sock n (frame_spelling wait.0) (first_written n (map (frame_step sock) waits)) e (frames_silent n sock waits e)

-- ---- a link that isn't asked, and names another socket

-- the link names no socket of this number
abbrev IsAway : LinkState → ℕ → Type 0
IsAway (states.Dialing d) n = (d == n) ≡ false
IsAway (states.Up u probed) n = (u == n) ≡ false
IsAway state n = Unit {0}

-- it isn't asked, wants nothing, and isn't late or shut
abbrev IsQuiet : LinkIn → Type 0
IsQuiet (inputs.Want m) = ⊥
IsQuiet (inputs.Asked s) = ⊥
IsQuiet inputs.Late = ⊥
IsQuiet inputs.Shut = ⊥
IsQuiet input = Unit {0}

heard_silent : (n : ℕ) (input : LinkIn) (link : Link) (host : HostState) → IsQuiet input → IsAway link.state n → Silent n (hears input link host)
unfolding step_of
heard_silent n input link host = by_state link.state input where
  told : LinkState → LinkIn → LinkState × LinkAct
  told state input = step_of state input (is_greater (own_address host link.end) link.peer)

  now : LinkState → LinkIn → Link
  now state input = record link { state = (told state input).0 }

  by_state : (state : LinkState) (input : LinkIn) → IsQuiet input → IsAway state n → Silent n (does_act (told state input).1 state input (now state input) (with_link (now state input) host))
  by_state state (inputs.Want m) q a = absurd q
  by_state state (inputs.Asked s) q a = absurd q
  by_state state inputs.Late q a = absurd q
  by_state state inputs.Shut q a = absurd q
  by_state (states.Dialing d) (inputs.Answered links.Accepted) q a = frames_silent n d link.waits a
  by_state (states.Up u probed) inputs.Probe q a = elsewhere u n (frame_spelling frames.ProbeAck) None a refl
  by_state (states.Dialing d) (inputs.Answered links.Crossed) q a = refl
  by_state (states.Dialing d) (inputs.Answered links.Invalid) q a = refl
  by_state (states.Dialing d) (inputs.Answered links.Mismatch) q a = refl
  by_state (states.Up u probed) (inputs.Answered answer) q a = refl
  by_state states.Idle (inputs.Answered answer) q a = refl
  by_state states.AwaitOther (inputs.Answered answer) q a = refl
  by_state (states.Dialing d) inputs.Gone q a = refl
  by_state (states.Up u probed) inputs.Gone q a = refl
  by_state (states.Up u probed) inputs.EndClosed q a = refl
  by_state (states.Up u probed) inputs.Ack q a = refl
  by_state state input q a = refl

-- ---- a link that is asked

accepted_fine : (n s : ℕ) (waits : List (Frame × Weight)) → cond (s == n) (Some (answer_spelling answers.Accepted)) (first_written n (map (frame_step s) waits)) ≡ Some (answer_spelling answers.Mismatch) → ⊥
accepted_fine n s waits = by_test (s == n) refl where
  by_test : (b : Bool) → (s == n) ≡ b → cond b (Some (answer_spelling answers.Accepted)) (first_written n (map (frame_step s) waits)) ≡ Some (answer_spelling answers.Mismatch) → ⊥
  by_test true h e = told_apart answers.Accepted not_accepted e
  by_test false h e = let no : ◌≡◌ {A = Option (List ℕ)} None (Some (answer_spelling answers.Mismatch)) = sym (frames_silent n s waits h) ∙ e in absurd cc

crossed_fine : (n s : ℕ) (rest : Option (List ℕ)) → rest ≡ None → cond (s == n) (Some (answer_spelling answers.Crossed)) rest ≡ Some (answer_spelling answers.Mismatch) → ⊥
crossed_fine n s rest none = by_test (s == n) where
  by_test : (b : Bool) → cond b (Some (answer_spelling answers.Crossed)) rest ≡ Some (answer_spelling answers.Mismatch) → ⊥
  by_test true e = told_apart answers.Crossed not_crossed e
  by_test false e = let no : ◌≡◌ {A = Option (List ℕ)} None (Some (answer_spelling answers.Mismatch)) = sym none ∙ e in absurd cc

asked_fine : (n s : ℕ) (link : Link) (host : HostState) → IsAway link.state n → Fine n (hears (inputs.Asked s) link host)
unfolding step_of
asked_fine n s link host = by_state link.state (is_greater (own_address host link.end) link.peer) where
  now : LinkState → Bool → Link
  now state greater = record link { state = (step_of state (inputs.Asked s) greater).0 }

  by_state : (state : LinkState) (greater : Bool) → IsAway state n → Fine n (does_act (step_of state (inputs.Asked s) greater).1 state (inputs.Asked s) (now state greater) (with_link (now state greater) host))
  by_state states.Idle greater a = accepted_fine n s link.waits
  by_state states.AwaitOther greater a = accepted_fine n s link.waits
  by_state (states.Dialing d) true a = crossed_fine n s None refl
  by_state (states.Dialing d) false a = accepted_fine n s link.waits
  by_state (states.Up u false) greater a = crossed_fine n s (cond (u == n) (Some (frame_spelling frames.Probe)) None) (elsewhere u n (frame_spelling frames.Probe) None a refl)
  by_state (states.Up u true) greater a = crossed_fine n s None refl

-- ---- a socket that is gone

-- the host's links name no socket of this number
abbrev AllAway : HostState → ℕ → Type 0
AllAway host n = (end : ℕ) (peer : Address) → IsAway (link_with host end peer).state n

gone_silent : (n sock : ℕ) (link : Link) (host : HostState) → IsAway link.state n → Silent n (gone_from sock link host)
gone_silent n sock link host a = by_test (names link.state sock) where
  by_test : (b : Bool) → Silent n (cond b (hears inputs.Gone link host) (leaves sock host))
  by_test true = heard_silent n inputs.Gone link host tt a
  by_test false = refl

pub socket_gone : (n : ℕ) (socket : Socket) (host : HostState) → AllAway host n → Silent n (is_gone socket host)
socket_gone n socket host a = by_user socket.user where
  by_user : (user : Option (ℕ × Address)) → Silent n (elim user as (λ x. Stepped) [
    | None ↦ leaves socket.number host
    | Some user ↦ gone_from socket.number (link_with host user.0 user.1) host
  ])
  by_user None = refl
  by_user (Some user) = gone_silent n socket.number (link_with host user.0 user.1) host (a user.0 user.1)

-- ---- items

arrived_silent : (n : ℕ) (socket : Socket) (link : Link) (created : Result (List Connection) LightError) (host : HostState) → AllAway host n → Silent n (arrives socket link created host)
arrived_silent n socket link (Err e) host a = socket_gone n socket host a
arrived_silent n socket link (Ok created) host a = by_test (nat_lt (arrived_at host link.end) most_arrived) where
  by_test : (b : Bool) → Silent n (cond b (posts link.end (events.ConnectionOpened (next_arrival host link.end) link.peer) (with_arrival link.end (with_link (record link { created = created }) host))) (Err stops.Worn))
  by_test true = refl
  by_test false = tt

closed_silent : (n : ℕ) (socket : Socket) (link : Link) (done : Result (ℕ × List Connection) LightError) (host : HostState) → AllAway host n → Silent n (closes socket link done host)
closed_silent n socket link (Err e) host a = socket_gone n socket host a
closed_silent n socket link (Ok done) host a = refl

received_silent : (n : ℕ) (socket : Socket) (link : Link) (payload : List ℕ) (conn : Result ℕ LightError) (host : HostState) → AllAway host n → Silent n (receives socket link payload conn host)
received_silent n socket link payload (Err e) host a = socket_gone n socket host a
received_silent n socket link payload (Ok conn) host a = refl

framed_silent : (n : ℕ) (socket : Socket) (link : Link) (frame : Frame) (host : HostState) → AllAway host n → IsAway link.state n → Silent n (reads_frame socket link frame host)
framed_silent n socket link (frames.Created id) host a l = arrived_silent n socket link (created_of link.created id (next_arrival host link.end)) host a
framed_silent n socket link (frames.Closed id) host a l = closed_silent n socket link (closed_of link.created id) host a
framed_silent n socket link (frames.Data id payload) host a l = received_silent n socket link payload (conn_of link.created id) host a
framed_silent n socket link frames.EndClosed host a l = heard_silent n inputs.EndClosed link host tt l
framed_silent n socket link frames.Probe host a l = heard_silent n inputs.Probe link host tt l
framed_silent n socket link frames.ProbeAck host a l = heard_silent n inputs.Ack link host tt l

read_on_silent : (n : ℕ) (socket : Socket) (link : Link) (item : Item) (host : HostState) → AllAway host n → IsAway link.state n → Silent n (reads_on socket link item host)
read_on_silent n socket link (items.Request request) host a l = refl
read_on_silent n socket link (items.Answer answer) host a l = heard_silent n (inputs.Answered (heard_answer answer)) link host tt l
read_on_silent n socket link (items.Frame frame) host a l = framed_silent n socket link frame host a l

read_other_silent : (n : ℕ) (socket : Socket) (item : Item) (host : HostState) → AllAway host n → Silent n (reads_other socket item host)
read_other_silent n socket item host a = by_user socket.user where
  by_user : (user : Option (ℕ × Address)) → Silent n (elim user as (λ x. Stepped) [
    | None ↦ still host
    | Some user ↦ reads_on socket (link_with host user.0 user.1) item host
  ])
  by_user None = refl
  by_user (Some user) = read_on_silent n socket (link_with host user.0 user.1) item host a (a user.0 user.1)

-- ---- requests

-- a request is read under this number whose host text is false
pub record IsFalse (host : HostState) (n : ℕ) : Type 0 where
  pub request : Request
  pub read : IsReadAs host n request
  pub mismatch : is_mismatch host read.socket.peer_host request.target request.from ≡ true

-- then alone it is answered so
abbrev Blames : HostState → ℕ → Stepped → Type 0
Blames host n (Ok done) = Refuses n done.0 → IsFalse host n
Blames host n (Err stop) = Unit {0}

blameless : (host : HostState) (n : ℕ) (done : Stepped) → Fine n done → Blames host n done
blameless host n (Ok done) f = λ e. absurd (f e)
blameless host n (Err stop) f = tt

-- the refusal is a mismatch, where it says so
refused_so : (host : HostState) (socket : Socket) (target : ℕ) (peer : Address) → refusal_of host socket target peer ≡ Some answers.Mismatch → is_mismatch host socket.peer_host target peer ≡ true
refused_so host socket target peer = by_tests (is_mismatch host socket.peer_host target peer) (list_any (is_open_endpoint target) host.ends) where
  by_tests : (a b : Bool) → ◌≡◌ {A = Option Answer} (cond a (Some answers.Mismatch) (cond b None (Some answers.Invalid))) (Some answers.Mismatch) → a ≡ true
  by_tests true b e = refl
  by_tests false true e = absurd cc
  by_tests false false e = absurd cc

requested : (n : ℕ) (socket now : Socket) (request : Request) (host : HostState) → find (is_socket socket.number) host.sockets ≡ Some socket → is_open socket.stage ≡ true → (front_of socket).0 ≡ Whole (items.Request request) → now.number ≡ socket.number → now.peer_host ≡ socket.peer_host → AllAway host n
    → Blames host n (reads_request now request (with_socket now host))
requested n socket now request host f stands front number peer_host a = by_answer (refusal_of (with_socket now host) now request.target request.from) refl where
  at_host : (number : ℕ) → number ≡ n → find (is_socket number) host.sockets ≡ Some socket → refusal_of (with_socket now host) now request.target request.from ≡ Some answers.Mismatch → IsFalse host n
  at_host number is f e = record {
    request = request;
    read = record { socket = socket; found = subst (λ (m : ℕ). find (is_socket m) host.sockets ≡ Some socket) is f; stands = stands; front = front };
    mismatch = subst (λ (h : Option (List ℕ)). is_mismatch host h request.target request.from ≡ true) peer_host (refused_so (with_socket now host) now request.target request.from e);
  }

  same_spelled : (answer : Answer) → ◌≡◌ {A = Option (List ℕ)} (Some (answer_spelling answer)) (Some (answer_spelling answers.Mismatch)) → answer ≡ answers.Mismatch
  same_spelled answers.Accepted e = absurd (told_apart answers.Accepted not_accepted e)
  same_spelled answers.Crossed e = absurd (told_apart answers.Crossed not_crossed e)
  same_spelled answers.Invalid e = absurd (told_apart answers.Invalid not_invalid e)
  same_spelled answers.Mismatch e = refl

  by_test : (answer : Answer) → refusal_of (with_socket now host) now request.target request.from ≡ Some answer → (b : Bool) → (now.number == n) ≡ b → cond b (Some (answer_spelling answer)) None ≡ Some (answer_spelling answers.Mismatch) → IsFalse host n
  by_test answer r true h e = at_host socket.number (sym number ∙ number_is now.number n h) f (r ∙ ap (λ (x : Answer). Some x) (same_spelled answer e))
  by_test answer r false h e = absurd cc

  by_answer : (answer : Option Answer) → refusal_of (with_socket now host) now request.target request.from ≡ answer → Blames host n (elim answer as (λ x. Stepped) [
    | Some answer ↦ answers_and_leaves now.number answer (with_socket now host)
    | None ↦ asks_link now request.target request.from (with_socket now host)
  ])
  by_answer (Some answer) r = λ e. by_test answer r (now.number == n) refl e
  by_answer None r = blameless host n (asks_link now request.target request.from (with_socket now host))
      (asked_fine n now.number (link_with host request.target request.from) (with_socket (record now { user = Some (request.target, request.from) }) (with_socket now host)) (a request.target request.from))

-- what is read first changes nothing of what is written
after_read : (host : HostState) (n sock : ℕ) (more : Stepped) → Blames host n more → Blames host n (after_steps (steps.Read sock ∷ []) more)
after_read host n sock (Ok more) b = b
after_read host n sock (Err stop) b = tt

handled : (n : ℕ) (socket : Socket) (host : HostState) → find (is_socket socket.number) host.sockets ≡ Some socket → is_open socket.stage ≡ true → AllAway host n → Blames host n (handles socket (front_of socket) host)
handled n socket host f stands a = by_front (front_of socket).0 refl where
  now : Socket
  now = record socket { since = drop (front_of socket).1 socket.since; expected = expected.Frame }

  after : HostState
  after = with_socket now host

  by_item : (item : Item) → (front_of socket).0 ≡ Whole item → Blames host n (reads now item after)
  by_item (items.Request request) e = requested n socket now request host f stands e refl refl a
  by_item (items.Answer answer) e = blameless host n (reads_other now (items.Answer answer) after) (fine n (reads_other now (items.Answer answer) after) (read_other_silent n now (items.Answer answer) after a))
  by_item (items.Frame frame) e = blameless host n (reads_other now (items.Frame frame) after) (fine n (reads_other now (items.Frame frame) after) (read_other_silent n now (items.Frame frame) after a))

  by_front : (x : Front) → (front_of socket).0 ≡ x → Blames host n (elim x as (λ x. Stepped) [
    | Unfinished ↦ still host
    | Refused error ↦ is_gone socket host
    | Whole item ↦ takes now item host
  ])
  by_front Unfinished e = λ e. absurd cc
  by_front (Refused error) e = blameless host n (is_gone socket host) (fine n (is_gone socket host) (socket_gone n socket host a))
  by_front (Whole item) e = after_read host n socket.number (reads now item after) (by_item item e)

-- ---- where an answer is due

-- an end at which an answer is due hasn't read its request
pub record IsUnread (host : HostState) (n : ℕ) : Type 0 where
  pub socket : Socket
  pub found : find (is_socket n) host.sockets ≡ Some socket
  pub stands : socket.stage ≡ Open
  pub expects : socket.expected ≡ expected.Request

pub is_unread : (host : HostState) (n : ℕ) → due_at host n ≡ Some Answering → IsUnread host n
is_unread host n due = by_socket (find (is_socket n) host.sockets) refl due where
  by_expected : (socket : Socket) → find (is_socket n) host.sockets ≡ Some socket → socket.stage ≡ Open → (e : _) → socket.expected ≡ e → ◌≡◌ {A = Option Due} (Some (due_open e)) (Some Answering) → IsUnread host n
  by_expected socket f s expected.Request x e = record { socket = socket; found = f; stands = s; expects = x }
  by_expected socket f s expected.Answer x e = absurd cc
  by_expected socket f s expected.Frame x e = absurd cc

  by_asked : {A : Type 0} (user : Option (ℕ × Address)) → due_asked user ≡ Some Answering → A
  by_asked None e = absurd cc
  by_asked (Some user) e = absurd cc

  by_stage : (socket : Socket) → find (is_socket n) host.sockets ≡ Some socket → (stage : Stage) → socket.stage ≡ stage → due_staged stage socket ≡ Some Answering → IsUnread host n
  by_stage socket f Pending s e = by_asked socket.user e
  by_stage socket f Open s e = by_expected socket f s socket.expected refl e
  by_stage socket f Ended s e = absurd cc

  by_socket : (o : Option Socket) → find (is_socket n) host.sockets ≡ o → due_of o ≡ Some Answering → IsUnread host n
  by_socket None f e = absurd cc
  by_socket (Some socket) f e = by_stage socket f socket.stage refl e

-- no link names it
all_away : (own : ℕ → Address) (host : HostState) (n : ℕ) → IsOrderly own host → IsUnread host n → AllAway host n
all_away own host n o u end peer = by_state (link_with host end peer).state (λ h. named h) where
  unused : user_of (find (is_socket n) host.sockets) ≡ None
  unused = ap user_of u.found ∙ (o.sockets n u.socket u.found).unasked u.expects

  named : names (link_with host end peer).state n ≡ true → ⊥
  named h = let no : ◌≡◌ {A = Option (ℕ × Address)} None (Some (end, peer)) = sym unused ∙ (o.links end peer).named n h in absurd cc

  no_test : (d : ℕ) → (names (states.Dialing d) n ≡ true → ⊥) → (d == n) ≡ false
  no_test d never = by_test (d == n) refl where
    by_test : (b : Bool) → (d == n) ≡ b → b ≡ false
    by_test true e = absurd (never (subst (λ (m : ℕ). names (states.Dialing d) m ≡ true) (number_is d n e) (number_same d)))
    by_test false e = refl

  by_state : (state : LinkState) → (names state n ≡ true → ⊥) → IsAway state n
  by_state (states.Dialing d) never = no_test d never
  by_state (states.Up u probed) never = no_test u never
  by_state states.Idle never = tt
  by_state states.AwaitOther never = tt

-- what a host that reads an item answers so, is a request whose host text is false
pub next_blames : (own : ℕ → Address) (host after : HostState) (told : List Step) (n : ℕ) → IsOrderly own host → host_next host ≡ Ok (Some told, after) → due_at host n ≡ Some Answering → Refuses n told → IsFalse host n
unfolding host_next
next_blames own host after told n o e due refuses = by_first (first_ready host.sockets) refl e where
  some_in : Result (Option (List Step) × HostState) Stop → Option (List Step)
  some_in (Ok next) = next.0
  some_in (Err stop) = None

  steps_in : Result (Option (List Step) × HostState) Stop → List Step
  steps_in (Ok next) = elim next.0 [
    | None ↦ []
    | Some steps ↦ steps
  ]
  steps_in (Err stop) = []

  away : AllAway host n
  away = all_away own host n o (is_unread host n due)

  by_done : (one : Stepped) → Blames host n one → some_steps one ≡ Ok (Some told, after) → IsFalse host n
  by_done (Ok one) f e = f (subst (λ (l : List Step). Refuses n l) (sym (ap steps_in e)) refuses)
  by_done (Err stop) f e = absurd cc

  by_first : (s : Option Socket) → first_ready host.sockets ≡ s → (elim s as (λ s. Result (Option (List Step) × HostState) Stop) [
    | None ↦ Ok (None, host)
    | Some socket ↦ some_steps (handles socket (front_of socket) host)
  ]) ≡ Ok (Some told, after) → IsFalse host n
  by_first None f e = let never : None ≡ Some told = ap some_in e in absurd cc
  by_first (Some socket) f e = let at = served host.sockets socket o.sound.apart f in
      by_done (handles socket (front_of socket) host) (handled n socket host at.found (and_parts (is_open socket.stage) (is_ready_front (front_of socket).0) at.ready).0 away) e

-- ---- the end of its input

-- where it ends, no answer is written
pub ended_silent : (own : ℕ → Address) (host : HostState) (sock n : ℕ) → IsOrderly own host → due_at host n ≡ Some Answering → Silent n (host_on host (sockets.Ended sock))
unfolding host_on
ended_silent own host sock n o due = by_socket (find (is_socket sock) host.sockets) where
  away : AllAway host n
  away = all_away own host n o (is_unread host n due)

  by_test : (socket : Socket) (b : Bool) → Silent n (cond b (is_gone socket host) (still host))
  by_test socket true = socket_gone n socket host away
  by_test socket false = refl

  by_socket : (s : Option Socket) → Silent n (elim s as (λ x. Stepped) [
    | None ↦ still host
    | Some socket ↦ cond (is_open socket.stage) (is_gone socket host) (still host)
  ])
  by_socket None = refl
  by_socket (Some socket) = by_test socket (is_open socket.stage)
