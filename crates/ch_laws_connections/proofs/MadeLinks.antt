-- What a host does for its links leaves what is created as it was, but where it tells that a link has failed.
use Rattle.std.proofs.Common.{◌≡◌, ◌≤◌, ℕ, ◌+◌, arith, Bool, true, false, cond, List, [], ◌∷◌, ◌++◌, map, Ok, Err, refl, sym, ap, ◌∙◌, subst}
use Rattle.std.specs.Prelude.{nat_lt, None}
use Rattle.ch_base.specs.declared.address.Address.{Address}
use Rattle.ch_base.specs.declared.memory.Stop.TheVariants as stops
use Rattle.ch_wire.specs.Spelling.{answer_spelling, frame_spelling}
use Rattle.ch_wire.specs.declared.answer.Answer.{Answer}
use Rattle.ch_wire.specs.declared.answer.Answer.TheVariants as answers
use Rattle.ch_wire.specs.declared.frame.Frame.{Frame}
use Rattle.ch_wire.specs.declared.frame.Frame.TheVariants as frames
use Rattle.ch_base.specs.declared.event.Event.TheVariants as events
use Rattle.ch_base.specs.declared.event.Why.{Why}
use Rattle.ch_light.specs.declared.Connection.{Connection}
use Rattle.ch_link.specs.Table.{step_of}
use Rattle.ch_link.specs.declared.LinkAct.{LinkAct}
use Rattle.ch_link.specs.declared.LinkAct.TheVariants as acts
use Rattle.ch_link.specs.declared.LinkAnswer.TheVariants as links
use Rattle.ch_link.specs.declared.LinkIn.{LinkIn}
use Rattle.ch_link.specs.declared.LinkIn.TheVariants as inputs
use Rattle.ch_link.specs.declared.LinkState.{LinkState}
use Rattle.ch_link.specs.declared.LinkState.TheVariants as states
use Rattle.ch_model.specs.declared.step.Step.{Step}
use Rattle.ch_model.specs.declared.step.Step.TheVariants as steps
use Rattle.ch_model.specs.declared.step.Weight.{Weight}
use Rattle.ch_model.specs.Greater.{is_greater}
use Rattle.ch_model.specs.HostLinks.{most_dials, dialed, dials_for, accepts_on, asked_on, wanted_on, fails_with, says_closed, raised, acknowledged, does_act, hears}
use Rattle.ch_model.specs.HostState.{Endpoint, Link, Socket, HostState}
use Rattle.ch_model.specs.HostItems.{arrived_at}
use Rattle.ch_model.specs.HostSteps.{Stepped, still, does, after_steps, ◌then◌, own_address, is_link, link_or_new, with_link, with_socket, is_socket}
use Rattle.ch_model.specs.HostWrites.{writes, leaves, answers_and_leaves, flushes_to, frame_step, forgotten, leaves_off, ended_in, end_socket}
use Rattle.std.specs.Prelude.{find, Option, Some}
use Rattle.ch_laws_connections.specs.Tables.{open_in}
use Rattle.ch_laws_connections.specs.Arrivals.{made_at, made_so, after_told}
use Rattle.ch_laws_connections.proofs.Keys.{find_stored, link_key, link_self}

-- nothing that is created changes
pub record Quiet (before after : HostState) : Type 0 where
  pub made : (end : ℕ) (peer : Address) → made_at after end peer ≡ made_at before end peer
  pub counts : (end : ℕ) → arrived_at after end ≡ arrived_at before end

-- nor do the steps tell of a connection or of a link that has failed
abbrev pub TellsNone : List Step → Type 0
TellsNone told = (end conn : ℕ) (peer : Address) (n : ℕ) → after_told told end conn peer n ≡ n

abbrev pub AllQuiet : HostState → Stepped → Type 0
AllQuiet host (Ok done) = Quiet host done.1 × TellsNone done.0
AllQuiet host (Err stop) = Unit {0}

-- what is created is as the steps tell, and no more than before
pub record Goes (before : HostState) (told : List Step) (after : HostState) : Type 0 where
  pub made : (end conn : ℕ) (peer : Address) → made_so after end conn peer ≡ after_told told end conn peer (made_so before end conn peer)
  pub fewer : (end conn : ℕ) (peer : Address) → made_so after end conn peer ≤ made_so before end conn peer
  pub counts : (end : ℕ) → arrived_at after end ≡ arrived_at before end

abbrev pub AllGo : HostState → Stepped → Type 0
AllGo host (Ok done) = Goes host done.0 done.1
AllGo host (Err stop) = Unit {0}

-- the link has the connections that its host has created on it
abbrev pub IsOf : Link → HostState → Type 0
IsOf link host = link.created ≡ made_at host link.end link.peer

-- ---- one thing and then another

pub at_rest : (host : HostState) → Quiet host host
at_rest host = record { made = λ e p. refl; counts = λ e. refl }

pub onward : (one two three : HostState) → Quiet one two → Quiet two three → Quiet one three
onward one two three a b = record { made = λ e p. b.made e p ∙ a.made e p; counts = λ e. b.counts e ∙ a.counts e }

pub told_both : (xs ys : List Step) (end conn : ℕ) (peer : Address) (n : ℕ) → after_told (xs ++ ys) end conn peer n ≡ after_told ys end conn peer (after_told xs end conn peer n)
told_both [] ys e c p n = refl
told_both (steps.Post x (events.ConnectionOpened d q) ∷ xs) ys e c p n = told_both xs ys e c p _
told_both (steps.Post x (events.ConnectionClosed d) ∷ xs) ys e c p n = told_both xs ys e c p _
told_both (steps.Post x (events.ConnectionLost q why) ∷ xs) ys e c p n = told_both xs ys e c p _
told_both (steps.Post x (events.Received d payload) ∷ xs) ys e c p n = told_both xs ys e c p n
told_both (steps.Post x events.EndPointClosed ∷ xs) ys e c p n = told_both xs ys e c p n
told_both (steps.Dial sock x q ∷ xs) ys e c p n = told_both xs ys e c p n
told_both (steps.Read sock ∷ xs) ys e c p n = told_both xs ys e c p n
told_both (steps.Write sock bytes said ∷ xs) ys e c p n = told_both xs ys e c p n
told_both (steps.Up sock ∷ xs) ys e c p n = told_both xs ys e c p n
told_both (steps.Down sock ∷ xs) ys e c p n = told_both xs ys e c p n
told_both (steps.Left sock ∷ xs) ys e c p n = told_both xs ys e c p n
told_both (steps.Broke x q why ∷ xs) ys e c p n = told_both xs ys e c p n

pub none_both : (xs ys : List Step) → TellsNone xs → TellsNone ys → TellsNone (xs ++ ys)
none_both xs ys a b = λ e c p n. told_both xs ys e c p n ∙ b e c p (after_told xs e c p n) ∙ a e c p n

pub chained : (host : HostState) (done : Stepped) (f : HostState → Stepped) → AllQuiet host done → ((next : HostState) → Quiet host next → AllQuiet next (f next)) → AllQuiet host (done then f)
chained host (Ok done) f a g = from (f done.1) (g done.1 a.0) where
  from : (more : Stepped) → AllQuiet done.1 more → AllQuiet host (after_steps done.0 more)
  from (Ok more) b = (onward host done.1 more.1 a.0 b.0, none_both done.0 more.0 a.1 b.1)
  from (Err stop) b = tt
chained host (Err stop) f a g = tt

quiet_so : (before after : HostState) → Quiet before after → (end conn : ℕ) (peer : Address) → made_so after end conn peer ≡ made_so before end conn peer
quiet_so before after q e c p = ap (λ (t : List Connection). open_in t c) (q.made e p)

pub from_quiet : (one two : HostState) (done : Stepped) → Quiet one two → AllGo two done → AllGo one done
from_quiet one two (Ok done) a b = record { made = λ e c p. b.made e c p ∙ ap (after_told done.0 e c p) (quiet_so one two a e c p); fewer = λ e c p. subst (λ (n : ℕ). made_so done.1 e c p ≤ n) (quiet_so one two a e c p) (b.fewer e c p); counts = λ e. b.counts e ∙ a.counts e }
from_quiet one two (Err stop) a b = tt

pub chained_go : (host : HostState) (done : Stepped) (f : HostState → Stepped) → AllQuiet host done → ((next : HostState) → Quiet host next → AllGo next (f next)) → AllGo host (done then f)
chained_go host (Ok done) f a g = from (f done.1) (g done.1 a.0) where
  from : (more : Stepped) → AllGo done.1 more → AllGo host (after_steps done.0 more)
  from (Ok more) b = record {
    made = λ e c p. b.made e c p ∙ ap (after_told more.0 e c p) (quiet_so host done.1 a.0 e c p ∙ sym (a.1 e c p (made_so host e c p))) ∙ sym (told_both done.0 more.0 e c p (made_so host e c p));
    fewer = λ e c p. subst (λ (n : ℕ). made_so more.1 e c p ≤ n) (quiet_so host done.1 a.0 e c p) (b.fewer e c p);
    counts = λ e. b.counts e ∙ a.0.counts e;
  }
  from (Err stop) b = tt
chained_go host (Err stop) f a g = tt

pub quiet_from : (one two : HostState) (done : Stepped) → Quiet one two → AllQuiet two done → AllQuiet one done
quiet_from one two (Ok done) a b = (onward one two done.1 a b.0, b.1)
quiet_from one two (Err stop) a b = tt

same_below : (n m : ℕ) → n ≡ m → n ≤ m
same_below n m e = omega arith

pub going : (host : HostState) (done : Stepped) → AllQuiet host done → AllGo host done
going host (Ok done) a = record { made = λ e c p. quiet_so host done.1 a.0 e c p ∙ sym (a.1 e c p (made_so host e c p)); fewer = λ e c p. same_below (made_so done.1 e c p) (made_so host e c p) (quiet_so host done.1 a.0 e c p); counts = a.0.counts }
going host (Err stop) a = tt

pub of_next : (link : Link) (host next : HostState) → IsOf link host → Quiet host next → IsOf link next
of_next link host next i q = i ∙ sym (q.made link.end link.peer)

-- what is created after a link is stored
pub made_stored : (link : Link) (host : HostState) (end : ℕ) (peer : Address) → made_at (with_link link host) end peer ≡ cond (is_link end peer link) link.created (made_at host end peer)
made_stored link host end peer = ap (λ (o : Option Link). (link_or_new end peer o).created) (find_stored link host.links end peer) ∙ by_test (is_link end peer link) where
  by_test : (b : Bool) → (link_or_new end peer (cond b (Some link) (find (is_link end peer) host.links))).created ≡ cond b link.created (made_at host end peer)
  by_test true = refl
  by_test false = refl

-- ---- links that are stored

of_use : (link : Link) (host : HostState) (end : ℕ) (peer : Address) → IsOf link host → is_link end peer link ≡ true → link.created ≡ made_at host end peer
of_use link host end peer i h = let key = link_key end peer link h in i ∙ ap (λ (e : ℕ). made_at host e link.peer) key.0 ∙ ap (λ (p : Address). made_at host end p) key.1

pub stored_quiet : (link : Link) (host : HostState) → IsOf link host → Quiet host (with_link link host)
stored_quiet link host i = record { made = λ e p. made_stored link host e p ∙ by_test e p (is_link e p link) refl; counts = λ e. refl } where
  by_test : (e : ℕ) (p : Address) (b : Bool) → is_link e p link ≡ b → cond b link.created (made_at host e p) ≡ made_at host e p
  by_test e p true h = of_use link host e p i h
  by_test e p false h = refl

-- a link that was stored has what is given on it
pub of_stored : (link : Link) (host : HostState) → IsOf link (with_link link host)
of_stored link host = sym (made_stored link host link.end link.peer ∙ ap (λ b. cond b link.created (made_at host link.end link.peer)) (link_self link))

-- ---- sockets

pub same : (before after : HostState) → after.links ≡ before.links → after.ends ≡ before.ends → Quiet before after
same before after e f = record { made = λ end peer. ap (λ (l : List Link). made_at (record before { links = l }) end peer) e; counts = λ end. ap (λ (l : List Endpoint). arrived_at (record before { ends = l }) end) f }

ended : (o : Option Socket) (host : HostState) → Quiet host (ended_in o host)
ended None host = at_rest host
ended (Some socket) host = same host (ended_in (Some socket) host) refl refl

pub ends : (sock : ℕ) (host : HostState) → Quiet host (end_socket sock host)
ends sock host = ended (find (is_socket sock) host.sockets) host

pub left : (sock : ℕ) (host : HostState) → AllQuiet host (leaves sock host)
left sock host = (ends sock host, λ e c p n. refl)

pub one_plain : (host : HostState) (sock : ℕ) (bytes : List ℕ) → AllQuiet host (writes sock bytes host)
one_plain host sock bytes = (at_rest host, λ e c p n. refl)

pub answered : (sock : ℕ) (answer : Answer) (host : HostState) → AllQuiet host (answers_and_leaves sock answer host)
answered sock answer host = chained host (writes sock (answer_spelling answer) host) (leaves sock) (one_plain host sock (answer_spelling answer)) (λ next q. left sock next)

pub left_off : (state : LinkState) (host : HostState) → AllQuiet host (leaves_off state host)
left_off (states.Up sock probed) host = (ends sock host, λ e c p n. refl)
left_off (states.Dialing sock) host = left sock host
left_off states.Idle host = (at_rest host, λ e c p n. refl)
left_off states.AwaitOther host = (at_rest host, λ e c p n. refl)

dialed_one : (sock : ℕ) (link : Link) (host : HostState) → AllQuiet host (dials_for sock link host)
dialed_one sock link host = by_test (nat_lt host.dials most_dials) where
  by_test : (b : Bool) → AllQuiet host (cond b (Ok (steps.Dial sock link.end link.peer ∷ [], with_socket (dialed sock link.end link.peer) (record host { dials = host.dials + 1 }))) (Err stops.Worn))
  by_test true = (same host _ refl refl, λ e c p n. refl)
  by_test false = tt

up_told : (sock : ℕ) (host : HostState) → AllQuiet host (does (steps.Up sock) host)
up_told sock host = (at_rest host, λ e c p n. refl)

frames_plain : (sock : ℕ) (items : List (Frame × Weight)) → TellsNone (map (frame_step sock) items)
frames_plain sock [] = λ e c p n. refl
frames_plain sock (item ∷ rest) = frames_plain sock rest

flushed : (sock : ℕ) (link : Link) (host : HostState) → IsOf link host → AllQuiet host (flushes_to sock link host)
flushed sock link host i = (stored_quiet (record link { waits = [] }) host i, frames_plain sock link.waits)

accepted : (sock : ℕ) (link : Link) (host : HostState) → IsOf link host → AllQuiet host (accepts_on sock link host)
accepted sock link host i = chained host (does (steps.Up sock) host then writes sock (answer_spelling answers.Accepted)) (flushes_to sock link) (chained host (does (steps.Up sock) host) (writes sock (answer_spelling answers.Accepted)) (up_told sock host) (λ next q. one_plain next sock (answer_spelling answers.Accepted))) (λ next q. flushed sock link next (of_next link host next i q))

pub closed_said : (state : LinkState) (host : HostState) → AllQuiet host (says_closed state host)
closed_said (states.Up sock probed) host = one_plain host sock (frame_spelling frames.EndClosed)
closed_said (states.Dialing sock) host = (at_rest host, λ e c p n. refl)
closed_said states.Idle host = (at_rest host, λ e c p n. refl)
closed_said states.AwaitOther host = (at_rest host, λ e c p n. refl)

raised_one : (state : LinkState) (link : Link) (host : HostState) → IsOf link host → AllQuiet host (raised state link host)
raised_one (states.Up sock probed) link host i = chained host (does (steps.Up sock) host) (flushes_to sock link) (up_told sock host) (λ next q. flushed sock link next (of_next link host next i q))
raised_one (states.Dialing sock) link host i = (at_rest host, λ e c p n. refl)
raised_one states.Idle link host i = (at_rest host, λ e c p n. refl)
raised_one states.AwaitOther link host i = (at_rest host, λ e c p n. refl)

acknowledged_one : (state : LinkState) (host : HostState) → AllQuiet host (acknowledged state host)
acknowledged_one (states.Up sock probed) host = one_plain host sock (frame_spelling frames.ProbeAck)
acknowledged_one (states.Dialing sock) host = (at_rest host, λ e c p n. refl)
acknowledged_one states.Idle host = (at_rest host, λ e c p n. refl)
acknowledged_one states.AwaitOther host = (at_rest host, λ e c p n. refl)

failed : (link : Link) (why : Why) (host : HostState) → AllGo host (fails_with link why (with_link (forgotten link link.state) host))
failed link why host = record { made = λ e c p. so e c p; fewer = λ e c p. subst (λ (n : ℕ). n ≤ made_so host e c p) (sym (so e c p)) (below (is_link e p link) (made_so host e c p)); counts = λ e. refl } where
  so : (e c : ℕ) (p : Address) → made_so (with_link (forgotten link link.state) host) e c p ≡ cond (is_link e p link) 0 (made_so host e c p)
  so e c p = ap (λ (t : List Connection). open_in t c) (made_stored (forgotten link link.state) host e p) ∙ by_test (is_link e p link) where
    by_test : (b : Bool) → open_in (cond b [] (made_at host e p)) c ≡ cond b 0 (made_so host e c p)
    by_test true = refl
    by_test false = refl

  below : (b : Bool) (n : ℕ) → cond b 0 n ≤ n
  below true n = none n where
    none : (n : ℕ) → 0 ≤ n
    none n = omega arith
  below false n = same_below n n refl

-- the link that is stored is quiet, whatever was done but shutting it
abbrev IsNoClose : LinkAct → Type 0
IsNoClose acts.Close = ⊥
IsNoClose act = Unit {0}

acted : (act : LinkAct) (old : LinkState) (input : LinkIn) (link : Link) (host : HostState) → IsNoClose act → IsOf link host → AllGo host (does_act act old input link host)
acted acts.Nothing old input link host n i = going host (still host) (at_rest host, λ e c p n. refl)
acted acts.Dial old input link host n i = going host (dials_for (wanted_on input) link host) (dialed_one (wanted_on input) link host)
acted acts.Accept old input link host n i = going host (accepts_on (asked_on input) link host) (accepted (asked_on input) link host i)
acted acts.Cross old input link host n i = going host (answers_and_leaves (asked_on input) answers.Crossed host) (answered (asked_on input) answers.Crossed host)
acted (acts.LeaveAndAccept own) old input link host n i = going host (leaves own host then accepts_on (asked_on input) link) (chained host (leaves own host) (accepts_on (asked_on input) link) (left own host) (λ next q. accepted (asked_on input) link next (of_next link host next i q)))
acted (acts.CrossAndProbe up) old input link host n i = going host (answers_and_leaves (asked_on input) answers.Crossed host then writes up (frame_spelling frames.Probe)) (chained host (answers_and_leaves (asked_on input) answers.Crossed host) (writes up (frame_spelling frames.Probe)) (answered (asked_on input) answers.Crossed host) (λ next q. one_plain next up (frame_spelling frames.Probe)))
acted acts.Raise old input link host n i = going host (raised link.state link host) (raised_one link.state link host i)
acted (acts.Leave own) old input link host n i = going host (leaves own host) (left own host)
acted (acts.Fail why) old input link host n i = chained_go host (leaves_off old host) (λ left. fails_with link why (with_link (forgotten link link.state) left)) (left_off old host) (λ next q. failed link why next)
acted acts.Acknowledge old input link host n i = going host (acknowledged link.state host) (acknowledged_one link.state host)
acted acts.Close old input link host n i = absurd n

-- the table shuts a link for that input alone
abbrev pub IsNoShut : LinkIn → Type 0
IsNoShut inputs.Shut = ⊥
IsNoShut input = Unit {0}

no_close : (state : LinkState) (input : LinkIn) (greater : Bool) → IsNoShut input → IsNoClose (step_of state input greater).1
unfolding step_of
no_close states.Idle (inputs.Want n) greater w = tt
no_close (states.Dialing d) (inputs.Want n) greater w = tt
no_close states.AwaitOther (inputs.Want n) greater w = tt
no_close (states.Up u probed) (inputs.Want n) greater w = tt
no_close states.Idle (inputs.Asked s) greater w = tt
no_close states.AwaitOther (inputs.Asked s) greater w = tt
no_close (states.Dialing d) (inputs.Asked s) true w = tt
no_close (states.Dialing d) (inputs.Asked s) false w = tt
no_close (states.Up u false) (inputs.Asked s) greater w = tt
no_close (states.Up u true) (inputs.Asked s) greater w = tt
no_close (states.Dialing d) (inputs.Answered links.Accepted) greater w = tt
no_close (states.Dialing d) (inputs.Answered links.Crossed) greater w = tt
no_close (states.Dialing d) (inputs.Answered links.Invalid) greater w = tt
no_close (states.Dialing d) (inputs.Answered links.Mismatch) greater w = tt
no_close (states.Up u true) inputs.Late greater w = tt
no_close (states.Up u false) inputs.Late greater w = tt
no_close state inputs.Shut greater w = absurd w
no_close state input greater w = tt

-- what a link makes of an input
pub heard : (input : LinkIn) (link : Link) (host : HostState) → IsNoShut input → IsOf link host → AllGo host (hears input link host)
heard input link host w i = from_quiet host (with_link now host) (does_act told.1 link.state input now (with_link now host)) (stored_quiet now host i) (acted told.1 link.state input now (with_link now host) (no_close link.state input (is_greater (own_address host link.end) link.peer) w) (of_stored now host)) where
  told : LinkState × LinkAct
  told = step_of link.state input (is_greater (own_address host link.end) link.peer)

  now : Link
  now = record link { state = told.0 }

-- ---- what an endpoint asks of a link

-- a link that wants a socket dials at most
pub wanted : (n : ℕ) (link : Link) (host : HostState) → IsOf link host → AllQuiet host (hears (inputs.Want n) link host)
unfolding step_of
wanted n link host i = by_state link.state refl where
  now_in : LinkState → Link
  now_in state = record link { state = state }

  told : LinkState → LinkState × LinkAct
  told state = step_of state (inputs.Want n) (is_greater (own_address host link.end) link.peer)

  By : LinkState → Type 0
  By state = AllQuiet host (does_act (told state).1 state (inputs.Want n) (now_in (told state).0) (with_link (now_in (told state).0) host))

  by_state : (state : LinkState) → link.state ≡ state → By state
  by_state states.Idle e = quiet_from host (with_link (now_in (states.Dialing n)) host) (dials_for n (now_in (states.Dialing n)) (with_link (now_in (states.Dialing n)) host)) (stored_quiet (now_in (states.Dialing n)) host i) (dialed_one n (now_in (states.Dialing n)) (with_link (now_in (states.Dialing n)) host))
  by_state (states.Dialing d) e = (stored_quiet (now_in (states.Dialing d)) host i, λ e c p n. refl)
  by_state states.AwaitOther e = (stored_quiet (now_in states.AwaitOther) host i, λ e c p n. refl)
  by_state (states.Up u probed) e = (stored_quiet (now_in (states.Up u probed)) host i, λ e c p n. refl)
