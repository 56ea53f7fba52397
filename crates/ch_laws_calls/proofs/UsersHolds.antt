-- What a host does for its links leaves whose link its ends are for.
use Rattle.std.proofs.Common.{◌≡◌, ◌≤◌, ℕ, ◌+◌, ◌*◌, Bool, true, false, cond, inl, inr, [], ◌∷◌, Ok, Err, refl, sym, ap, ◌∙◌, subst, arith}
use Rattle.std.specs.Prelude.{find, Option, Some, None, ◌==◌, nat_lt}
use Rattle.ch_base.specs.declared.address.Address.{Address}
use Rattle.ch_base.specs.declared.event.Why.{Why}
use Rattle.ch_base.specs.declared.memory.Stop.TheVariants as stops
use Rattle.ch_wire.specs.Spelling.{answer_spelling, frame_spelling}
use Rattle.ch_wire.specs.declared.answer.Answer.{Answer}
use Rattle.ch_wire.specs.declared.answer.Answer.TheVariants as answers
use Rattle.ch_wire.specs.declared.frame.Frame.TheVariants as frames
use Rattle.ch_link.specs.Table.{step_of}
use Rattle.ch_link.specs.declared.LinkAct.{LinkAct}
use Rattle.ch_link.specs.declared.LinkAct.TheVariants as acts
use Rattle.ch_link.specs.declared.LinkIn.{LinkIn}
use Rattle.ch_link.specs.declared.LinkState.{LinkState}
use Rattle.ch_link.specs.declared.LinkState.TheVariants as states
use Rattle.ch_model.specs.declared.step.Step.TheVariants as steps
use Rattle.ch_model.specs.Greater.{is_greater}
use Rattle.ch_model.specs.HostLinks.{most_dials, dialed, dials_for, accepts_on, asked_on, wanted_on, fails_with, says_closed, raised, acknowledged, does_act, hears}
use Rattle.ch_model.specs.HostState.{Link, Socket, HostState}
use Rattle.ch_model.specs.HostSteps.{Stepped, still, does, after_steps, ◌then◌, is_socket, own_address, with_link, with_socket}
use Rattle.ch_model.specs.HostWrites.{writes, leaves, answers_and_leaves, flushes_to, forgotten, ended_in, end_socket, leaves_off}
use Rattle.ch_model.specs.Stages.{Ended}
use Rattle.ch_laws_log.proofs.HostTold.{number_found, find_stored}
use Rattle.ch_laws_log.proofs.Stored.{number_is}
use Rattle.ch_laws_links.proofs.Table.{WhereDials, WhereWants, dials_wanted}
use Rattle.ch_laws_calls.specs.UsersRecords.{Users, IsUser, IsKept, IsStill, IsFree, Holds, AllHold}

-- ---- one thing and then another

pub user_onward : (may : ℕ × Address → Type 0) (one two three : Option (ℕ × Address)) → IsUser may one two → IsUser may two three → IsUser may one three
user_onward may one two three a (inr b) = inr b
user_onward may one two three (inl a) (inl b) = inl (b ∙ a)
user_onward may one two three (inr a) (inl b) = inr (a.0, b ∙ a.1, a.2)

pub still_onward : (may : ℕ × Address → Type 0) (one two : Socket) (o : Option Socket) → IsKept may one two → IsStill may two o → IsStill may one o
still_onward may one two None a b = b
still_onward may one two (Some three) a b = record { peer_host = b.peer_host ∙ a.peer_host; user = user_onward may one.user two.user three.user a.user b.user }

pub onward : (may : Users) (one two three : HostState) → Holds may one two → Holds may two three → Holds may one three
onward may one two three a b = record {
  free = b.free;
  same = λ n socket f. by_two n socket (find (is_socket n) two.sockets) refl (a.same n socket f);
} where
  by_two : (n : ℕ) (socket : Socket) (o : Option Socket) → find (is_socket n) two.sockets ≡ o → IsStill (may n) socket o → IsStill (may n) socket (find (is_socket n) three.sockets)
  by_two n socket None e k = absurd k
  by_two n socket (Some next) e k = still_onward (may n) socket next (find (is_socket n) three.sockets) k (b.same n next e)

pub chained : (may : Users) (host : HostState) (done : Stepped) (f : HostState → Stepped) → AllHold may host done → ((next : HostState) → AllHold may next (f next)) → AllHold may host (done then f)
chained may host (Ok done) f a g = from (f done.1) (g done.1) where
  from : (more : Stepped) → AllHold may done.1 more → AllHold may host (after_steps done.0 more)
  from (Ok more) b = λ s. let one = a s in onward may host done.1 more.1 one (b one.free)
  from (Err stop) b = tt
chained may host (Err stop) f a g = tt

-- what follows a host that is as another
pub from_held : (may : Users) (one two : HostState) (done : Stepped) → (IsFree one → Holds may one two) → AllHold may two done → AllHold may one done
from_held may one two (Ok done) k f = λ s. let first = k s in onward may one two done.1 first (f first.free)
from_held may one two (Err stop) k f = tt

-- ---- what changes no socket

pub is_same : (may : ℕ × Address → Type 0) (socket : Socket) → IsKept may socket socket
is_same may socket = record { peer_host = refl; user = inl refl }

pub alike : (may : Users) (before after : HostState) → after.sockets ≡ before.sockets → after.dials ≡ before.dials → IsFree before → Holds may before after
alike may before after sockets dials s = record {
  free = λ k l. ap (find (is_socket (2 * k))) sockets ∙ s k (subst (λ (m : ℕ). m ≤ k) dials l);
  same = λ n socket f. subst (λ (o : Option Socket). IsStill (may n) socket o) (sym (ap (find (is_socket n)) sockets ∙ f)) (is_same (may n) socket);
}

pub at_rest : (may : Users) (host : HostState) → IsFree host → Holds may host host
at_rest may host = alike may host host refl refl

-- ---- what changes a socket

-- a socket is kept in place of one that it keeps
pub keeps : (may : Users) (new old : Socket) (host : HostState) → find (is_socket new.number) host.sockets ≡ Some old → IsKept (may new.number) old new → IsFree host → Holds may host (with_socket new host)
keeps may new old host is k s = record {
  free = λ k l. find_stored new host.sockets (2 * k) ∙ by_free k l (new.number == 2 * k) refl;
  same = λ n socket f. subst (λ (o : Option Socket). IsStill (may n) socket o) (sym (find_stored new host.sockets n)) (by_same n socket f (new.number == n) refl);
} where
  by_free : (k : ℕ) → host.dials ≤ k → (b : Bool) → (new.number == 2 * k) ≡ b → cond b (Some new) (find (is_socket (2 * k)) host.sockets) ≡ None
  by_free k l true e = let gone : ◌≡◌ {A = Option Socket} (Some old) None = sym (subst (λ (m : ℕ). find (is_socket m) host.sockets ≡ Some old) (number_is new.number (2 * k) e) is) ∙ s k l in absurd cc
  by_free k l false e = s k l

  one : (a b : Socket) → ◌≡◌ {A = Option Socket} (Some a) (Some b) → a ≡ b
  one a b e = cc

  by_same : (n : ℕ) (socket : Socket) → find (is_socket n) host.sockets ≡ Some socket → (b : Bool) → (new.number == n) ≡ b → IsStill (may n) socket (cond b (Some new) (find (is_socket n) host.sockets))
  by_same n socket f true e = subst (λ (m : ℕ). IsKept (may m) socket new) (number_is new.number n e)
      (subst (λ (w : Socket). IsKept (may new.number) w new) (one old socket (sym is ∙ subst (λ (m : ℕ). find (is_socket m) host.sockets ≡ Some socket) (sym (number_is new.number n e)) f)) k)
  by_same n socket f false e = subst (λ (o : Option Socket). IsStill (may n) socket o) (sym f) (is_same (may n) socket)

-- an end is over
over : (may : Users) (sock : ℕ) (host : HostState) → IsFree host → Holds may host (end_socket sock host)
over may sock host s = by_socket (find (is_socket sock) host.sockets) refl where
  by_socket : (o : Option Socket) → find (is_socket sock) host.sockets ≡ o → Holds may host (ended_in o host)
  by_socket None f = at_rest may host s
  by_socket (Some socket) f = keeps may (record socket { stage = Ended; since = [] }) socket host (subst (λ (m : ℕ). find (is_socket m) host.sockets ≡ Some socket) (sym (number_found sock host.sockets socket f)) f)
      (record { peer_host = refl; user = inl refl }) s

-- the next socket is dialed
dials_next : (may : Users) (end : ℕ) (peer : Address) (host : HostState) → IsFree host → Holds may host (with_socket (dialed (2 * host.dials) end peer) (record host { dials = host.dials + 1 }))
dials_next may end peer host s = record {
  free = λ k l. find_stored new host.sockets (2 * k) ∙ by_free k l (2 * host.dials == 2 * k) refl;
  same = λ n socket f. subst (λ (o : Option Socket). IsStill (may n) socket o) (sym (find_stored new host.sockets n)) (by_same n socket f (2 * host.dials == n) refl);
} where
  new : Socket
  new = dialed (2 * host.dials) end peer

  past : {A : Type 0} (d k : ℕ) → d + 1 ≤ k → 2 * d ≡ 2 * k → A
  past d k l e = let no : ⊥ = omega (arith, l, e) in absurd no

  below : (d k : ℕ) → d + 1 ≤ k → d ≤ k
  below d k l = omega (arith, l)

  same_as : (n : ℕ) → n ≤ n
  same_as n = omega arith

  by_free : (k : ℕ) → host.dials + 1 ≤ k → (b : Bool) → (2 * host.dials == 2 * k) ≡ b → cond b (Some new) (find (is_socket (2 * k)) host.sockets) ≡ None
  by_free k l true e = past host.dials k l (number_is (2 * host.dials) (2 * k) e)
  by_free k l false e = s k (below host.dials k l)

  by_same : (n : ℕ) (socket : Socket) → find (is_socket n) host.sockets ≡ Some socket → (b : Bool) → (2 * host.dials == n) ≡ b → IsStill (may n) socket (cond b (Some new) (find (is_socket n) host.sockets))
  by_same n socket f true e = let gone : ◌≡◌ {A = Option Socket} (Some socket) None = sym f ∙ subst (λ (m : ℕ). find (is_socket m) host.sockets ≡ None) (number_is (2 * host.dials) n e) (s host.dials (same_as host.dials)) in absurd cc
  by_same n socket f false e = subst (λ (o : Option Socket). IsStill (may n) socket o) (sym f) (is_same (may n) socket)

-- ---- the acts of the link table

pub left : (may : Users) (sock : ℕ) (host : HostState) → AllHold may host (leaves sock host)
left may sock host = over may sock host

pub answered : (may : Users) (sock : ℕ) (answer : Answer) (host : HostState) → AllHold may host (answers_and_leaves sock answer host)
answered may sock answer host = chained may host (writes sock (answer_spelling answer) host) (leaves sock) (at_rest may host) (λ next. left may sock next)

left_off : (may : Users) (state : LinkState) (host : HostState) → AllHold may host (leaves_off state host)
left_off may (states.Up sock probed) host = over may sock host
left_off may (states.Dialing sock) host = over may sock host
left_off may states.Idle host = at_rest may host
left_off may states.AwaitOther host = at_rest may host

dialed_one : (may : Users) (sock : ℕ) (link : Link) (host : HostState) → sock ≡ 2 * host.dials → AllHold may host (dials_for sock link host)
dialed_one may sock link host e = subst (λ (n : ℕ). AllHold may host (dials_for n link host)) (sym e) (by_test (nat_lt host.dials most_dials)) where
  by_test : (b : Bool) → AllHold may host (cond b (Ok (steps.Dial (2 * host.dials) link.end link.peer ∷ [], with_socket (dialed (2 * host.dials) link.end link.peer) (record host { dials = host.dials + 1 }))) (Err stops.Worn))
  by_test true = dials_next may link.end link.peer host
  by_test false = tt

flushed : (may : Users) (sock : ℕ) (link : Link) (host : HostState) → AllHold may host (flushes_to sock link host)
flushed may sock link host = alike may host (with_link (record link { waits = [] }) host) refl refl

accepted : (may : Users) (sock : ℕ) (link : Link) (host : HostState) → AllHold may host (accepts_on sock link host)
accepted may sock link host = chained may host (does (steps.Up sock) host then writes sock (answer_spelling answers.Accepted)) (flushes_to sock link)
    (chained may host (does (steps.Up sock) host) (writes sock (answer_spelling answers.Accepted)) (at_rest may host) (λ next. at_rest may next)) (λ next. flushed may sock link next)

closed_said : (may : Users) (state : LinkState) (host : HostState) → AllHold may host (says_closed state host)
closed_said may (states.Up sock probed) host = at_rest may host
closed_said may (states.Dialing sock) host = at_rest may host
closed_said may states.Idle host = at_rest may host
closed_said may states.AwaitOther host = at_rest may host

raised_one : (may : Users) (state : LinkState) (link : Link) (host : HostState) → AllHold may host (raised state link host)
raised_one may (states.Up sock probed) link host = chained may host (does (steps.Up sock) host) (flushes_to sock link) (at_rest may host) (λ next. flushed may sock link next)
raised_one may (states.Dialing sock) link host = at_rest may host
raised_one may states.Idle link host = at_rest may host
raised_one may states.AwaitOther link host = at_rest may host

acknowledged_one : (may : Users) (state : LinkState) (host : HostState) → AllHold may host (acknowledged state host)
acknowledged_one may (states.Up sock probed) host = at_rest may host
acknowledged_one may (states.Dialing sock) host = at_rest may host
acknowledged_one may states.Idle host = at_rest may host
acknowledged_one may states.AwaitOther host = at_rest may host

failed : (may : Users) (link : Link) (why : Why) (host : HostState) → AllHold may host (fails_with link why (with_link (forgotten link link.state) host))
failed may link why host = alike may host (with_link (forgotten link link.state) host) refl refl

acted : (may : Users) (act : LinkAct) (old : LinkState) (input : LinkIn) (link : Link) (host : HostState) → WhereDials act input (λ m. m ≡ 2 * host.dials) → AllHold may host (does_act act old input link host)
acted may acts.Nothing old input link host w = at_rest may host
acted may acts.Dial old input link host w = dialed_one may (wanted_on input) link host w
acted may acts.Accept old input link host w = accepted may (asked_on input) link host
acted may acts.Cross old input link host w = answered may (asked_on input) answers.Crossed host
acted may (acts.LeaveAndAccept own) old input link host w = chained may host (leaves own host) (accepts_on (asked_on input) link) (left may own host) (λ next. accepted may (asked_on input) link next)
acted may (acts.CrossAndProbe up) old input link host w = chained may host (answers_and_leaves (asked_on input) answers.Crossed host) (writes up (frame_spelling frames.Probe)) (answered may (asked_on input) answers.Crossed host) (λ next. at_rest may next)
acted may acts.Raise old input link host w = raised_one may link.state link host
acted may (acts.Leave own) old input link host w = left may own host
acted may (acts.Fail why) old input link host w = chained may host (leaves_off old host) (λ left. fails_with link why (with_link (forgotten link link.state) left)) (left_off may old host) (λ next. failed may link why next)
acted may acts.Acknowledge old input link host w = acknowledged_one may link.state host
acted may acts.Close old input link host w = chained may host (says_closed old host then leaves_off old) (λ left. still (with_link (forgotten link link.state) left)) (chained may host (says_closed old host) (leaves_off old) (closed_said may old host) (left_off may old))
    (λ next. alike may next (with_link (forgotten link link.state) next) refl refl)

-- what a link makes of an input
pub heard : (may : Users) (input : LinkIn) (link : Link) (host : HostState) → WhereWants input (λ m. m ≡ 2 * host.dials) → AllHold may host (hears input link host)
heard may input link host w = from_held may host (with_link now host) (does_act told.1 link.state input now (with_link now host)) (alike may host (with_link now host) refl refl)
    (acted may told.1 link.state input now (with_link now host) (dials_wanted link.state input (is_greater (own_address host link.end) link.peer) (λ m. m ≡ 2 * host.dials) w)) where
      told : LinkState × LinkAct
      told = step_of link.state input (is_greater (own_address host link.end) link.peer)

      now : Link
      now = record link { state = told.0 }
