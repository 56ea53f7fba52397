-- What a host does keeps links and sockets saying the same of each other, and tells how its ends stand.
use Rattle.std.proofs.Common.{◌≡◌, ◌≤◌, ℕ, ◌+◌, ◌*◌, Bool, true, false, cond, List, [], ◌∷◌, ◌++◌, Ok, Err, refl, sym, ap, ◌∙◌, subst, arith}
use Rattle.std.proofs.lemmas.Bool.Decides.{nat_tests}
use Rattle.std.specs.Option.{option_map}
use Rattle.std.specs.Prelude.{◌==◌, find, Result, Option, Some, None}
use Rattle.ch_base.specs.declared.address.Address.{Address}
use Rattle.ch_link.specs.Table.{step_of}
use Rattle.ch_link.specs.declared.LinkAct.{LinkAct}
use Rattle.ch_link.specs.declared.LinkAct.TheVariants as acts
use Rattle.ch_link.specs.declared.LinkAnswer.TheVariants as links
use Rattle.ch_link.specs.declared.LinkIn.{LinkIn}
use Rattle.ch_link.specs.declared.LinkIn.TheVariants as inputs
use Rattle.ch_link.specs.declared.LinkState.{LinkState}
use Rattle.ch_link.specs.declared.LinkState.TheVariants as states
use Rattle.ch_model.specs.declared.step.Step.{Step}
use Rattle.ch_model.specs.declared.step.Step.TheVariants as steps
use Rattle.ch_model.specs.Greater.{is_greater}
use Rattle.ch_model.specs.HostLinks.{wanted_on, dialed, hears}
use Rattle.ch_model.specs.HostState.{Link, Socket, HostState}
use Rattle.ch_model.specs.HostSteps.{Stepped, after_steps, ◌then◌, own_address, is_link, link_with, is_socket}
use Rattle.ch_laws_links.specs.Naming.{link_says, socket_says}
use Rattle.ch_laws_links.specs.Standing.{Standing, IsPending, IsOpen, standing_of, standing_at, standing_after, standing_after_all, is_there, is_unrisen, IsRight, AreRight}
use Rattle.ch_laws_links.proofs.Keys.{state_at, key_of, link_named, over}
use Rattle.ch_laws_links.proofs.Table.{heard_says, is_ended_by, AsksFree, WhereWants}
use Rattle.ch_laws_links.proofs.Acts.{acted_on, is_raised_by, overs, risens, acted_standing, StateRight, ActRight}
use Rattle.ch_laws_links.proofs.Hears.{IsNamed, IsAsked, AllHeard, state_right, heard}

-- The steps may each be told, the ends stand after them as they say, and no odd number is taken that was free.
pub record Rises (before : HostState) (told : List Step) (after : HostState) : Type 0 where
  pub right : AreRight (standing_at before) told
  pub stands : (n : ℕ) → standing_at after n ≡ standing_after_all told n (standing_at before n)
  pub odd : (k : ℕ) → find (is_socket (2 * k + 1)) before.sockets ≡ None → find (is_socket (2 * k + 1)) after.sockets ≡ None

-- what a host does whose links and sockets say the same, they do so after it
abbrev pub AllGoes : {E : Type 0} → HostState → Result (List Step × HostState) E → Type 0
AllGoes before (Ok done) = IsNamed before → IsNamed done.1 × Rises before done.0 done.1
AllGoes before (Err e) = Unit {0}

-- ---- one thing and then another

pub all_after : (xs ys : List Step) (n : ℕ) (now : Option Standing) → standing_after_all (xs ++ ys) n now ≡ standing_after_all ys n (standing_after_all xs n now)
all_after [] ys n now = refl
all_after (x ∷ xs) ys n now = all_after xs ys n (standing_after x n now)

right_as_one : (f g : ℕ → Option Standing) → ((n : ℕ) → f n ≡ g n) → (step : Step) → IsRight f step → IsRight g step
right_as_one f g e (steps.Dial sock end peer) r = sym (e sock) ∙ r
right_as_one f g e (steps.Read sock) r = ap is_there (sym (e sock)) ∙ r
right_as_one f g e (steps.Write sock bytes said) r = ap is_there (sym (e sock)) ∙ r
right_as_one f g e (steps.Up sock) r = sym (e sock) ∙ r
right_as_one f g e (steps.Down sock) r = sym (e sock) ∙ r
right_as_one f g e (steps.Left sock) r = ap is_unrisen (sym (e sock)) ∙ r
right_as_one f g e (steps.Broke end peer why) r = tt
right_as_one f g e (steps.Post end event) r = tt

-- what may be told where ends stand so may be told where they stand the same
pub right_as : (f g : ℕ → Option Standing) → ((n : ℕ) → f n ≡ g n) → (told : List Step) → AreRight f told → AreRight g told
right_as f g e [] r = tt
right_as f g e (step ∷ rest) r = (right_as_one f g e step r.0, right_as (λ n. standing_after step n (f n)) (λ n. standing_after step n (g n)) (λ n. ap (standing_after step n) (e n)) rest r.1)

pub right_after : (f : ℕ → Option Standing) (xs ys : List Step) → AreRight f xs → AreRight (λ n. standing_after_all xs n (f n)) ys → AreRight f (xs ++ ys)
right_after f [] ys a b = b
right_after f (x ∷ xs) ys a b = (a.0, right_after (λ n. standing_after x n (f n)) xs ys a.1 b)

pub onward : (one two three : HostState) (xs ys : List Step) → Rises one xs two → Rises two ys three → Rises one (xs ++ ys) three
onward one two three xs ys a b = record {
  right = right_after (standing_at one) xs ys a.right (right_as (standing_at two) (λ n. standing_after_all xs n (standing_at one n)) a.stands ys b.right);
  stands = λ n. b.stands n ∙ ap (standing_after_all ys n) (a.stands n) ∙ sym (all_after xs ys n (standing_at one n));
  odd = λ k none. b.odd k (a.odd k none);
}

pub chained : (host : HostState) (done : Stepped) (f : HostState → Stepped) → AllGoes host done → ((next : HostState) → AllGoes next (f next)) → AllGoes host (done then f)
chained host (Ok done) f a g = from (f done.1) (g done.1) where
  from : (more : Stepped) → AllGoes done.1 more → AllGoes host (after_steps done.0 more)
  from (Ok more) b = λ s. let one = a s in let two = b one.0 in (two.0, onward host done.1 more.1 done.0 more.0 one.1 two.1)
  from (Err stop) b = tt
chained host (Err stop) f a g = tt

pub from_goes : (one two : HostState) (done : Stepped) → (IsNamed one → IsNamed two × Rises one [] two) → AllGoes two done → AllGoes one done
from_goes one two (Ok done) k f = λ s. let first = k s in let more = f first.0 in (more.0, onward one two done.1 [] done.0 first.1 more.1)
from_goes one two (Err stop) k f = tt

-- ---- where nothing is told of ends

-- links' states, sockets and dials are the same
pub record Alike (before after : HostState) : Type 0 where
  pub states : (end : ℕ) (peer : Address) → state_at after end peer ≡ state_at before end peer
  pub sockets : after.sockets ≡ before.sockets
  pub dials : after.dials ≡ before.dials

pub same_named : (before after : HostState) → Alike before after → IsNamed before → IsNamed after
same_named before after a s = record {
  free = λ k l. ap (λ (sockets : List Socket). find (is_socket (2 * k)) sockets) a.sockets ∙ s.free k (subst (λ (d : ℕ). d ≤ k) a.dials l);
  fit = λ n socket e. s.fit n socket (ap (λ (sockets : List Socket). find (is_socket n) sockets) (sym a.sockets) ∙ e);
  same = λ end peer n. ap (λ (state : LinkState). link_says state n) (a.states end peer) ∙ s.same end peer n ∙ sym (ap (λ (sockets : List Socket). socket_says end peer (find (is_socket n) sockets)) a.sockets);
}

-- a step that tells nothing of how an end stands
abbrev pub IsPlain : Step → Type 0
IsPlain (steps.Dial sock end peer) = ⊥
IsPlain (steps.Up sock) = ⊥
IsPlain (steps.Down sock) = ⊥
IsPlain (steps.Left sock) = ⊥
IsPlain step = Unit {0}

abbrev pub AllPlain : List Step → Type 0
AllPlain [] = Unit {0}
AllPlain (step ∷ rest) = IsPlain step × AllPlain rest

plain_one : (step : Step) → IsPlain step → (n : ℕ) (now : Option Standing) → standing_after step n now ≡ now
plain_one (steps.Dial sock end peer) p n now = absurd p
plain_one (steps.Up sock) p n now = absurd p
plain_one (steps.Down sock) p n now = absurd p
plain_one (steps.Left sock) p n now = absurd p
plain_one step p n now = refl

plain_all : (told : List Step) → AllPlain told → (n : ℕ) (now : Option Standing) → standing_after_all told n now ≡ now
plain_all [] p n now = refl
plain_all (step ∷ rest) p n now = ap (standing_after_all rest n) (plain_one step p.0 n now) ∙ plain_all rest p.1 n now

pub plain_rises : (before after : HostState) (told : List Step) → Alike before after → AllPlain told → AreRight (standing_at before) told → Rises before told after
plain_rises before after told a p r = record {
  right = r;
  stands = λ n. ap (λ (sockets : List Socket). option_map standing_of (find (is_socket n) sockets)) a.sockets ∙ sym (plain_all told p n (standing_at before n));
  odd = λ k none. ap (λ (sockets : List Socket). find (is_socket (2 * k + 1)) sockets) a.sockets ∙ none;
}

pub plain_goes : (before after : HostState) (told : List Step) → Alike before after → AllPlain told → (IsNamed before → AreRight (standing_at before) told) → IsNamed before → IsNamed after × Rises before told after
plain_goes before after told a p r s = (same_named before after a s, plain_rises before after told a p (r s))

pub alike : (host : HostState) → Alike host host
alike host = record { states = λ end peer. refl; sockets = refl; dials = refl }

pub at_rest : (host : HostState) → IsNamed host → IsNamed host × Rises host [] host
at_rest host = plain_goes host host [] (alike host) tt (λ s. tt)

-- ---- what the table makes of an input may be told

-- the input is of an end that stands as it should
abbrev pub InputRight : (ℕ → Option Standing) → LinkIn → LinkState → Type 0
InputRight f (inputs.Want m) old = f m ≡ None
InputRight f (inputs.Asked s) old = f s ≡ Some IsOpen
InputRight f (inputs.Answered a) (states.Dialing d) = f d ≡ Some IsOpen
InputRight f input old = Unit {0}

flipped : (a b : ℕ) → (a == b) ≡ false → (b == a) ≡ false
flipped a b e = grind (arith, nat_tests)

pub table_right : (old : LinkState) (input : LinkIn) (greater : Bool) (f : ℕ → Option Standing) → StateRight f old → InputRight f input old → AsksFree input old → ActRight f (step_of old input greater).1 old input (step_of old input greater).0
unfolding step_of
table_right states.Idle (inputs.Want m) greater f s i a = i
table_right states.Idle (inputs.Asked n) greater f s i a = i
table_right states.Idle (inputs.Answered w) greater f s i a = tt
table_right states.Idle inputs.Gone greater f s i a = tt
table_right states.Idle inputs.EndClosed greater f s i a = tt
table_right states.Idle inputs.Probe greater f s i a = tt
table_right states.Idle inputs.Ack greater f s i a = tt
table_right states.Idle inputs.Late greater f s i a = tt
table_right states.Idle inputs.Shut greater f s i a = tt
table_right states.AwaitOther (inputs.Want m) greater f s i a = tt
table_right states.AwaitOther (inputs.Asked n) greater f s i a = i
table_right states.AwaitOther (inputs.Answered w) greater f s i a = tt
table_right states.AwaitOther inputs.Gone greater f s i a = tt
table_right states.AwaitOther inputs.EndClosed greater f s i a = tt
table_right states.AwaitOther inputs.Probe greater f s i a = tt
table_right states.AwaitOther inputs.Ack greater f s i a = tt
table_right states.AwaitOther inputs.Late greater f s i a = tt
table_right states.AwaitOther inputs.Shut greater f s i a = tt
table_right (states.Dialing d) (inputs.Want m) greater f s i a = tt
table_right (states.Dialing d) (inputs.Asked n) true f s i a = i
table_right (states.Dialing d) (inputs.Asked n) false f s i a = (s, i, a)
table_right (states.Dialing d) (inputs.Answered links.Accepted) greater f s i a = i
table_right (states.Dialing d) (inputs.Answered links.Crossed) greater f s i a = s
table_right (states.Dialing d) (inputs.Answered links.Invalid) greater f s i a = s
table_right (states.Dialing d) (inputs.Answered links.Mismatch) greater f s i a = s
table_right (states.Dialing d) inputs.Gone greater f s i a = s
table_right (states.Dialing d) inputs.EndClosed greater f s i a = tt
table_right (states.Dialing d) inputs.Probe greater f s i a = tt
table_right (states.Dialing d) inputs.Ack greater f s i a = tt
table_right (states.Dialing d) inputs.Late greater f s i a = s
table_right (states.Dialing d) inputs.Shut greater f s i a = s
table_right (states.Up u probed) (inputs.Want m) greater f s i a = tt
table_right (states.Up u true) (inputs.Asked n) greater f s i a = i
table_right (states.Up u false) (inputs.Asked n) greater f s i a = (i, s, flipped u n a)
table_right (states.Up u probed) (inputs.Answered w) greater f s i a = tt
table_right (states.Up u probed) inputs.Gone greater f s i a = s
table_right (states.Up u probed) inputs.EndClosed greater f s i a = s
table_right (states.Up u probed) inputs.Probe greater f s i a = s
table_right (states.Up u probed) inputs.Ack greater f s i a = tt
table_right (states.Up u true) inputs.Late greater f s i a = s
table_right (states.Up u false) inputs.Late greater f s i a = tt
table_right (states.Up u probed) inputs.Shut greater f s i a = s

-- ---- an input that is of no answer and no request

abbrev pub IsOwn : LinkIn → Type 0
IsOwn (inputs.Asked s) = ⊥
IsOwn (inputs.Answered a) = ⊥
IsOwn input = Unit {0}

own_says : (input : LinkIn) → IsOwn input → (state : LinkState) (n : ℕ) → heard_says input state n ≡ link_says state n
own_says (inputs.Asked s) o state n = absurd o
own_says (inputs.Answered a) o state n = absurd o
own_says input o state n = refl

own_free : (input : LinkIn) → IsOwn input → (state : LinkState) → AsksFree input state
own_free (inputs.Asked s) o state = absurd o
own_free input o state = tt

-- no link comes up by it
own_raises : (old : LinkState) (input : LinkIn) (greater : Bool) → IsOwn input → (n : ℕ) → is_raised_by (step_of old input greater).1 input (step_of old input greater).0 n ≡ false
unfolding step_of
own_raises states.Idle (inputs.Want m) greater o n = refl
own_raises states.Idle (inputs.Asked s) greater o n = absurd o
own_raises states.Idle (inputs.Answered w) greater o n = absurd o
own_raises states.Idle inputs.Gone greater o n = refl
own_raises states.Idle inputs.EndClosed greater o n = refl
own_raises states.Idle inputs.Probe greater o n = refl
own_raises states.Idle inputs.Ack greater o n = refl
own_raises states.Idle inputs.Late greater o n = refl
own_raises states.Idle inputs.Shut greater o n = refl
own_raises states.AwaitOther (inputs.Want m) greater o n = refl
own_raises states.AwaitOther (inputs.Asked s) greater o n = absurd o
own_raises states.AwaitOther (inputs.Answered w) greater o n = absurd o
own_raises states.AwaitOther inputs.Gone greater o n = refl
own_raises states.AwaitOther inputs.EndClosed greater o n = refl
own_raises states.AwaitOther inputs.Probe greater o n = refl
own_raises states.AwaitOther inputs.Ack greater o n = refl
own_raises states.AwaitOther inputs.Late greater o n = refl
own_raises states.AwaitOther inputs.Shut greater o n = refl
own_raises (states.Dialing d) (inputs.Want m) greater o n = refl
own_raises (states.Dialing d) (inputs.Asked s) greater o n = absurd o
own_raises (states.Dialing d) (inputs.Answered w) greater o n = absurd o
own_raises (states.Dialing d) inputs.Gone greater o n = refl
own_raises (states.Dialing d) inputs.EndClosed greater o n = refl
own_raises (states.Dialing d) inputs.Probe greater o n = refl
own_raises (states.Dialing d) inputs.Ack greater o n = refl
own_raises (states.Dialing d) inputs.Late greater o n = refl
own_raises (states.Dialing d) inputs.Shut greater o n = refl
own_raises (states.Up u probed) (inputs.Want m) greater o n = refl
own_raises (states.Up u probed) (inputs.Asked s) greater o n = absurd o
own_raises (states.Up u probed) (inputs.Answered w) greater o n = absurd o
own_raises (states.Up u probed) inputs.Gone greater o n = refl
own_raises (states.Up u probed) inputs.EndClosed greater o n = refl
own_raises (states.Up u probed) inputs.Probe greater o n = refl
own_raises (states.Up u probed) inputs.Ack greater o n = refl
own_raises (states.Up u true) inputs.Late greater o n = refl
own_raises (states.Up u false) inputs.Late greater o n = refl
own_raises (states.Up u probed) inputs.Shut greater o n = refl

pub over_stands : (b : Bool) (o : Option Socket) → option_map standing_of (over b o) ≡ overs b (option_map standing_of o)
over_stands true None = refl
over_stands true (Some socket) = refl
over_stands false o = refl

over_unraised : (b r : Bool) (o : Option Socket) → r ≡ false → option_map standing_of (over b o) ≡ risens r (overs b (option_map standing_of o))
over_unraised b r o e = over_stands b o ∙ sym (ap (λ r. risens r (overs b (option_map standing_of o))) e)

-- an end stands as the act tells where none comes up by it
acted_stands : (act : LinkAct) (old : LinkState) (input : LinkIn) (new : LinkState) (end : ℕ) (peer : Address) (n : ℕ) (o : Option Socket) → is_raised_by act input new n ≡ false
    → option_map standing_of (acted_on act old input end peer n o) ≡ acted_standing act old input new n (option_map standing_of o)
acted_stands acts.Dial old input new end peer n o e = by_test (wanted_on input == n) where
  by_test : (b : Bool) → option_map standing_of (cond b (Some (dialed (wanted_on input) end peer)) o) ≡ cond b (Some IsPending) (option_map standing_of o)
  by_test true = refl
  by_test false = refl
acted_stands acts.Nothing old input new end peer n o e = over_unraised (is_ended_by old input acts.Nothing n) (is_raised_by acts.Nothing input new n) o e
acted_stands acts.Accept old input new end peer n o e = over_unraised (is_ended_by old input acts.Accept n) (is_raised_by acts.Accept input new n) o e
acted_stands acts.Cross old input new end peer n o e = over_unraised (is_ended_by old input acts.Cross n) (is_raised_by acts.Cross input new n) o e
acted_stands (acts.LeaveAndAccept own) old input new end peer n o e = over_unraised (is_ended_by old input (acts.LeaveAndAccept own) n) (is_raised_by (acts.LeaveAndAccept own) input new n) o e
acted_stands (acts.CrossAndProbe up) old input new end peer n o e = over_unraised (is_ended_by old input (acts.CrossAndProbe up) n) (is_raised_by (acts.CrossAndProbe up) input new n) o e
acted_stands acts.Raise old input new end peer n o e = over_unraised (is_ended_by old input acts.Raise n) (is_raised_by acts.Raise input new n) o e
acted_stands (acts.Leave own) old input new end peer n o e = over_unraised (is_ended_by old input (acts.Leave own) n) (is_raised_by (acts.Leave own) input new n) o e
acted_stands (acts.Fail why) old input new end peer n o e = over_unraised (is_ended_by old input (acts.Fail why) n) (is_raised_by (acts.Fail why) input new n) o e
acted_stands acts.Acknowledge old input new end peer n o e = over_unraised (is_ended_by old input acts.Acknowledge n) (is_raised_by acts.Acknowledge input new n) o e
acted_stands acts.Close old input new end peer n o e = over_unraised (is_ended_by old input acts.Close n) (is_raised_by acts.Close input new n) o e

-- the link is kept at its endpoint and peer
pub at_key : (link : Link) (host : HostState) → state_at host link.end link.peer ≡ link.state → (end : ℕ) (peer : Address) → is_link end peer link ≡ true → state_at host end peer ≡ link.state
at_key link host e end peer h = let key = key_of end peer link h in ap (λ (z : ℕ). state_at host z peer) (sym key.0) ∙ ap (λ (z : Address). state_at host link.end z) (sym key.1) ∙ e

pub at_found : (host : HostState) (end : ℕ) (peer : Address) → state_at host (link_with host end peer).end (link_with host end peer).peer ≡ (link_with host end peer).state
at_found host end peer = let key = link_named host end peer in ap (λ (z : ℕ). state_at host z (link_with host end peer).peer) key.0 ∙ ap (λ (z : Address). state_at host end z) key.1

own_asked : (input : LinkIn) (link : Link) (host : HostState) → IsOwn input → WhereWants input (λ m. m ≡ 2 * host.dials) → state_at host link.end link.peer ≡ link.state → IsNamed host → IsAsked input link host
own_asked input link host o w at s = record {
  at = at_key link host at;
  said = λ end peer n. by_key end peer n (is_link end peer link) refl;
  free = s.free;
  fit = s.fit;
  wants = w;
  asks = own_free input o link.state;
} where
  by_key : (end : ℕ) (peer : Address) (n : ℕ) (k : Bool) → is_link end peer link ≡ k → cond k (heard_says input link.state n) (link_says (state_at host end peer) n) ≡ socket_says end peer (find (is_socket n) host.sockets)
  by_key end peer n true h = own_says input o link.state n ∙ ap (λ (state : LinkState). link_says state n) (sym (at_key link host at end peer h)) ∙ s.same end peer n
  by_key end peer n false h = s.same end peer n

own_input : (input : LinkIn) (link : Link) (host : HostState) → IsOwn input → WhereWants input (λ m. m ≡ 2 * host.dials) → IsNamed host → InputRight (standing_at host) input link.state
own_input (inputs.Want m) link host o w s = ap (option_map standing_of) (ap (λ (z : ℕ). find (is_socket z) host.sockets) w ∙ s.free host.dials (same_as host.dials)) where
  same_as : (d : ℕ) → d ≤ d
  same_as d = omega arith
own_input (inputs.Asked n) link host o w s = absurd o
own_input (inputs.Answered a) link host o w s = absurd o
own_input input link host o w s = tt

-- a link that is kept hears an input that is of no answer and no request
pub hears_own : (input : LinkIn) (link : Link) (host : HostState) → IsOwn input → WhereWants input (λ m. m ≡ 2 * host.dials) → state_at host link.end link.peer ≡ link.state → AllGoes host (hears input link host)
hears_own input link host o w at = by_done (hears input link host) (λ s. heard input link host (own_asked input link host o w at s)) where
  greater : Bool
  greater = is_greater (own_address host link.end) link.peer

  by_done : (done : Stepped) → (IsNamed host → AllHeard input link host done) → AllGoes host done
  by_done (Ok done) h = λ s. let d = h s in (
    d.named,
    record {
      right = d.right (standing_at host) (table_right link.state input greater (standing_at host) (state_right host link.end link.peer link.state s at) (own_input input link host o w s) (own_free input o link.state));
      stands = λ n. ap (option_map standing_of) (d.socks n)
          ∙ acted_stands (step_of link.state input greater).1 link.state input (step_of link.state input greater).0 link.end link.peer n (find (is_socket n) host.sockets) (own_raises link.state input greater o n)
          ∙ sym (d.effect n (standing_at host n));
      odd = d.odd;
    },
  )
  by_done (Err stop) h = tt
