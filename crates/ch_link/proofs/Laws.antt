-- The table's laws, by the cases of state and input.
use Rattle.std.proofs.Common.{◌≡◌, ℕ, nat_eq, Bool, true, false, not, refl}
use Rattle.ch_link.specs.declared.LinkState.{LinkState}
use Rattle.ch_link.specs.declared.LinkState.TheVariants.{Idle, Dialing, AwaitOther, Up}
use Rattle.ch_link.specs.declared.LinkIn.{LinkIn}
use Rattle.ch_link.specs.declared.LinkIn.TheVariants.{Want, Asked, Answered, Gone, EndClosed, Probe, Ack, Late, Shut}
use Rattle.ch_link.specs.declared.LinkAnswer.TheVariants.{Accepted, Invalid, Crossed, Mismatch}
use Rattle.ch_link.specs.declared.LinkAct.TheVariants.{Close}
use Rattle.ch_link.specs.Table.{step_of}
use Rattle.ch_link.specs.Sockets.{names, asks, brings, closes, fails, accepts, timer_runs, IsOneOf}

pub late : (state : LinkState) (greater : Bool) → fails (step_of state Late greater).1 ≡ timer_runs state
unfolding step_of
late Idle g = refl
late (Dialing d) g = refl
late AwaitOther g = refl
late (Up u true) g = refl
late (Up u false) g = refl

-- the other of the two is false
other_false : (a b : Bool) → IsOneOf a b → a ≡ not b
other_false true false h = refl
other_false false true h = refl
other_false true true h = absurd h
other_false false false h = absurd h

only_first : (a : Bool) → IsOneOf a false → a ≡ true
only_first true h = refl
only_first false h = absurd h

only_second : (b : Bool) → IsOneOf false b → b ≡ true
only_second true h = refl
only_second false h = absurd h

not_not : (b : Bool) → not (not b) ≡ b
not_not true = refl
not_not false = refl

pub closed : (state : LinkState) (input : LinkIn) (greater : Bool) (sock : ℕ) → IsOneOf (names state sock) (asks input sock) → closes state input (step_of state input greater).1 sock ≡ not (names (step_of state input greater).0 sock)
unfolding step_of
closed Idle (Want n) g i h = absurd h
closed Idle (Asked s) g i h = cc (only_second _ h)
closed Idle (Answered a) g i h = absurd h
closed Idle Gone g i h = absurd h
closed Idle EndClosed g i h = absurd h
closed Idle Probe g i h = absurd h
closed Idle Ack g i h = absurd h
closed Idle Late g i h = absurd h
closed Idle Shut g i h = absurd h
closed AwaitOther (Want n) g i h = absurd h
closed AwaitOther (Asked s) g i h = cc (only_second _ h)
closed AwaitOther (Answered a) g i h = absurd h
closed AwaitOther Gone g i h = absurd h
closed AwaitOther EndClosed g i h = absurd h
closed AwaitOther Probe g i h = absurd h
closed AwaitOther Ack g i h = absurd h
closed AwaitOther Late g i h = absurd h
closed AwaitOther Shut g i h = absurd h
closed (Dialing d) (Want n) g i h = cc (only_first _ h)
closed (Dialing d) (Asked s) true i h = cc (other_false _ _ h, not_not (nat_eq i s))
closed (Dialing d) (Asked s) false i h = other_false _ _ h
closed (Dialing d) (Answered Accepted) g i h = cc (only_first _ h)
closed (Dialing d) (Answered Crossed) g i h = only_first _ h
closed (Dialing d) (Answered Invalid) g i h = only_first _ h
closed (Dialing d) (Answered Mismatch) g i h = only_first _ h
closed (Dialing d) Gone g i h = only_first _ h
closed (Dialing d) EndClosed g i h = cc (only_first _ h)
closed (Dialing d) Probe g i h = cc (only_first _ h)
closed (Dialing d) Ack g i h = cc (only_first _ h)
closed (Dialing d) Late g i h = only_first _ h
closed (Dialing d) Shut g i h = only_first _ h
closed (Up u b) (Want n) g i h = cc (only_first _ h)
closed (Up u true) (Asked s) g i h = cc (other_false _ _ h, not_not (nat_eq i s))
closed (Up u false) (Asked s) g i h = cc (other_false _ _ h, not_not (nat_eq i s))
closed (Up u b) (Answered a) g i h = cc (only_first _ h)
closed (Up u b) Gone g i h = only_first _ h
closed (Up u b) EndClosed g i h = only_first _ h
closed (Up u b) Probe g i h = cc (only_first _ h)
closed (Up u b) Ack g i h = cc (only_first _ h)
closed (Up u true) Late g i h = only_first _ h
closed (Up u false) Late g i h = cc (only_first _ h)
closed (Up u b) Shut g i h = only_first _ h

pub named : (state : LinkState) (input : LinkIn) (greater : Bool) (sock : ℕ) → names (step_of state input greater).0 sock ≡ true → names state sock ≡ false → brings input sock ≡ true
unfolding step_of
named Idle (Want n) g i h out = h
named Idle (Asked s) g i h out = h
named Idle (Answered a) g i h out = cc
named Idle Gone g i h out = cc
named Idle EndClosed g i h out = cc
named Idle Probe g i h out = cc
named Idle Ack g i h out = cc
named Idle Late g i h out = cc
named Idle Shut g i h out = cc
named AwaitOther (Want n) g i h out = cc
named AwaitOther (Asked s) g i h out = h
named AwaitOther (Answered a) g i h out = cc
named AwaitOther Gone g i h out = cc
named AwaitOther EndClosed g i h out = cc
named AwaitOther Probe g i h out = cc
named AwaitOther Ack g i h out = cc
named AwaitOther Late g i h out = cc
named AwaitOther Shut g i h out = cc
named (Dialing d) (Want n) g i h out = cc
named (Dialing d) (Asked s) true i h out = cc
named (Dialing d) (Asked s) false i h out = h
named (Dialing d) (Answered Accepted) g i h out = cc
named (Dialing d) (Answered Crossed) g i h out = cc
named (Dialing d) (Answered Invalid) g i h out = cc
named (Dialing d) (Answered Mismatch) g i h out = cc
named (Dialing d) Gone g i h out = cc
named (Dialing d) EndClosed g i h out = cc
named (Dialing d) Probe g i h out = cc
named (Dialing d) Ack g i h out = cc
named (Dialing d) Late g i h out = cc
named (Dialing d) Shut g i h out = cc
named (Up u b) (Want n) g i h out = cc
named (Up u true) (Asked s) g i h out = cc
named (Up u false) (Asked s) g i h out = cc
named (Up u b) (Answered a) g i h out = cc
named (Up u b) Gone g i h out = cc
named (Up u b) EndClosed g i h out = cc
named (Up u b) Probe g i h out = cc
named (Up u b) Ack g i h out = cc
named (Up u true) Late g i h out = cc
named (Up u false) Late g i h out = cc
named (Up u b) Shut g i h out = cc

pub shut : (state : LinkState) (greater : Bool) → step_of state Shut greater ≡ (Idle, Close)
unfolding step_of
shut Idle g = refl
shut (Dialing d) g = refl
shut AwaitOther g = refl
shut (Up u b) g = refl

pub one : (own came own' came' : ℕ) (greater : Bool) → accepts (step_of (Dialing own) (Asked came) greater).1 ≡ not (accepts (step_of (Dialing own') (Asked came') (not greater)).1)
unfolding step_of
one d s d' s' true = refl
one d s d' s' false = refl
