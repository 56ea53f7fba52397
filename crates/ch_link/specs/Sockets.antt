-- The sockets of a link's state, input and act, and when its timer runs.
use Rattle.std.specs.Prelude.{ℕ, nat_eq, Bool, true, false}
use Rattle.ch_link.specs.declared.LinkState.{LinkState}
use Rattle.ch_link.specs.declared.LinkState.TheVariants.{Idle, Dialing, AwaitOther, Up}
use Rattle.ch_link.specs.declared.LinkIn.{LinkIn}
use Rattle.ch_link.specs.declared.LinkIn.TheVariants.{Want, Asked}
use Rattle.ch_link.specs.declared.LinkAct.{LinkAct}
use Rattle.ch_link.specs.declared.LinkAct.TheVariants.{Accept, Cross, LeaveAndAccept, CrossAndProbe, Leave, Fail, Close}

-- the link is dialing this socket, or up on it
abbrev pub names : LinkState → ℕ → Bool
names (Dialing d) sock = nat_eq sock d
names (Up u probed) sock = nat_eq sock u
names state sock = false

-- the peer asks on this socket
abbrev pub asks : LinkIn → ℕ → Bool
asks (Asked s) sock = nat_eq sock s
asks input sock = false

-- the input comes with this socket
abbrev pub brings : LinkIn → ℕ → Bool
brings (Want n) sock = nat_eq sock n
brings (Asked s) sock = nat_eq sock s
brings input sock = false

-- the act closes this socket, of a link that was in that state and heard that input
abbrev pub closes : LinkState → LinkIn → LinkAct → ℕ → Bool
closes state input (LeaveAndAccept own) sock = nat_eq sock own
closes state input (Leave own) sock = nat_eq sock own
closes state input (Fail why) sock = names state sock
closes state input Close sock = names state sock
closes state input Cross sock = asks input sock
closes state input (CrossAndProbe old) sock = asks input sock
closes state input act sock = false

-- the act takes the socket that asks
abbrev pub accepts : LinkAct → Bool
accepts Accept = true
accepts (LeaveAndAccept own) = true
accepts act = false

-- the act tells that the link has failed
abbrev pub fails : LinkAct → Bool
fails (Fail why) = true
fails act = false

-- a timer runs for the link: what it waits for may never come
abbrev pub timer_runs : LinkState → Bool
timer_runs (Dialing d) = true
timer_runs AwaitOther = true
timer_runs (Up u probed) = probed
timer_runs Idle = false

-- just one of the two holds
abbrev pub IsOneOf : Bool → Bool → Type 0
IsOneOf true false = Unit {0}
IsOneOf false true = Unit {0}
IsOneOf a b = ⊥
