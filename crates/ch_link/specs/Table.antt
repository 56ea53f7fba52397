-- The link table: what a state and an input lead to, and the act that goes with it.
use Rattle.std.specs.Prelude.{Bool, true, false}
use Rattle.ch_base.specs.declared.event.Why.TheVariants.{Disconnect, NodeDown}
use Rattle.ch_link.specs.declared.LinkState.{LinkState}
use Rattle.ch_link.specs.declared.LinkState.TheVariants.{Idle, Dialing, AwaitOther, Up}
use Rattle.ch_link.specs.declared.LinkIn.{LinkIn}
use Rattle.ch_link.specs.declared.LinkIn.TheVariants.{Want, Asked, Answered, Gone, EndClosed, Probe, Ack, Late, Shut}
use Rattle.ch_link.specs.declared.LinkAnswer.TheVariants.{Accepted, Invalid, Crossed, Mismatch}
use Rattle.ch_link.specs.declared.LinkAct.{LinkAct}
use Rattle.ch_link.specs.declared.LinkAct.TheVariants.{Nothing, Dial, Accept, Cross, LeaveAndAccept, CrossAndProbe, Raise, Leave, Fail, Acknowledge, Close}

-- of two requests that cross, the one of the greater address is taken; what no row names changes nothing
unfoldable pub step_of : LinkState → LinkIn → Bool → LinkState × LinkAct
step_of Idle (Want n) greater = (Dialing n, Dial)
step_of state (Want n) greater = (state, Nothing)
step_of Idle (Asked s) greater = (Up s false, Accept)
step_of AwaitOther (Asked s) greater = (Up s false, Accept)
step_of (Dialing d) (Asked s) true = (Dialing d, Cross)
step_of (Dialing d) (Asked s) false = (Up s false, LeaveAndAccept d)
step_of (Up u false) (Asked s) greater = (Up u true, CrossAndProbe u)
step_of (Up u true) (Asked s) greater = (Up u true, Cross)
step_of (Dialing d) (Answered Accepted) greater = (Up d false, Raise)
step_of (Dialing d) (Answered Crossed) greater = (AwaitOther, Leave d)
step_of (Dialing d) (Answered Invalid) greater = (Idle, Fail NodeDown)
step_of (Dialing d) (Answered Mismatch) greater = (Idle, Fail Disconnect)
step_of (Dialing d) Gone greater = (Idle, Fail Disconnect)
step_of (Up u probed) Gone greater = (Idle, Fail Disconnect)
step_of (Up u probed) EndClosed greater = (Idle, Fail NodeDown)
step_of (Up u probed) Probe greater = (Up u probed, Acknowledge)
step_of (Up u probed) Ack greater = (Up u false, Nothing)
step_of (Dialing d) Late greater = (Idle, Fail Disconnect)
step_of AwaitOther Late greater = (Idle, Fail Disconnect)
step_of (Up u true) Late greater = (Idle, Fail Disconnect)
step_of Idle Late greater = (Idle, Nothing)
step_of (Up u false) Late greater = (Up u false, Nothing)
step_of state Shut greater = (Idle, Close)
step_of state input greater = (state, Nothing)
