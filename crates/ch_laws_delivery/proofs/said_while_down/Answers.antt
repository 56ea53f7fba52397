use Rattle.ch_laws_delivery.proofs.Says.{is_said}
use Rattle.ch_laws_delivery.proofs.said_while_down.Goals as goal

pub returns : goal.returns
returns z = λ names apart scene c name conn id said h. is_said names apart scene c name conn id said h
