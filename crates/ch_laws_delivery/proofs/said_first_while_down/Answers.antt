use Rattle.ch_laws_delivery.proofs.SaysFirst.{is_said_first}
use Rattle.ch_laws_delivery.proofs.said_first_while_down.Goals as goal

pub returns : goal.returns
returns z = λ names apart scene c name conn said h. is_said_first names apart scene c name conn said h
