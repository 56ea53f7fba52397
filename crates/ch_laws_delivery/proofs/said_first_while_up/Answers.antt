use Rattle.ch_laws_delivery.proofs.UpSaysFirst.{is_written_first}
use Rattle.ch_laws_delivery.proofs.said_first_while_up.Goals as goal

pub returns : goal.returns
returns z = λ names apart scene c name conn sock probed said h. is_written_first names apart scene c name conn sock probed said h
