use Rattle.ch_laws_delivery.proofs.UpSays.{is_written}
use Rattle.ch_laws_delivery.proofs.said_while_up.Goals as goal

pub returns : goal.returns
returns z = λ names apart scene c name conn id sock probed said h. is_written names apart scene c name conn id sock probed said h
