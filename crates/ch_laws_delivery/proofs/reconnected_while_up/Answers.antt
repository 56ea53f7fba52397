use Rattle.ch_laws_delivery.proofs.Reconnects.{is_closed}
use Rattle.ch_laws_delivery.proofs.reconnected_while_up.Goals as goal

pub returns : goal.returns
returns z = λ names apart scene c name conn id sock probed table h. is_closed names apart scene c name conn id sock probed table h
