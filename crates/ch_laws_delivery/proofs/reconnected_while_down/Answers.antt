use Rattle.ch_laws_delivery.proofs.Reconnects.{is_reconnected}
use Rattle.ch_laws_delivery.proofs.reconnected_while_down.Goals as goal

pub returns : goal.returns
returns z = λ names apart scene c name conn id table h. is_reconnected names apart scene c name conn id table h
