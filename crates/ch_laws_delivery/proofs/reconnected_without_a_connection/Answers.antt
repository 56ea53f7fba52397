use Rattle.ch_laws_delivery.proofs.Bares.{is_renewed}
use Rattle.ch_laws_delivery.proofs.reconnected_without_a_connection.Goals as goal

pub returns : goal.returns
returns z = λ names apart scene c name h. is_renewed names apart scene c name h
