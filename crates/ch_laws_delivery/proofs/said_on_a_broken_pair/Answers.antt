use Rattle.ch_laws_delivery.proofs.Bares.{is_wasted}
use Rattle.ch_laws_delivery.proofs.said_on_a_broken_pair.Goals as goal

pub returns : goal.returns
returns z = λ names apart scene c name said h. is_wasted names apart scene c name said h
