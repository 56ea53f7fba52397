use Rattle.ch_delivery.proofs.Keeps.{inv_reached}
use Rattle.ch_delivery.proofs.Drains.{names_go_on}
use Rattle.ch_delivery.proofs.names_go_on.Goals as goal

pub returns : goal.returns
returns c = λ p r. names_go_on p (inv_reached p r)
