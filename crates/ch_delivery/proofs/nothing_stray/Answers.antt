use Rattle.ch_delivery.proofs.Keeps.{inv_reached}
use Rattle.ch_delivery.proofs.Drains.{none_stray}
use Rattle.ch_delivery.proofs.nothing_stray.Goals as goal

pub returns : goal.returns
returns c = λ p r. none_stray p (inv_reached p r)
