use Rattle.ch_delivery.proofs.Keeps.{inv_reached}
use Rattle.ch_delivery.proofs.Stood.{all_said}
use Rattle.ch_delivery.proofs.in_order_and_once.Goals as goal

pub returns : goal.returns
returns c = record {
  lawful = λ p r. (inv_reached p r).account.lawful;
  was_said = λ p r. all_said p.named p.log (inv_reached p r).account.lawful;
}
