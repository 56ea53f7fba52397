use Rattle.ch_delivery.proofs.Keeps.{inv_reached}
use Rattle.ch_delivery.proofs.Drains.{present_got}
use Rattle.ch_delivery.proofs.Delivers.{delivered}
use Rattle.ch_delivery.proofs.all_that_was_said.Goals as goal

pub returns : goal.returns
returns c = record {
  owed = λ named moves are d e is. delivered named moves are d e is;
  present = λ p r. present_got p (inv_reached p r);
}
