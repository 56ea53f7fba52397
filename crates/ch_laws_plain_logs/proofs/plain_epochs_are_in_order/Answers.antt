use Rattle.ch_laws_plain_logs.proofs.InOrder.{epochs_in_order}
use Rattle.ch_laws_plain_logs.proofs.plain_epochs_are_in_order.Goals as goal

pub returns : goal.returns
returns c = epochs_in_order
