use Rattle.ch_laws_messages.proofs.SaidIds.{none_under}
use Rattle.ch_laws_messages.proofs.said.next_ids_are_new.Goals as goal

pub returns : goal.returns
returns c = none_under
