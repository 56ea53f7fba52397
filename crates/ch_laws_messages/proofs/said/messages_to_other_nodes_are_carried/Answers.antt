use Rattle.ch_laws_messages.proofs.SaidSends.{went_say}
use Rattle.ch_laws_messages.proofs.said.messages_to_other_nodes_are_carried.Goals as goal

pub returns : goal.returns
returns c = went_say
