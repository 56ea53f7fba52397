use Rattle.ch_laws_messages.proofs.SaidSpelled.{spelled_well}
use Rattle.ch_laws_messages.proofs.said.what_is_spelled_has_ids.Goals as goal

pub returns : goal.returns
returns c = spelled_well
