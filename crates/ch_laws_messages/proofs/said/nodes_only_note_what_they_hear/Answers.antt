use Rattle.ch_laws_messages.proofs.SaidHearing.{only_item, only_ended}
use Rattle.ch_laws_messages.proofs.said.nodes_only_note_what_they_hear.Goals as goal

pub returns-clause-item : goal.returns-clause-item
returns-clause-item c = only_item

pub returns-clause-ended : goal.returns-clause-ended
returns-clause-ended c = only_ended
