use Rattle.ch_laws_messages.proofs.SaidOnly.{only_one}
use Rattle.ch_laws_messages.proofs.said.openings_tell_their_pair.Goals as goal

pub returns : goal.returns
returns c = only_one
