use Rattle.ch_laws_plain.proofs.HearsCells.{turn_carries}
use Rattle.ch_laws_plain.proofs.hears.turns_read_plainly.Goals as goal

pub returns : goal.returns
returns c = turn_carries
