use Rattle.ch_laws_risen.proofs.Risings.{next_rises}
use Rattle.ch_laws_risen.proofs.targets_accept_next.Goals as goal

pub returns : goal.returns
returns c = next_rises
