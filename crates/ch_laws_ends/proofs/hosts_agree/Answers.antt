use Rattle.ch_laws_ends.proofs.Lines.{sure_after}
use Rattle.ch_laws_ends.proofs.hosts_agree.Goals as goal

pub returns : goal.returns
returns c = λ journal lines log world is. (sure_after journal lines log world is).ends.agrees
