use Rattle.ch_laws_ends.proofs.Apart.{all_apart}
use Rattle.ch_laws_ends.proofs.Lines.{sure_after}
use Rattle.ch_laws_ends.proofs.ends_apart.Goals as goal

pub returns : goal.returns
returns c = λ journal lines log world is. let s = sure_after journal lines log world is in all_apart world.sockets s.ends.sorted.0.apart s.ends.each
