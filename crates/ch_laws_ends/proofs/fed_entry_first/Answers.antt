use Rattle.ch_laws_ends.proofs.FedOwn.{fed_first}
use Rattle.ch_laws_ends.proofs.Lines.{sure_after}
use Rattle.ch_laws_ends.proofs.Mirrored.{opener_told}
use Rattle.ch_laws_ends.proofs.fed_entry_first.Goals as goal

pub returns : goal.returns
returns c = λ journal lines log world s e count told after is placed done. let sure = sure_after journal lines log world is in
    fed_first journal log world s e count told after sure placed (λ socket found. opener_told journal lines log world s socket is sure found) done
