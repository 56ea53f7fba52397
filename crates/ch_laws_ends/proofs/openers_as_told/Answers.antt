use Rattle.ch_laws_ends.proofs.Lines.{sure_after}
use Rattle.ch_laws_ends.proofs.Mirrored.{opener_told}
use Rattle.ch_laws_ends.proofs.openers_as_told.Goals as goal

pub returns : goal.returns
returns c = λ journal lines log world s socket is found. opener_told journal lines log world s socket is (sure_after journal lines log world is) found
