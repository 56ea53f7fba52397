use Rattle.ch_laws_pairs.proofs.Openers.{opener_used}
use Rattle.ch_laws_pairs.proofs.Scene.{one_asks}
use Rattle.ch_laws_pairs.proofs.openers_have_users.Goals as goal

pub returns-clause-law : goal.returns-clause-law
returns-clause-law c = opener_used

pub returns-clause-such : goal.returns-clause-such
returns-clause-such c = one_asks
