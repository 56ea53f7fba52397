use Rattle.ch_laws_pairs.proofs.Dials.{one_dial}
use Rattle.ch_laws_pairs.proofs.Many.{many_dials}
use Rattle.ch_laws_pairs.proofs.one_dial_stands.Goals as goal

pub returns-clause-law : goal.returns-clause-law
returns-clause-law c = one_dial

pub returns-clause-many : goal.returns-clause-many
returns-clause-many c = many_dials
