use Rattle.std.proofs.Common.{◌≡◌, refl}
use Rattle.ch_link.specs.Table.{step_of}
use Rattle.ch_race.specs.Pair.{Lesser, Greater}
use Rattle.ch_race.proofs.both_crossing.Goals as goal

not_lesser : Greater ≡ Lesser → ⊥
not_lesser e = cc

pub returns-clause-forbidden : goal.returns-clause-forbidden
unfolding step_of
returns-clause-forbidden c = λ law. not_lesser ((law refl).awaits Greater refl).0
