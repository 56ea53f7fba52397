use Rattle.ch_race.proofs.QuietMoves.{when_still}
use Rattle.ch_race.proofs.Runs.{invariant_reached}
use Rattle.ch_race.proofs.at_rest.Goals as goal

pub returns : goal.returns
returns c = λ p r. when_still p (invariant_reached p r)
