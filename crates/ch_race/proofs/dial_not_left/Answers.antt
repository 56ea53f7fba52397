use Rattle.std.proofs.Common.{◌≡◌}
use Rattle.ch_link.specs.Table.{step_of}
use Rattle.ch_race.specs.Naming.{Asks, Not}
use Rattle.ch_race.proofs.dial_not_left.Goals as goal

asks_not : Asks ≡ Not → ⊥
asks_not e = cc

pub returns-clause-forbidden : goal.returns-clause-forbidden
unfolding step_of
returns-clause-forbidden c = λ law. asks_not (law 0).own
