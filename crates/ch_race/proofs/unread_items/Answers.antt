use Rattle.ch_race.proofs.Runs.{invariant_reached}
use Rattle.ch_race.proofs.unread_items.Goals as goal

pub returns : goal.returns
returns c = record { words = λ p r. (invariant_reached p r).words; probes = λ p r. (invariant_reached p r).probes }
