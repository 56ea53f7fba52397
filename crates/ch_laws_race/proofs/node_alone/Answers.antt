use Rattle.ch_laws_race.proofs.Happens.{nothing_asked}
use Rattle.ch_laws_race.proofs.node_alone.Goals as goal

pub returns : goal.returns
returns z = λ scene place cell event there h. nothing_asked scene place cell event there h
