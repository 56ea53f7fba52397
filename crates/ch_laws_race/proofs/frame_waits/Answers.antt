use Rattle.ch_laws_race.proofs.Asks.{asks_waiting, puts_waiting}
use Rattle.ch_laws_race.proofs.frame_waits.Goals as goal

pub returns-clause-asked : goal.returns-clause-asked
returns-clause-asked z = λ scene x cell item link h. asks_waiting scene x cell item link h.acts h.renewed h.busy

pub returns-clause-alone : goal.returns-clause-alone
returns-clause-alone z = λ scene x cell item link h. puts_waiting scene x cell item link h.acts h.renewed h.down
