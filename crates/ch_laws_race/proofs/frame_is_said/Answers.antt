use Rattle.ch_laws_race.proofs.Asks.{asks_up, puts_while_up}
use Rattle.ch_laws_race.proofs.frame_is_said.Goals as goal

pub returns-clause-asked : goal.returns-clause-asked
returns-clause-asked z = λ scene x cell e i s known item link probed h. asks_up scene x cell e i s known item link probed h

pub returns-clause-alone : goal.returns-clause-alone
returns-clause-alone z = λ scene x cell e i s known item link probed h. puts_while_up scene x cell e i s known item link probed h
