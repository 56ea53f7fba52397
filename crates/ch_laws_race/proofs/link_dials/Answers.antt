use Rattle.ch_laws_race.proofs.Dials.{asks_idle}
use Rattle.ch_laws_race.proofs.link_dials.Goals as goal

pub returns : goal.returns
returns z = λ scene x cell item link h. asks_idle scene x cell item link h
