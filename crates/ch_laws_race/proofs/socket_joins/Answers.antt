use Rattle.ch_laws_race.proofs.Joined.{joins_it}
use Rattle.ch_laws_race.proofs.socket_joins.Goals as goal

pub returns : goal.returns
returns z = λ scene x cell i s known h. joins_it scene x cell i s known h
