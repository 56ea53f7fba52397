use Rattle.ch_laws_race.proofs.Fed.{fed_it}
use Rattle.ch_laws_race.proofs.bytes_are_fed.Goals as goal

pub returns : goal.returns
returns z = λ scene x cell e i count s known h. fed_it scene x cell e i count s known h
