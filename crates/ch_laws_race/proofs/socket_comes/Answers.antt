use Rattle.ch_laws_race.proofs.Come.{comes_it}
use Rattle.ch_laws_race.proofs.socket_comes.Goals as goal

pub returns : goal.returns
returns z = λ scene x cell i s h. comes_it scene x cell i s h
