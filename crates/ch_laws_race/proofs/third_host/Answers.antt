use Rattle.ch_laws_race.proofs.Others.{third_hears}
use Rattle.ch_laws_race.proofs.third_host.Goals as goal

pub returns : goal.returns
returns z = λ scene place cell event h. third_hears scene place cell event h
