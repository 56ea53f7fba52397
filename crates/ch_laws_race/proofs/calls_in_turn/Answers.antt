use Rattle.ch_laws_race.proofs.InTurn.{in_turn}
use Rattle.ch_laws_race.proofs.calls_in_turn.Goals as goal

pub returns : goal.returns
returns z = λ scene x cell event calls h. in_turn scene x cell event calls h
