use Rattle.ch_laws_race.proofs.Over.{ends_dialing}
use Rattle.ch_laws_race.proofs.input_ends_while_dialing.Goals as goal

pub returns : goal.returns
returns z = λ scene x cell e i s known h. ends_dialing scene x cell e i s known h.input h.user h.dials
