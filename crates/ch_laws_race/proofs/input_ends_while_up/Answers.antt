use Rattle.ch_laws_race.proofs.Over.{ends_up}
use Rattle.ch_laws_race.proofs.input_ends_while_up.Goals as goal

pub returns : goal.returns
returns z = λ scene x cell e i s known probed h. ends_up scene x cell e i s known h.input probed h.user h.up
