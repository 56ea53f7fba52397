use Rattle.ch_laws_race.proofs.Over.{ends_unnamed}
use Rattle.ch_laws_race.proofs.input_ends_elsewhere.Goals as goal

pub returns : goal.returns
returns z = λ scene x cell e i s known h. ends_unnamed scene x cell e i s known h.input h.user h.unnamed h.unseen
