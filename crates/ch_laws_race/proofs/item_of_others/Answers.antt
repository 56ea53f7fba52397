use Rattle.ch_laws_race.proofs.OtherReads.{reads_elsewhere}
use Rattle.ch_laws_race.proofs.item_of_others.Goals as goal

pub returns : goal.returns
returns z = λ scene place cell socket done h so. reads_elsewhere scene place cell socket h done so
