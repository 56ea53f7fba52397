use Rattle.ch_laws_messages.proofs.WayReading.{reading_goes}
use Rattle.ch_laws_messages.proofs.way.reading_goes_on.Goals as goal

pub returns : goal.returns
returns z = reading_goes
