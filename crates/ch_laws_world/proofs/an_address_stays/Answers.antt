use Rattle.ch_laws_world.proofs.Journals.{address_stays}
use Rattle.ch_laws_world.proofs.an_address_stays.Goals as goal

pub returns : goal.returns
returns c = address_stays
