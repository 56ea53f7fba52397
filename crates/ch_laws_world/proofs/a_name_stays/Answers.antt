use Rattle.ch_laws_world.proofs.Journals.{found_still}
use Rattle.ch_laws_world.proofs.a_name_stays.Goals as goal

pub returns : goal.returns
returns c = found_still
