use Rattle.ch_laws_acting.proofs.CellRests.{cell_rests}
use Rattle.ch_laws_acting.proofs.cells_tell_rests.Goals as goal

pub returns : goal.returns
returns c = cell_rests
