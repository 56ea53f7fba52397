use Rattle.ch_laws_log.proofs.CellTold.{cell_told}
use Rattle.ch_laws_log.proofs.cells_tell_ends.Goals as goal

pub returns : goal.returns
returns c = cell_told
