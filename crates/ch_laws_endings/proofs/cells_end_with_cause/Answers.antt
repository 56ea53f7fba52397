use Rattle.std.proofs.Common.{subst}
use Rattle.ch_laws_endings.proofs.CellEnds.{CelledCaused, cell_caused}
use Rattle.ch_laws_endings.proofs.cells_end_with_cause.Goals as goal

pub returns : goal.returns
returns c = λ cell after event verdict told nobody is. subst CelledCaused is (cell_caused cell event nobody)
