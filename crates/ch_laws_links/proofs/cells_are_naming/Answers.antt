use Rattle.ch_laws_links.proofs.Cells.{cell_naming}
use Rattle.ch_laws_links.proofs.cells_are_naming.Goals as goal

pub returns-clause-step : goal.returns-clause-step
returns-clause-step c = λ cell after event verdict told f s e. (cell_naming cell after event verdict told f s e).naming

pub returns-clause-tells : goal.returns-clause-tells
returns-clause-tells c = λ cell after event verdict told f s e. (cell_naming cell after event verdict told f s e).tells
