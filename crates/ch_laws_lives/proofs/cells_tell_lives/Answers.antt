use Rattle.ch_laws_lives.proofs.CellLives.{cell_lives, new_reached}
use Rattle.ch_laws_lives.proofs.cells_tell_lives.Goals as goal

pub returns-clause-step : goal.returns-clause-step
returns-clause-step c = cell_lives

pub returns-clause-new : goal.returns-clause-new
returns-clause-new c = λ host port circle nodes. new_reached host port nodes
