use Rattle.ch_laws_connections.proofs.CellSteps.{cell_holds}
use Rattle.ch_laws_connections.proofs.NewCells.{new_cell}
use Rattle.ch_laws_connections.proofs.OpenGiven.{worlds_hold}
use Rattle.ch_laws_connections.proofs.given_as_opened.Goals as goal

pub returns-clause-fresh : goal.returns-clause-fresh
returns-clause-fresh c = new_cell

pub returns-clause-step : goal.returns-clause-step
returns-clause-step c = cell_holds

pub returns-clause-worlds : goal.returns-clause-worlds
returns-clause-worlds c = worlds_hold
