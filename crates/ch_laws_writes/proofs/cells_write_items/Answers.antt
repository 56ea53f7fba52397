use Rattle.ch_laws_writes.proofs.Cells.{cell_writes, fresh_cell}
use Rattle.ch_laws_writes.proofs.cells_write_items.Goals as goal

pub returns-clause-fresh : goal.returns-clause-fresh
returns-clause-fresh c = fresh_cell

pub returns-clause-step : goal.returns-clause-step
returns-clause-step c = cell_writes
