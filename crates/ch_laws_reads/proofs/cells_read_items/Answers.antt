use Rattle.ch_laws_reads.proofs.CellReads.{cell_read}
use Rattle.ch_laws_reads.proofs.cells_read_items.Goals as goal

pub returns : goal.returns
returns c = cell_read
