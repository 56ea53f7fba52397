use Rattle.ch_laws_writes.proofs.Worlds.{cells_orderly}
use Rattle.ch_laws_writes.proofs.worlds_write_items.Goals as goal

pub returns : goal.returns
returns c = cells_orderly
