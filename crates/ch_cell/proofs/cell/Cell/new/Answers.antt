use Rattle.ch_cell.proofs.Replayed.{new_opened}
use Rattle.ch_cell.proofs.cell.Cell.new.Goals as goal

pub invariant_of-result : goal.invariant_of-result
invariant_of-result c = new_opened c.of.result.value c.args.site c.new.result.items c.of.ensures c.new.ensures.items
