use Rattle.ch_laws_raced.proofs.RaceItemsItems.{reads_item}
use Rattle.ch_laws_raced.proofs.race_items.an_item_is_moves.Goals as goal

pub returns : goal.returns
returns z = reads_item
