use Rattle.ch_laws_raced.proofs.RaceItemsItems.{keeps_raced}
use Rattle.ch_laws_raced.proofs.race_items.items_keep_pairs_reached.Goals as goal

pub returns : goal.returns
returns z = keeps_raced
