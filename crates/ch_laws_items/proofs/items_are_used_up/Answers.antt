use Rattle.ch_laws_items.proofs.Cells.{fewer_kept, host_stays}
use Rattle.ch_laws_items.proofs.items_are_used_up.Goals as goal

pub returns-clause-fewer : goal.returns-clause-fewer
returns-clause-fewer c = fewer_kept

pub returns-clause-no_more : goal.returns-clause-no_more
returns-clause-no_more c = host_stays
