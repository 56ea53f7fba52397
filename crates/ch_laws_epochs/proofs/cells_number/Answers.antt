use Rattle.ch_laws_epochs.proofs.Cells.{any_passes, tallied_after}
use Rattle.ch_laws_epochs.proofs.Worlds.{cell_fresh}
use Rattle.ch_laws_epochs.proofs.cells_number.Goals as goal

pub returns-clause-new : goal.returns-clause-new
returns-clause-new c = λ host port circle nodes. cell_fresh host port circle nodes

pub returns-clause-seated : goal.returns-clause-seated
returns-clause-seated c = λ cell after event verdict told s e. (tallied_after (λ note. Unit {0}) (λ note q. tt) cell after event verdict told (any_passes cell event) s e).0

pub returns-clause-numbers : goal.returns-clause-numbers
returns-clause-numbers c = λ cell after event verdict told by to s e. (tallied_after (λ note. Unit {0}) (λ note q. tt) cell after event verdict told (any_passes cell event) s e).1 by to
