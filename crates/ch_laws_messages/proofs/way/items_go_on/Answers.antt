use Rattle.ch_laws_messages.proofs.WayCome.{way_under}
use Rattle.ch_laws_messages.proofs.way.items_go_on.Goals as goal

pub returns : goal.returns
returns z = way_under
