use Rattle.ch_laws_log.proofs.Marks.{all_marked}
use Rattle.ch_laws_log.proofs.marked_once.Goals as goal

pub returns : goal.returns
returns c = all_marked
