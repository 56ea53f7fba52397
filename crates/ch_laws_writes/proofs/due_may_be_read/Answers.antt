use Rattle.ch_laws_writes.proofs.ReadBack.{due_may_stand}
use Rattle.ch_laws_writes.proofs.due_may_be_read.Goals as goal

pub returns : goal.returns
returns c = due_may_stand
