use Rattle.ch_laws_messages.proofs.WayKept.{come_kept, fresh_come}
use Rattle.ch_laws_messages.proofs.way.frames_are_under_way.Goals as goal

pub returns-clause-fresh : goal.returns-clause-fresh
returns-clause-fresh z = fresh_come

pub returns-clause-kept : goal.returns-clause-kept
returns-clause-kept z = come_kept
