use Rattle.ch_laws_messages.proofs.CarriedKept.{fresh, in_time_kept}
use Rattle.ch_laws_messages.proofs.carried.what_is_written_is_said_before.Goals as goal

pub returns-clause-kept : goal.returns-clause-kept
returns-clause-kept c = in_time_kept

pub returns-clause-fresh : goal.returns-clause-fresh
returns-clause-fresh c = fresh
