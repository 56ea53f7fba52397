use Rattle.ch_laws_messages.proofs.SaidFresh.{fresh_say}
use Rattle.ch_laws_messages.proofs.SaidKept.{said_kept}
use Rattle.ch_laws_messages.proofs.said.all_that_is_said_is_carried.Goals as goal

pub returns-clause-kept : goal.returns-clause-kept
returns-clause-kept c = said_kept

pub returns-clause-fresh : goal.returns-clause-fresh
returns-clause-fresh c = fresh_say
