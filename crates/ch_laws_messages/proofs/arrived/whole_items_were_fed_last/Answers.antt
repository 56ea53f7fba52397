use Rattle.ch_laws_messages.proofs.ArrivedFed.{fresh_last, last_turns}
use Rattle.ch_laws_messages.proofs.arrived.whole_items_were_fed_last.Goals as goal

pub returns-clause-fresh : goal.returns-clause-fresh
returns-clause-fresh z = fresh_last

pub returns-clause-kept : goal.returns-clause-kept
returns-clause-kept z = last_turns
