use Rattle.ch_laws_messages.proofs.ArrivedTurns.{fresh_so, got_so_kept}
use Rattle.ch_laws_messages.proofs.arrived.messages_arrive_in_order.Goals as goal

pub returns-clause-fresh : goal.returns-clause-fresh
returns-clause-fresh z = fresh_so

pub returns-clause-kept : goal.returns-clause-kept
returns-clause-kept z = got_so_kept
