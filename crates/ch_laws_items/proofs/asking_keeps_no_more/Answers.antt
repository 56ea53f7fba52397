use Rattle.ch_laws_items.proofs.Calls.{connected, sent, closed, endpoint_closed}
use Rattle.ch_laws_items.proofs.asking_keeps_no_more.Goals as goal

pub returns-clause-connect : goal.returns-clause-connect
returns-clause-connect c = connected

pub returns-clause-send : goal.returns-clause-send
returns-clause-send c = sent

pub returns-clause-close : goal.returns-clause-close
returns-clause-close c = closed

pub returns-clause-close_endpoint : goal.returns-clause-close_endpoint
returns-clause-close_endpoint c = endpoint_closed
