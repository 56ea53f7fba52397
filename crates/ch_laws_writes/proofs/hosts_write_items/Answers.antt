use Rattle.ch_laws_writes.proofs.Calls.{connected, sent, closed_conn, endpoint_closed}
use Rattle.ch_laws_writes.proofs.Events.{event_writes, fresh_orderly}
use Rattle.ch_laws_writes.proofs.Items.{next_writes}
use Rattle.ch_laws_writes.proofs.hosts_write_items.Goals as goal

pub returns-clause-fresh : goal.returns-clause-fresh
returns-clause-fresh c = fresh_orderly

pub returns-clause-on : goal.returns-clause-on
returns-clause-on c = event_writes

pub returns-clause-next : goal.returns-clause-next
returns-clause-next c = next_writes

pub returns-clause-connect : goal.returns-clause-connect
returns-clause-connect c = connected

pub returns-clause-send : goal.returns-clause-send
returns-clause-send c = sent

pub returns-clause-close : goal.returns-clause-close
returns-clause-close c = closed_conn

pub returns-clause-close_endpoint : goal.returns-clause-close_endpoint
returns-clause-close_endpoint c = endpoint_closed
