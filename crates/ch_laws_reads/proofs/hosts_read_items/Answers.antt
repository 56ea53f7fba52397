use Rattle.ch_laws_reads.proofs.HostItemsRead.{next_told, connected, sent, closed_conn, endpoint_closed}
use Rattle.ch_laws_reads.proofs.HostEventsRead.{event_read}
use Rattle.ch_laws_reads.proofs.hosts_read_items.Goals as goal

pub returns-clause-on : goal.returns-clause-on
returns-clause-on c = event_read

pub returns-clause-next : goal.returns-clause-next
returns-clause-next c = next_told

pub returns-clause-connect : goal.returns-clause-connect
returns-clause-connect c = connected

pub returns-clause-send : goal.returns-clause-send
returns-clause-send c = sent

pub returns-clause-close : goal.returns-clause-close
returns-clause-close c = closed_conn

pub returns-clause-close_endpoint : goal.returns-clause-close_endpoint
returns-clause-close_endpoint c = endpoint_closed
