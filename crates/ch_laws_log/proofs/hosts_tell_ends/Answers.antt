use Rattle.ch_laws_log.proofs.HostItemsTold.{next_told, connected, sent, closed_conn, endpoint_closed}
use Rattle.ch_laws_log.proofs.HostEventsTold.{event_told, joined_told, fresh_sound}
use Rattle.ch_laws_log.proofs.hosts_tell_ends.Goals as goal

pub returns-clause-fresh : goal.returns-clause-fresh
returns-clause-fresh c = fresh_sound

pub returns-clause-on : goal.returns-clause-on
returns-clause-on c = event_told

pub returns-clause-joined : goal.returns-clause-joined
returns-clause-joined c = joined_told

pub returns-clause-next : goal.returns-clause-next
returns-clause-next c = next_told

pub returns-clause-connect : goal.returns-clause-connect
returns-clause-connect c = connected

pub returns-clause-send : goal.returns-clause-send
returns-clause-send c = sent

pub returns-clause-close : goal.returns-clause-close
returns-clause-close c = closed_conn

pub returns-clause-close_endpoint : goal.returns-clause-close_endpoint
returns-clause-close_endpoint c = endpoint_closed
