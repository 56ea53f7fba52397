use Rattle.ch_laws_accounts.proofs.Ups.{next_ups, on_raises_none, connect_raises_none, send_raises_none, close_raises_none, close_endpoint_raises_none}
use Rattle.ch_laws_accounts.proofs.ups_are_read.Goals as goal

pub returns-clause-next : goal.returns-clause-next
returns-clause-next c = next_ups

pub returns-clause-on : goal.returns-clause-on
returns-clause-on c = on_raises_none

pub returns-clause-connect : goal.returns-clause-connect
returns-clause-connect c = connect_raises_none

pub returns-clause-send : goal.returns-clause-send
returns-clause-send c = send_raises_none

pub returns-clause-close : goal.returns-clause-close
returns-clause-close c = close_raises_none

pub returns-clause-close_endpoint : goal.returns-clause-close_endpoint
returns-clause-close_endpoint c = close_endpoint_raises_none
