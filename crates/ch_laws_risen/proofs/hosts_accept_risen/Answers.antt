use Rattle.ch_laws_risen.proofs.Accepts.{next_accepts, on_accepts, connect_accepts, send_accepts, close_accepts}
use Rattle.ch_laws_risen.proofs.hosts_accept_risen.Goals as goal

pub returns-clause-next : goal.returns-clause-next
returns-clause-next c = next_accepts

pub returns-clause-on : goal.returns-clause-on
returns-clause-on c = on_accepts

pub returns-clause-connect : goal.returns-clause-connect
returns-clause-connect c = connect_accepts

pub returns-clause-send : goal.returns-clause-send
returns-clause-send c = send_accepts

pub returns-clause-close : goal.returns-clause-close
returns-clause-close c = close_accepts
