use Rattle.ch_laws_live.proofs.Accepts.{next_accept, on_accepts, connect_accepts, send_accepts, close_accepts}
use Rattle.ch_laws_live.proofs.links_accept_next.Goals as goal

pub returns : goal.returns
returns c = record { next = next_accept; on = on_accepts; connect = connect_accepts; send = send_accepts; close = close_accepts }
