use Rattle.ch_laws_raced.proofs.OnceCalls.{on_goes, next_goes, connect_goes, send_goes, close_goes}
use Rattle.ch_laws_raced.proofs.once.links_go_on.Goals as goal

pub returns : goal.returns
returns c = record { on = on_goes; next = next_goes; connect = connect_goes; send = send_goes; close = close_goes }
