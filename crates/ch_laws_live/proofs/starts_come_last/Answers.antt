use Rattle.ch_laws_live.proofs.Steps.{next_starts, on_starts_last, connect_starts_last, send_starts_last, close_starts_last}
use Rattle.ch_laws_live.proofs.starts_come_last.Goals as goal

pub returns : goal.returns
returns c = record { on = on_starts_last; next = next_starts; connect = connect_starts_last; send = send_starts_last; close = close_starts_last }
