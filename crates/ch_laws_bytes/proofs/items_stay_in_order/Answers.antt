use Rattle.ch_laws_bytes.proofs.InOrder.{one_stream, read_in_order, written_last}
use Rattle.ch_laws_bytes.proofs.items_stay_in_order.Goals as goal

pub returns-clause-one : goal.returns-clause-one
returns-clause-one c = one_stream

pub returns-clause-read : goal.returns-clause-read
returns-clause-read c = read_in_order

pub returns-clause-written : goal.returns-clause-written
returns-clause-written c = written_last
