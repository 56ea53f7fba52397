use Rattle.ch_link.proofs.Laws.{late, closed, named, shut}
use Rattle.ch_link.proofs.table_laws.Goals as goal

pub returns : goal.returns
returns c = record { late = late; closed = closed; named = named; shut = shut }
