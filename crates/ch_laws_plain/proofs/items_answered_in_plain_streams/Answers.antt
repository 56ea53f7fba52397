use Rattle.ch_laws_plain.proofs.Writes.{next_writes}
use Rattle.ch_laws_plain.proofs.items_answered_in_plain_streams.Goals as goal

pub returns : goal.returns
returns c = next_writes
