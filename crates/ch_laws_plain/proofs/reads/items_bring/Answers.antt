use Rattle.ch_laws_plain.proofs.ReadsTurns.{next_reads, ended_reads}
use Rattle.ch_laws_plain.proofs.reads.items_bring.Goals as goal

pub returns-clause-next : goal.returns-clause-next
returns-clause-next c = next_reads

pub returns-clause-ended : goal.returns-clause-ended
returns-clause-ended c = ended_reads
