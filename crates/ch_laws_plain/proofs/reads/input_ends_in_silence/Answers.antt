use Rattle.ch_laws_plain.proofs.ReadsTurns.{ended_silent, ended_writes, ended_plain}
use Rattle.ch_laws_plain.proofs.reads.input_ends_in_silence.Goals as goal

pub returns-clause-silent : goal.returns-clause-silent
returns-clause-silent c = ended_silent

pub returns-clause-writes : goal.returns-clause-writes
returns-clause-writes c = ended_writes

pub returns-clause-plain : goal.returns-clause-plain
returns-clause-plain c = ended_plain
