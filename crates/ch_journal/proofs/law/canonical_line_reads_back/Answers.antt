use Rattle.ch_journal.proofs.Lines.{read_back}
use Rattle.ch_journal.proofs.WholeLines.{whole_read_back}
use Rattle.ch_journal.proofs.law.canonical_line_reads_back.Goals as goal

pub returns-clause-one_node : goal.returns-clause-one_node
returns-clause-one_node c = read_back

pub returns-clause-whole : goal.returns-clause-whole
returns-clause-whole c = whole_read_back
