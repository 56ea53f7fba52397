use Rattle.ch_laws_reads.proofs.Stays.{read_of_spelled}
use Rattle.ch_laws_reads.proofs.read_as_written.Goals as goal

pub returns : goal.returns
returns c = λ e next bytes left unread all items. read_of_spelled e next bytes left unread all items
