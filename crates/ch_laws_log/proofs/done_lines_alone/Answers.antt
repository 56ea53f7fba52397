use Rattle.ch_laws_log.specs.Lines.{is_of_no_end}
use Rattle.ch_laws_log.proofs.Blocks.{all_alone}
use Rattle.ch_laws_log.proofs.OwnEntries.{line_alone}
use Rattle.ch_laws_log.proofs.done_lines_alone.Goals as goal

pub returns : goal.returns
returns c = λ least journal log numbered of is. all_alone least journal is_of_no_end log (line_alone journal) numbered of is
