use Rattle.std.specs.Prelude.{◌+◌, take}
use Rattle.ch_model.specs.Journal.{journal_of, raw_lines, longest_journal}
use Rattle.ch_model.specs.LinesBuilt.{one_node}
use Rattle.ch_laws_one_node.proofs.Reading.{of_one_node}
use Rattle.ch_laws_one_node.proofs.Frames.{all_framed}
use Rattle.ch_laws_one_node.proofs.WholeModel.{same_log}
use Rattle.ch_laws_one_node.proofs.whole_model.Goals as goal

pub returns-clause-lines : goal.returns-clause-lines
returns-clause-lines c = λ journal of fits. same_log journal of fits

pub returns-clause-bytes : goal.returns-clause-bytes
returns-clause-bytes c = λ bytes. same_log (journal_of one_node bytes) (of_one_node (raw_lines (take (longest_journal + 1) bytes))) (all_framed (raw_lines (take (longest_journal + 1) bytes)))
