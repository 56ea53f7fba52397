use Rattle.std.specs.Prelude.{◌+◌, take}
use Rattle.ch_model.specs.Journal.{raw_lines, longest_journal}
use Rattle.ch_laws_lines.proofs.OneAsMany.{all_same}
use Rattle.ch_laws_lines.proofs.one_node_read_as_many.Goals as goal

pub returns : goal.returns
returns c = λ bytes none. all_same (raw_lines (take (longest_journal + 1) bytes)) none
