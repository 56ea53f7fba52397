use Rattle.std.specs.Prelude.{◌+◌, take}
use Rattle.ch_model.specs.Journal.{raw_lines, longest_journal}
use Rattle.ch_laws_one_node.proofs.Reading.{of_one_node}
use Rattle.ch_laws_one_node.proofs.readable.Goals as goal

pub returns : goal.returns
returns c = λ bytes. of_one_node (raw_lines (take (longest_journal + 1) bytes))
