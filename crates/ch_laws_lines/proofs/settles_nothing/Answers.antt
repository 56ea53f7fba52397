use Rattle.std.specs.Prelude.{◌+◌, take}
use Rattle.ch_model.specs.Journal.{raw_lines, longest_journal}
use Rattle.ch_laws_lines.proofs.ManyNodes.{all_settle_not}
use Rattle.ch_laws_lines.proofs.settles_nothing.Goals as goal

pub returns : goal.returns
returns c = λ bytes. all_settle_not (raw_lines (take (longest_journal + 1) bytes))
