use Rattle.std.specs.Prelude.{◌+◌, take}
use Rattle.ch_model.specs.Journal.{raw_lines, longest_journal}
use Rattle.ch_laws_lines.proofs.Order.{all_in_order}
use Rattle.ch_laws_lines.proofs.ManyNodes.{many_early, many_in_order}
use Rattle.ch_laws_lines.proofs.declarations_first.Goals as goal

pub returns-clause-early : goal.returns-clause-early
returns-clause-early c = λ told after text what is h. many_early told after text what is h

pub returns-clause-any : goal.returns-clause-any
returns-clause-any c = λ built early bytes. all_in_order built early (raw_lines (take (longest_journal + 1) bytes))

pub returns-clause-many : goal.returns-clause-many
returns-clause-many c = λ bytes. many_in_order (raw_lines (take (longest_journal + 1) bytes))
