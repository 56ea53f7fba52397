use Rattle.std.specs.Prelude.{take, ◌+◌}
use Rattle.ch_model.specs.Journal.{journal_of, raw_lines, longest_journal}
use Rattle.ch_model.specs.LinesBuilt.{many_nodes}
use Rattle.ch_laws_many.proofs.Declared.{names_apart}
use Rattle.ch_laws_many.proofs.Journals.{is_journal}
use Rattle.ch_laws_acting.proofs.Lines.{all_answered}
use Rattle.ch_laws_acting.proofs.lines_of_lives_answer.Goals as goal

pub returns : goal.returns
returns c = λ bytes log is. all_answered (journal_of many_nodes bytes) (is_journal bytes) (names_apart (raw_lines (take (longest_journal + 1) bytes))) log is
