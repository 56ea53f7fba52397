use Rattle.std.specs.Prelude.{◌+◌, take}
use Rattle.ch_model.specs.Journal.{journal_of, raw_lines, longest_journal}
use Rattle.ch_model.specs.LinesBuilt.{many_nodes}
use Rattle.ch_laws_lines.proofs.ManyNodes.{many_in_order}
use Rattle.ch_laws_many.proofs.Journals.{is_journal}
use Rattle.ch_laws_spelled.proofs.Fronts.{front_well}
use Rattle.ch_laws_spelled.proofs.LinesWell.{bytes_have, lines_well}
use Rattle.ch_laws_spelled.proofs.LogWell.{log_well}
use Rattle.ch_laws_spelled.proofs.says_well.Goals as goal

pub returns-clause-log : goal.returns-clause-log
returns-clause-log c = λ bytes log is. log_well (journal_of many_nodes bytes) (is_journal bytes) (lines_well bytes) log is

pub returns-clause-fronts : goal.returns-clause-fronts
returns-clause-fronts c = λ bytes front rest cut log world is. front_well (journal_of many_nodes bytes) (many_in_order (raw_lines (take (longest_journal + 1) bytes))) (is_journal bytes) (bytes_have bytes) front rest cut log world is
