use Rattle.std.specs.Prelude.{◌+◌, take}
use Rattle.ch_model.specs.Journal.{journal_of, raw_lines, longest_journal}
use Rattle.ch_model.specs.LinesBuilt.{one_node}
use Rattle.ch_laws_one_node.proofs.Reading.{of_one_node}
use Rattle.ch_laws_one_node.proofs.Law.{lawful_log}
use Rattle.ch_laws_one_node.proofs.lawful.Goals as goal

pub returns-clause-lines : goal.returns-clause-lines
returns-clause-lines c = λ journal log of is. lawful_log journal log of is

pub returns-clause-bytes : goal.returns-clause-bytes
returns-clause-bytes c = λ bytes log is. lawful_log (journal_of one_node bytes) log (of_one_node (raw_lines (take (longest_journal + 1) bytes))) is
