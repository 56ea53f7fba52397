use Rattle.std.specs.Prelude.{◌+◌, take}
use Rattle.ch_model.specs.Journal.{raw_lines, longest_journal, journal_of, first_fault}
use Rattle.ch_model.specs.LinesBuilt.{many_nodes}
use Rattle.ch_laws_one_node.proofs.Places.{all_numbered}
use Rattle.ch_laws_many.proofs.AllLines.{all_known}
use Rattle.ch_laws_many.proofs.Declared.{places_apart, names_apart, numbers_rise}
use Rattle.ch_laws_many.proofs.declared_once.Goals as goal

pub returns-clause-numbered : goal.returns-clause-numbered
returns-clause-numbered c = λ bytes. numbers_rise 1 (journal_of many_nodes bytes) (first_fault many_nodes bytes) (all_numbered many_nodes (raw_lines (take (longest_journal + 1) bytes)))

pub returns-clause-places : goal.returns-clause-places
returns-clause-places c = λ bytes. places_apart (raw_lines (take (longest_journal + 1) bytes))

pub returns-clause-names : goal.returns-clause-names
returns-clause-names c = λ bytes. names_apart (raw_lines (take (longest_journal + 1) bytes))

pub returns-clause-lines : goal.returns-clause-lines
returns-clause-lines c = λ bytes. all_known (raw_lines (take (longest_journal + 1) bytes))
