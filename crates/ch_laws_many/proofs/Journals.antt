-- What is read of any bytes is a journal of many nodes.
use Rattle.std.specs.Prelude.{ℕ, ◌+◌, List, take}
use Rattle.ch_model.specs.Journal.{raw_lines, longest_journal, journal_of, first_fault}
use Rattle.ch_model.specs.LinesBuilt.{many_nodes}
use Rattle.ch_laws_one_node.proofs.Places.{all_numbered}
use Rattle.ch_laws_many.proofs.AllLines.{all_known}
use Rattle.ch_laws_many.proofs.Declared.{places_apart, numbers_rise}
use Rattle.ch_laws_many.proofs.Reached.{IsJournal}

pub is_journal : (bytes : List ℕ) → IsJournal (journal_of many_nodes bytes)
is_journal bytes = record {
  numbered = numbers_rise 1 (journal_of many_nodes bytes) (first_fault many_nodes bytes) (all_numbered many_nodes (raw_lines (take (longest_journal + 1) bytes)));
  apart = places_apart (raw_lines (take (longest_journal + 1) bytes));
  lines = all_known (raw_lines (take (longest_journal + 1) bytes));
}
