use Rattle.std.specs.Prelude.{◌+◌, take}
use Rattle.ch_model.specs.Journal.{journal_of, first_fault, raw_lines, longest_journal}
use Rattle.ch_model.specs.LinesBuilt.{one_node}
use Rattle.ch_laws_one_node.proofs.Reading.{of_one_node}
use Rattle.ch_laws_one_node.proofs.Frames.{all_framed}
use Rattle.ch_laws_one_node.proofs.Places.{all_numbered}
use Rattle.ch_laws_one_node.proofs.Blocks.{without_fault}
use Rattle.ch_laws_one_node.proofs.WholeLaw.{lawful_of_one_node}
use Rattle.ch_laws_one_node.proofs.lawful_as_promised.Goals as goal

pub returns-clause-lines : goal.returns-clause-lines
returns-clause-lines c = λ least journal log of fits rising is. lawful_of_one_node least journal log of fits rising is

pub returns-clause-bytes : goal.returns-clause-bytes
returns-clause-bytes c = λ bytes log is. lawful_of_one_node 1 (journal_of one_node bytes) log (of_one_node (raw_lines (take (longest_journal + 1) bytes))) (all_framed (raw_lines (take (longest_journal + 1) bytes))) (without_fault 1 (journal_of one_node bytes) (first_fault one_node bytes) (all_numbered one_node (raw_lines (take (longest_journal + 1) bytes)))) is
