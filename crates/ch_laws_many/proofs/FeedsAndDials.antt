-- What is fed and dialed in the log of a journal of many nodes.
use Rattle.std.specs.Prelude.{◌≡◌, List, [], Ok}
use Rattle.std.proofs.Common.{sym, ◌∙◌}
use Rattle.ch_model.specs.declared.entry.Entry.{Entry}
use Rattle.ch_model.specs.declared.line.Line.{Line}
use Rattle.ch_model.specs.AccountsBytes.{feeds_the_unread, feeds_the_end}
use Rattle.ch_model.specs.World.{log_of}
use Rattle.ch_laws_many.specs.FeedsAndDials.{FeedsAndDials}
use Rattle.ch_laws_many.proofs.Dials.{all_dialed}
use Rattle.ch_laws_many.proofs.Fed.{alone, steps_pass, unread_still, unread_own, end_still, end_own}
use Rattle.ch_laws_many.proofs.Reached.{IsJournal, all_tested, as_each}

pub feeds_and_dials : (journal : List Line) → IsJournal journal → (log : List Entry) → log_of journal ≡ Ok log → FeedsAndDials journal log
feeds_and_dials journal j log is = record {
  unread_alone = sym (as_each (feeds_the_unread journal) [] log) ∙ all_tested journal j (alone (feeds_the_unread journal)) (steps_pass journal j (feeds_the_unread journal) (unread_still journal) (unread_own journal)) log is;
  true_ends = sym (as_each (feeds_the_end journal) [] log) ∙ all_tested journal j (alone (feeds_the_end journal)) (steps_pass journal j (feeds_the_end journal) (end_still journal) (end_own journal)) log is;
  dials_ordered = all_dialed journal j log is;
}
