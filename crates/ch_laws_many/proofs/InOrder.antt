-- The answers in the log of a journal of many nodes.
use Rattle.std.specs.Prelude.{◌≡◌, List, [], Ok}
use Rattle.std.proofs.Common.{sym, ◌∙◌}
use Rattle.ch_model.specs.declared.entry.Entry.{Entry}
use Rattle.ch_model.specs.declared.line.Line.{Line}
use Rattle.ch_model.specs.HasAnswers.{has_own_first, stands_in_place}
use Rattle.ch_model.specs.World.{names_of, log_of}
use Rattle.ch_laws_log.proofs.Marks.{all_marked}
use Rattle.ch_laws_ends.proofs.Alone.{all_alone}
use Rattle.ch_laws_many.specs.InOrder.{is_of_nobody, is_answered_where, AnswersInOrder}
use Rattle.ch_laws_many.proofs.Answering.{answering, nobody_answered, answers_of_marks, answers_marked}
use Rattle.ch_laws_many.proofs.InPlace.{standing, steps_stand}
use Rattle.ch_laws_many.proofs.OwnFirst.{own_of_marks, own_marks}
use Rattle.ch_laws_many.proofs.Reached.{IsJournal, all_tested, all_calm, marks_pass, as_each}
use Rattle.ch_laws_many.proofs.Unsettled.{each_last, each_whole}

pub in_order : (journal : List Line) → IsJournal journal → (log : List Entry) → log_of journal ≡ Ok log → AnswersInOrder journal log
in_order journal j log is = record {
  marked = all_marked journal log is;
  answered = sym (as_each (is_answered_where is_of_nobody journal) [] log) ∙ all_tested journal j (answering is_of_nobody journal) (marks_pass journal (answering is_of_nobody journal) (answers_of_marks journal is_of_nobody) (answers_marked journal is_of_nobody (nobody_answered journal j))) log is;
  of_done_lines = all_alone 1 journal log j.numbered is;
  own_first = all_tested journal j (has_own_first journal) (marks_pass journal (has_own_first journal) (own_of_marks journal) (own_marks journal j)) log is;
  settled_last = each_last (names_of journal) journal j.lines [] log (all_calm journal j log is);
  in_place = sym (as_each (stands_in_place journal) [] log) ∙ all_tested journal j (standing journal) (steps_stand journal j) log is;
  settle_feeds_all = each_whole (names_of journal) journal j.lines [] log;
}
