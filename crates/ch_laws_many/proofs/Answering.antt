-- The lines of many nodes are answered as the log before them shows.
use Rattle.std.proofs.Common.{◌≡◌, Bool, true, false, cond, not, ◌||◌, List, Ok, Err, refl, sym, ap, ◌∙◌}
use Rattle.std.proofs.lemmas.Bool.{and_parts}
use Rattle.std.specs.Prelude.{Option}
use Rattle.ch_model.specs.declared.entry.Entry.{Entry}
use Rattle.ch_model.specs.declared.entry.Entry.TheVariants as entries
use Rattle.ch_model.specs.declared.entry.Verdict.{Verdict}
use Rattle.ch_model.specs.declared.entry.Verdict.TheVariants as verdicts
use Rattle.ch_model.specs.declared.line.Line.{Line}
use Rattle.ch_model.specs.declared.line.What.{What}
use Rattle.ch_model.specs.declared.line.What.TheVariants as lines
use Rattle.ch_model.specs.Answers.{answer_to}
use Rattle.ch_model.specs.HasAnswers.{same_answer}
use Rattle.ch_model.specs.Logs.{some_and}
use Rattle.ch_model.specs.Marks.{is_mark}
use Rattle.ch_model.specs.World.{names_of}
use Rattle.ch_model.specs.WorldHappenings.{Answered, joins, feeds}
use Rattle.ch_model.specs.WorldLines.{can_join, can_feed, line_done}
use Rattle.ch_model.specs.WorldState.{World}
use Rattle.ch_laws_log.specs.Declared.{is_declared}
use Rattle.ch_laws_log.proofs.OwnEntries.{IsDone}
use Rattle.ch_laws_ends.proofs.Heard.{joins_done, feeds_done, socket_answered, answer_is}
use Rattle.ch_laws_many.specs.ManyLines.{is_of_many}
use Rattle.ch_laws_many.specs.InOrder.{is_of_nobody, is_answered_where}
use Rattle.ch_laws_many.proofs.Happening.{join_told, come_answered, feed_told}
use Rattle.ch_laws_many.proofs.Making.{none_shut, makes_done}
use Rattle.ch_laws_many.proofs.OwnFirst.{target_declared}
use Rattle.ch_laws_many.proofs.Reached.{IsJournal, Reached, placed, owned, none_refused, Test, OfMarks, MarkPasses, MarksPass}

-- the answer is the one that the log shows
abbrev pub AnsweredAs : List Line → List Entry → What → Answered → Type 0
AnsweredAs journal log what (Ok done) = done.0.0 ≡ answer_to journal log what
AnsweredAs journal log what (Err stop) = Unit {0}

-- such lines are answered so
abbrev pub AreAnswered : List Line → (What → Bool) → Type 0
AreAnswered journal test = (log : List Entry) (what : What) (world : World) → is_of_many (names_of journal) what ≡ true → test what ≡ true → Reached journal log world → AnsweredAs journal log what (line_done what world)

by_done : (journal : List Line) (log : List Entry) (what : What) (done : Answered) → ((verdict : Verdict) (told : List Entry) (after : World) → done ≡ Ok ((verdict, told), after) → verdict ≡ answer_to journal log what) → AnsweredAs journal log what done
by_done journal log what (Ok done) each = each done.0.0 done.0.1 done.1 refl
by_done journal log what (Err stop) each = tt

pub nobody_answered : (journal : List Line) → IsJournal journal → AreAnswered journal is_of_nobody
nobody_answered journal j log (lines.Proc node) world of of_nobody r = by_verdict (line_done (lines.Proc node) world) (makes_done journal j log world node of r) where
  by_verdict : (done : Answered) → IsDone done → AnsweredAs journal log (lines.Proc node) done
  by_verdict (Ok done) e = e ∙ sym (ap (λ b. cond b verdicts.Dead verdicts.Ok) (none_shut node log r.unshut))
  by_verdict (Err stop) e = tt
nobody_answered journal j log (lines.Join s) world of of_nobody r = by_done journal log (lines.Join s) (line_done (lines.Join s) world) (λ verdict told after done.
    answer_is _ verdict told after _ (socket_answered s can_join joins world (λ socket there can. joins_done journal log world socket r.sure there can)) done
    ∙ sym (join_told journal log world s r.sure.ends.sorted.0 (placed journal j log world r s (and_parts (is_declared (names_of journal) s.from) (is_declared (names_of journal) s.to) of).1) (none_refused s log r.calm)))
nobody_answered journal j log (lines.Come s) world of of_nobody r = by_done journal log (lines.Come s) (line_done (lines.Come s) world) (λ verdict told after done.
    come_answered journal log world s verdict told after r.sure.ends.sorted.0 (placed journal j log world r s (and_parts (is_declared (names_of journal) s.from) (is_declared (names_of journal) s.to) of).1) done)
nobody_answered journal j log (lines.Feed s e count) world of of_nobody r = by_done journal log (lines.Feed s e count) (line_done (lines.Feed s e count) world) (λ verdict told after done.
    answer_is _ verdict told after _ (socket_answered s (can_feed e) (feeds e count) world (λ socket there can. feeds_done journal log world e count socket r.sure there can)) done
    ∙ sym (feed_told journal log world s e count r.sure.ends.sorted.0 (placed journal j log world r s (target_declared journal s e count of)) (owned journal j log world r s) (none_refused s log r.calm)))
nobody_answered journal j log what world of of_nobody r = absurd cc

-- ---- marks

same_self : (v : Verdict) → same_answer v v ≡ true
same_self verdicts.Ok = refl
same_self verdicts.Unknown = refl
same_self verdicts.Dead = refl
same_self verdicts.Hale = refl
same_self verdicts.Taken = refl
same_self verdicts.NoName = refl
same_self verdicts.NoRef = refl
same_self verdicts.Empty = refl
same_self verdicts.Long = refl
same_self verdicts.Full = refl
same_self verdicts.Spent = refl
same_self verdicts.Nothing = refl

-- the test of such lines, as one that asks nothing of what follows
abbrev pub answering : (What → Bool) → List Line → Test
answering test journal log x rest = is_answered_where test journal log x

pub answers_of_marks : (journal : List Line) (test : What → Bool) → OfMarks (answering test journal)
answers_of_marks journal test log (entries.Line number answer) rest e = absurd cc
answers_of_marks journal test log x rest e = plain x e where
  plain : (y : Entry) → is_mark y ≡ false → is_answered_where test journal log y ≡ true
  plain (entries.Line number answer) e = absurd cc
  plain y e = refl

pub answers_marked : (journal : List Line) (test : What → Bool) → AreAnswered journal test → MarksPass journal (answering test journal)
answers_marked journal test each log number what world of found r = by_test (test what) refl where
  asks : Bool → Verdict → Option What → Bool
  asks b answer o = not b || some_and (λ w. same_answer answer (answer_to journal log w)) o

  shown : (b : Bool) (answer : Verdict) → test what ≡ b → (b ≡ true → answer ≡ answer_to journal log what) → is_answered_where test journal log (entries.Line number answer) ≡ true
  shown b answer is so = ap (λ (o : Option What). not (some_and test o) || some_and (λ w. same_answer answer (answer_to journal log w)) o) found ∙ ap (λ c. not c || same_answer answer (answer_to journal log what)) is ∙ by_such b so where
    by_such : (c : Bool) → (c ≡ true → answer ≡ answer_to journal log what) → (not c || same_answer answer (answer_to journal log what)) ≡ true
    by_such false so = refl
    by_such true so = ap (λ (v : Verdict). same_answer answer v) (sym (so refl)) ∙ same_self answer

  marked : (b : Bool) → test what ≡ b → (done : Answered) → (b ≡ true → AnsweredAs journal log what done) → MarkPasses (answering test journal) log number done
  marked b is (Ok done) so = λ after. shown b done.0.0 is so
  marked b is (Err stop) so = tt

  by_test : (b : Bool) → test what ≡ b → MarkPasses (answering test journal) log number (line_done what world)
  by_test b is = marked b is (line_done what world) (λ such. each log what world of (is ∙ such) r)
