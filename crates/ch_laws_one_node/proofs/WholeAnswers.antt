-- The log of one node answers its lines as the whole model promises.
use Rattle.std.specs.Prelude.{◌≡◌, ℕ, Bool, true, false, not, ◌&&◌, ◌||◌, List, [], ◌∷◌, ◌++◌, filter_map, Some, None}
use Rattle.std.specs.List.{AllByRecursion, cons_option}
use Rattle.std.proofs.Common.{refl, ap, sym, ◌∙◌, subst}
use Rattle.ch_ident.specs.declared.reason.Reason.TheVariants as reasons
use Rattle.ch_model.specs.declared.name.TargetName.TheVariants as targets
use Rattle.ch_model.specs.declared.entry.Entry.{Entry}
use Rattle.ch_model.specs.declared.entry.Entry.TheVariants.{Line, Made, Said, Got, Took, Over, Fed}
use Rattle.ch_model.specs.declared.entry.Verdict.{Verdict}
use Rattle.ch_model.specs.declared.entry.Verdict.TheVariants as verdicts
use Rattle.ch_model.specs.declared.line.Line.{Line as JournalLine}
use Rattle.ch_model.specs.declared.line.What.{What}
use Rattle.ch_model.specs.declared.line.What.TheVariants as lines
use Rattle.ch_model.specs.Logs as logs
use Rattle.ch_model.specs.Marks.{is_mark, is_settle, current_line, line_just_done, in_settle}
use Rattle.ch_model.specs.Reasons.{same_reason}
use Rattle.ch_model.specs.LifeRules as rules
use Rattle.ch_model.specs.Answers.{answer_to}
use Rattle.ch_model.specs.AnswersOwn.{is_own, has_own}
use Rattle.ch_model.specs.HasAnswers as answers
use Rattle.ch_model.specs.HasAnswers.{same_answer}
use Rattle.ch_laws_one_node.specs.OneNode.{IsOfNode, AreOfNode}
use Rattle.ch_laws_one_node.specs.Answers.{answer_over, IsOwnEntry, IsReceipt, IsDone, HasAnswersAfter}
use Rattle.ch_laws_one_node.specs.Lawful.{IsLawfulEntry}
use Rattle.ch_laws_one_node.proofs.EntriesOf.{IsEntryOf, AreEntriesOf}
use Rattle.ch_laws_one_node.proofs.Bridges.{equal_bytes_are}
use Rattle.ch_laws_one_node.proofs.WholeEntries.{both_hold, same_self_is}
use Rattle.ch_laws_one_node.proofs.WholeVerdicts.{same_answer_self, answer_is}
use Rattle.ch_laws_one_node.proofs.Blocks.{Passes, PassesBetween, SkipsPlain, IsPlain, Block, block_of, plain_done, plain_each, receipts_each, done_just, done_now, done_still}

-- ---- a line has its answer

plain_answered : (journal : List JournalLine) (before : List Entry) (x : Entry) → IsPlain x → answers.is_answered journal before x ≡ true
plain_answered journal before (Line number answer) plain = absurd plain
plain_answered journal before x plain = refl

pub answered : (node : List ℕ) (journal : List JournalLine) → Passes node journal (answers.is_answered journal)
answered node journal before line done c = both_hold (answers.is_answered journal before mark) (logs.each_after (answers.is_answered journal) (before ++ mark ∷ []) done)
    (ap (logs.some_and (λ what. same_answer answer (answer_to journal before what))) c.found ∙ ap (same_answer answer) (answer_is journal node before line.what c.of c.fits c.old) ∙ same_answer_self answer)
    (plain_each (answers.is_answered journal) (plain_answered journal) (before ++ mark ∷ []) done (plain_done before line.what answer done c.is_done)) where
      answer : Verdict
      answer = answer_over before line.what

      mark : Entry
      mark = Line line.number (answer_over before line.what)

-- ---- what isn't a mark stands after a line that was done

pub or_always : (b : Bool) → (b || true) ≡ true
or_always true = refl
or_always false = refl

doing : (journal : List JournalLine) (what : What) (before done : List Entry) → current_line journal before ≡ Some what → AllByRecursion IsPlain done → logs.each_after (answers.is_of_done journal) before done ≡ true
doing journal what before [] now plain = refl
doing journal what before (x ∷ done) now plain = both_hold (answers.is_of_done journal before x) (logs.each_after (answers.is_of_done journal) (before ++ x ∷ []) done)
    (ap (λ o. is_mark x || logs.some_and (λ (w : What). true) o) now ∙ or_always (is_mark x))
    (doing journal what (before ++ x ∷ []) done (done_still journal before x plain.0 ∙ now) plain.1)

pub of_done_lines : (node : List ℕ) (journal : List JournalLine) → Passes node journal (answers.is_of_done journal)
of_done_lines node journal before line done c = by_answer (answer_over before line.what) done c.is_done where
  by_answer : (answer : Verdict) (done : List Entry) → IsDone before line.what answer done → logs.each_after (answers.is_of_done journal) before (Line line.number answer ∷ done) ≡ true
  by_answer verdicts.Ok done h = doing journal line.what (before ++ Line line.number verdicts.Ok ∷ []) done (done_now journal before line.number line.what c.found) (plain_done before line.what verdicts.Ok done h)
  by_answer answer done h = subst (λ l. logs.each_after (answers.is_of_done journal) before (Line line.number answer ∷ l) ≡ true) (sym h) refl

-- ---- a line that was done has its own entry first

pub own_is : (journal : List JournalLine) (before : List Entry) (what : What) (own : Entry) → IsOwnEntry what own → is_own journal before what own ≡ true
own_is journal before (lines.Proc node) (Made process None None) h = equal_bytes_are process.node node h
own_is journal before (lines.Send by (targets.Process to) mark body) (Said sender (targets.Process receiver) epoch index word bytes) h =
    both_hold _ _ (both_hold _ _ (both_hold _ _ (same_self_is sender by h.0) (same_self_is receiver to h.1)) (equal_bytes_are word mark h.2)) (equal_bytes_are bytes body h.3)
own_is journal before (lines.Recv by mark) (Took taker None word bytes) h = both_hold _ _ (same_self_is taker by h.0) (equal_bytes_are word mark h.1)
own_is journal before (lines.End by) (Over process reason) h = both_hold _ _ (same_self_is process by h.0) (ap (λ r. same_reason r reasons.Normal) h.1)
own_is journal before what own h = absurd h

pub own_first : (node : List ℕ) (journal : List JournalLine) → PassesBetween node journal (answers.has_own_first journal)
own_first node journal before line done after c = by_answer (answer_over before line.what) done c.is_done where
  by_answer : (answer : Verdict) (done : List Entry) → IsDone before line.what answer done → answers.has_own_first journal before (Line line.number answer) (done ++ after) ≡ true
  by_answer verdicts.Ok [] h = absurd h
  by_answer verdicts.Ok (own ∷ caused) h = ap (logs.some_and (answers.is_followed_by_own journal before (own ∷ caused ++ after))) c.found
      ∙ ap (λ b. not (has_own before line.what) || b) (own_is journal before line.what own h.0) ∙ or_always (not (has_own before line.what))
  by_answer answer done h = refl

pub own_first_skips : (journal : List JournalLine) → SkipsPlain (answers.has_own_first journal)
own_first_skips journal before (Line number answer) rest plain = absurd plain
own_first_skips journal before x rest plain = refl

-- ---- nothing settles

no_settle : (node : List ℕ) (what : What) → IsOfNode node what → is_settle what ≡ false
no_settle node (lines.Proc name) of = refl
no_settle node (lines.Send by (targets.Process to) mark body) of = refl
no_settle node (lines.Recv by mark) of = refl
no_settle node (lines.End by) of = refl
no_settle node what of = absurd of

pub settled_last : (node : List ℕ) (journal : List JournalLine) → PassesBetween node journal (answers.has_settled_last journal)
settled_last node journal before line done after c = by_answer (answer_over before line.what) where
  by_answer : (answer : Verdict) → answers.has_settled_last journal before (Line line.number answer) (done ++ after) ≡ true
  by_answer verdicts.Ok = ap (logs.none_or (λ what. not (is_settle what) || answers.ends_settled (done ++ after))) c.found ∙ ap (λ b. not b || answers.ends_settled (done ++ after)) (no_settle node line.what c.of)
  by_answer answer = refl

pub settled_last_skips : (journal : List JournalLine) → SkipsPlain (answers.has_settled_last journal)
settled_last_skips journal before (Line number answer) rest plain = absurd plain
settled_last_skips journal before Rattle.ch_model.specs.declared.entry.Entry.TheVariants.Settled rest plain = absurd plain
settled_last_skips journal before x rest plain = refl

pub feeds_nothing : (journal : List JournalLine) (node : List ℕ) (before : List Entry) (x : Entry) → AreEntriesOf node before → IsEntryOf node x → IsLawfulEntry before x → answers.settles_whole journal before x ≡ true
feeds_nothing journal node before (Fed sock end count) old of lawful = absurd of
feeds_nothing journal node before x old of lawful = refl

-- ---- what only a line does is its own entry

pub second_holds : (x z : Bool) → (x || true || z) ≡ true
second_holds true z = refl
second_holds false z = refl

receipt_in_place : (journal : List JournalLine) (before : List Entry) (x : Entry) → IsReceipt x → answers.stands_in_place journal before x ≡ true
receipt_in_place journal before (Got by to epoch index receiver) h = refl
receipt_in_place journal before x h = absurd h

pub in_place : (node : List ℕ) (journal : List JournalLine) → Passes node journal (answers.stands_in_place journal)
in_place node journal before line done c = by_answer (answer_over before line.what) done c.is_done where
  by_answer : (answer : Verdict) (done : List Entry) → IsDone before line.what answer done → logs.each_after (answers.stands_in_place journal) before (Line line.number answer ∷ done) ≡ true
  by_answer verdicts.Ok [] h = absurd h
  by_answer verdicts.Ok (own ∷ caused) h = both_hold (answers.stands_in_place journal marked own) (logs.each_after (answers.stands_in_place journal) (marked ++ own ∷ []) caused)
      (ap (λ o. not (answers.is_of_line own || answers.is_of_network own) || logs.some_and (λ what. is_own journal marked what own) o || answers.is_of_network own && in_settle journal marked) (done_just journal before line.number line.what c.found)
      ∙ ap (λ b. not (answers.is_of_line own || answers.is_of_network own) || b || answers.is_of_network own && in_settle journal marked) (own_is journal marked line.what own h.0)
      ∙ second_holds (not (answers.is_of_line own || answers.is_of_network own)) (answers.is_of_network own && in_settle journal marked))
      (receipts_each (answers.stands_in_place journal) (receipt_in_place journal) (marked ++ own ∷ []) caused h.1) where
        marked : List Entry
        marked = before ++ Line line.number verdicts.Ok ∷ []
  by_answer answer done h = subst (λ l. logs.each_after (answers.stands_in_place journal) before (Line line.number answer ∷ l) ≡ true) (sym h) refl

-- ---- an end is by its line

receipt_no_end : (journal : List JournalLine) (before : List Entry) (x : Entry) → IsReceipt x → rules.ends_with_cause journal before x ≡ true
receipt_no_end journal before (Got by to epoch index receiver) h = refl
receipt_no_end journal before x h = absurd h

own_end : (journal : List JournalLine) (before : List Entry) (what : What) (own : Entry) → line_just_done journal before ≡ Some what → IsOwnEntry what own → rules.ends_with_cause journal before own ≡ true
own_end journal before (lines.End by) (Over process reason) just h =
    ap (λ o. logs.some_and (rules.ends_by before process reason) o || logs.last_is (rules.makes_unlabelled journal process) before && same_reason reason rules.unlabelled) just
    ∙ ap (λ b. b || logs.last_is (rules.makes_unlabelled journal process) before && same_reason reason rules.unlabelled) (both_hold _ _ (same_self_is by process (sym h.0)) (ap (λ r. same_reason r reasons.Normal) h.1))
own_end journal before (lines.Proc node) (Over process reason) just h = absurd h
own_end journal before (lines.Send by (targets.Process to) mark body) (Over process reason) just h = absurd h
own_end journal before (lines.Send by (targets.Port to port) mark body) (Over process reason) just h = absurd h
own_end journal before (lines.Send by (targets.Named node name) mark body) (Over process reason) just h = absurd h
own_end journal before what (Over process reason) just h = absurd h
own_end journal before what own just h = refl

pub ends_caused : (node : List ℕ) (journal : List JournalLine) → Passes node journal (rules.ends_with_cause journal)
ends_caused node journal before line done c = by_answer (answer_over before line.what) done c.is_done where
  by_answer : (answer : Verdict) (done : List Entry) → IsDone before line.what answer done → logs.each_after (rules.ends_with_cause journal) before (Line line.number answer ∷ done) ≡ true
  by_answer verdicts.Ok [] h = absurd h
  by_answer verdicts.Ok (own ∷ caused) h = both_hold (rules.ends_with_cause journal marked own) (logs.each_after (rules.ends_with_cause journal) (marked ++ own ∷ []) caused)
      (own_end journal marked line.what own (done_just journal before line.number line.what c.found) h.0)
      (receipts_each (rules.ends_with_cause journal) (receipt_no_end journal) (marked ++ own ∷ []) caused h.1) where
        marked : List Entry
        marked = before ++ Line line.number verdicts.Ok ∷ []
  by_answer answer done h = subst (λ l. logs.each_after (rules.ends_with_cause journal) before (Line line.number answer ∷ l) ≡ true) (sym h) refl

-- ---- the marks

no_number : (x : Entry) → IsPlain x → answers.mark_number x ≡ None
no_number (Line number answer) plain = absurd plain
no_number x plain = refl

plain_unmarked : (done after : List Entry) → AllByRecursion IsPlain done → filter_map answers.mark_number (done ++ after) ≡ filter_map answers.mark_number after
plain_unmarked [] after plain = refl
plain_unmarked (x ∷ done) after plain = ap (λ o. cons_option o (filter_map answers.mark_number (done ++ after))) (no_number x plain.0) ∙ plain_unmarked done after plain.1

event_numbered : (node : List ℕ) (number : ℕ) (what : What) → IsOfNode node what → answers.event_number (record { number = number; what = what }) ≡ Some number
event_numbered node number (lines.Proc name) of = refl
event_numbered node number (lines.Send by (targets.Process to) mark body) of = refl
event_numbered node number (lines.Recv by mark) of = refl
event_numbered node number (lines.End by) of = refl
event_numbered node number what of = absurd of

abbrev MarksAre : List JournalLine → Type 0
MarksAre journal = (before rest : List Entry) → HasAnswersAfter before journal rest → filter_map answers.mark_number rest ≡ filter_map answers.event_number journal

one_mark : (node : List ℕ) (line : JournalLine) (others : List JournalLine) → IsOfNode node line.what → MarksAre others → MarksAre (line ∷ others)
one_mark node line others of more before rest has = by_block (block_of node before line.number line.what others rest of has) where
  by_block : Block before line others rest → filter_map answers.mark_number rest ≡ filter_map answers.event_number (line ∷ others)
  by_block b = ap (λ l. filter_map answers.mark_number l) b.rest_is
      ∙ ap (λ l. line.number ∷ l) (plain_unmarked b.done b.after (plain_done before line.what (answer_over before line.what) b.done b.is_done) ∙ more (before ++ Line line.number (answer_over before line.what) ∷ b.done) b.after b.more)
      ∙ ap (λ o. cons_option o (filter_map answers.event_number others)) (sym (event_numbered node line.number line.what of))

pub marks_are : (node : List ℕ) (journal : List JournalLine) → AreOfNode node journal → MarksAre journal
marks_are node [] of before rest has = ap (λ l. filter_map answers.mark_number l) has
marks_are node (line ∷ others) of before rest has = one_mark node line others of.0 (marks_are node others of.1) before rest has
