-- A log of one node, line by line: each line's mark and what it did.
use Rattle.std.specs.Prelude.{◌≡◌, ℕ, ◌+◌, ◌≤◌, Bool, true, cond, List, [], ◌∷◌, ◌++◌, find, Option, Some, None, ◌==◌}
use Rattle.std.specs.Option.{option_map}
use Rattle.std.specs.List.{fold, AllByRecursion}
use Rattle.std.proofs.Common.{refl, ap, sym, ◌∙◌, subst, append_assoc, arith}
use Rattle.std.proofs.lemmas.List.{append-nil}
use Rattle.std.proofs.lemmas.Bool.{ne_eqb, and_parts}
use Rattle.ch_model.specs.declared.name.TargetName.TheVariants as targets
use Rattle.ch_model.specs.declared.refusal.LineFault.{LineFault}
use Rattle.ch_model.specs.declared.entry.Entry.{Entry}
use Rattle.ch_model.specs.declared.entry.Entry.TheVariants.{Line, Made, Said, Got, Took, Over}
use Rattle.ch_model.specs.declared.entry.Verdict.{Verdict}
use Rattle.ch_model.specs.declared.entry.Verdict.TheVariants as verdicts
use Rattle.ch_model.specs.declared.line.Line.{Line as JournalLine}
use Rattle.ch_model.specs.declared.line.What.{What}
use Rattle.ch_model.specs.declared.line.What.TheVariants as lines
use Rattle.ch_model.specs.Logs as logs
use Rattle.ch_model.specs.Marks.{line_numbered, done_by, mark_of, current_line, line_just_done}
use Rattle.ch_laws_one_node.specs.OneNode.{IsOfNode, AreOfNode, FitsFrame, FitFrames}
use Rattle.ch_laws_one_node.specs.Places.{AreNumbered}
use Rattle.ch_laws_one_node.specs.Answers.{answer_over, IsOwnEntry, IsReceipt, IsDone, HasAnswersAfter}
use Rattle.ch_laws_one_node.proofs.Appending.{equal_numbers}
use Rattle.ch_laws_one_node.proofs.EntriesOf.{AreEntriesOf, entries_append, entries_parts}
use Rattle.ch_laws_one_node.proofs.WholeEntries.{both_hold}

-- ---- lines by their numbers

-- each of these lines is found in the journal by its number
abbrev pub Found : List JournalLine → List JournalLine → Type 0
Found journal [] = Unit {0}
Found journal (line ∷ rest) = (line_numbered journal line.number ≡ Some line.what) × Found journal rest

found_later : (line : JournalLine) (journal rest : List JournalLine) (least : ℕ) → line.number + 1 ≤ least → AreNumbered least rest None → Found journal rest → Found (line ∷ journal) rest
found_later line journal [] least h a found = tt
found_later line journal (x ∷ rest) least h a found = (
  ap (λ b. option_map (λ (l : JournalLine). l.what) (cond b (Some line) (find (λ (l : JournalLine). l.number == x.number) journal))) (ne_eqb line.number x.number (apart line.number least x.number h a.0)) ∙ found.0,
  found_later line journal rest (x.number + 1) (above line.number least x.number h a.0) a.1 found.1,
) where
  apart : (n l m : ℕ) → n + 1 ≤ l → l ≤ m → n ≡ m → ⊥
  apart n l m h g e = omega arith

  above : (n l m : ℕ) → n + 1 ≤ l → l ≤ m → n + 1 ≤ m + 1
  above n l m h g = omega arith

pub found_all : (least : ℕ) (journal : List JournalLine) → AreNumbered least journal None → Found journal journal
found_all least [] a = tt
found_all least (line ∷ rest) a = (
  ap (λ b. option_map (λ (l : JournalLine). l.what) (cond b (Some line) (find (λ (l : JournalLine). l.number == line.number) rest))) (equal_numbers line.number),
  found_later line rest rest (line.number + 1) (same (line.number + 1)) a.1 (found_all (line.number + 1) rest a.1),
) where
  same : (n : ℕ) → n ≤ n
  same n = omega arith

pub without_fault : (least : ℕ) (journal : List JournalLine) (fault : Option (ℕ × LineFault)) → AreNumbered least journal fault → AreNumbered least journal None
without_fault least [] None a = tt
without_fault least [] (Some fault) a = tt
without_fault least (line ∷ rest) fault a = (a.0, without_fault (line.number + 1) rest fault a.1)

-- ---- what a line did

-- an entry that is no mark, of a kind that one node has
abbrev pub IsPlain : Entry → Type 0
IsPlain (Made process spawn label) = Unit {0}
IsPlain (Said by to epoch index mark body) = Unit {0}
IsPlain (Got by to epoch index receiver) = Unit {0}
IsPlain (Took by port mark body) = Unit {0}
IsPlain (Over process reason) = Unit {0}
IsPlain entry = ⊥

own_plain : (what : What) (own : Entry) → IsOwnEntry what own → IsPlain own
own_plain (lines.Proc node) (Made process None None) h = tt
own_plain (lines.Send by (targets.Process to) mark body) (Said sender (targets.Process receiver) epoch index word bytes) h = tt
own_plain (lines.Recv by mark) (Took taker None word bytes) h = tt
own_plain (lines.End by) (Over process reason) h = tt
own_plain what own h = absurd h

receipts_plain : (caused : List Entry) → AllByRecursion IsReceipt caused → AllByRecursion IsPlain caused
receipts_plain [] h = tt
receipts_plain (Got by to epoch index receiver ∷ rest) h = (tt, receipts_plain rest h.1)
receipts_plain (entry ∷ rest) h = absurd h.0

pub plain_done : (before : List Entry) (what : What) (answer : Verdict) (done : List Entry) → IsDone before what answer done → AllByRecursion IsPlain done
plain_done before what verdicts.Ok [] h = absurd h
plain_done before what verdicts.Ok (own ∷ caused) h = (own_plain what own h.0, receipts_plain caused h.1)
plain_done before what answer done h = subst (λ l. AllByRecursion IsPlain l) (sym h) tt

pub plain_each : (test : List Entry → Entry → Bool) → ((before : List Entry) (x : Entry) → IsPlain x → test before x ≡ true) → (before done : List Entry) → AllByRecursion IsPlain done → logs.each_after test before done ≡ true
plain_each test holds before [] plain = refl
plain_each test holds before (x ∷ done) plain = both_hold (test before x) (logs.each_after test (before ++ x ∷ []) done) (holds before x plain.0) (plain_each test holds (before ++ x ∷ []) done plain.1)

pub receipts_each : (test : List Entry → Entry → Bool) → ((before : List Entry) (x : Entry) → IsReceipt x → test before x ≡ true) → (before caused : List Entry) → AllByRecursion IsReceipt caused → logs.each_after test before caused ≡ true
receipts_each test holds before [] all = refl
receipts_each test holds before (x ∷ caused) all = both_hold (test before x) (logs.each_after test (before ++ x ∷ []) caused) (holds before x all.0) (receipts_each test holds (before ++ x ∷ []) caused all.1)

-- ---- the last mark

pub fold_end : {A B : Type 0} (f : B → A → B) (a : B) (xs : List A) (x : A) → fold f a (xs ++ x ∷ []) ≡ f (fold f a xs) x
fold_end f a [] x = refl
fold_end f a (y ∷ ys) x = fold_end f (f a y) ys x

last_found : {B : Type 0} (look : Entry → Option B) (log : List Entry) (x : Entry) → logs.last_of look (log ++ x ∷ []) ≡ logs.or_else (look x) (logs.last_of look log)
last_found look log x = fold_end (λ found entry. logs.or_else (look entry) found) None log x

by_mark : List JournalLine → Option Entry → Option What
by_mark journal found = elim found [
  | None ↦ None
  | Some mark ↦ done_by journal mark
]

pub done_just : (journal : List JournalLine) (log : List Entry) (number : ℕ) (what : What) → line_numbered journal number ≡ Some what → line_just_done journal (log ++ Line number verdicts.Ok ∷ []) ≡ Some what
unfolding by_mark
done_just journal log number what found = ap (by_mark journal) (last_found Some log (Line number verdicts.Ok)) ∙ found

pub done_now : (journal : List JournalLine) (log : List Entry) (number : ℕ) (what : What) → line_numbered journal number ≡ Some what → current_line journal (log ++ Line number verdicts.Ok ∷ []) ≡ Some what
unfolding by_mark
done_now journal log number what found = ap (by_mark journal) (last_found mark_of log (Line number verdicts.Ok)) ∙ found

no_mark : (x : Entry) → IsPlain x → mark_of x ≡ None
no_mark (Line number answer) plain = absurd plain
no_mark x plain = refl

pub done_still : (journal : List JournalLine) (log : List Entry) (x : Entry) → IsPlain x → current_line journal (log ++ x ∷ []) ≡ current_line journal log
unfolding by_mark
done_still journal log x plain = ap (by_mark journal) (last_found mark_of log x ∙ ap (λ o. logs.or_else o (logs.last_of mark_of log)) (no_mark x plain))

-- ---- blocks

-- the mark of a line and what it did, before the rest of the log
pub record Block (before : List Entry) (line : JournalLine) (others : List JournalLine) (rest : List Entry) : Type 0 where
  pub done : List Entry
  pub after : List Entry
  pub rest_is : rest ≡ Line line.number (answer_over before line.what) ∷ done ++ after
  pub is_done : IsDone before line.what (answer_over before line.what) done
  pub more : HasAnswersAfter (before ++ Line line.number (answer_over before line.what) ∷ done) others after

pub block_of : (node : List ℕ) (before : List Entry) (number : ℕ) (what : What) (others : List JournalLine) (rest : List Entry) → IsOfNode node what → HasAnswersAfter before (record { number = number; what = what } ∷ others) rest → Block before (record { number = number; what = what }) others rest
block_of node before number (lines.Proc name) others rest of (done, after, is, ok, more) = record { done = done; after = after; rest_is = is; is_done = ok; more = more }
block_of node before number (lines.Send by (targets.Process to) mark body) others rest of (done, after, is, ok, more) = record { done = done; after = after; rest_is = is; is_done = ok; more = more }
block_of node before number (lines.Recv by mark) others rest of (done, after, is, ok, more) = record { done = done; after = after; rest_is = is; is_done = ok; more = more }
block_of node before number (lines.End by) others rest of (done, after, is, ok, more) = record { done = done; after = after; rest_is = is; is_done = ok; more = more }
block_of node before number what others rest of h = absurd of

-- what is known of a line and what it did
pub record Context (node : List ℕ) (journal : List JournalLine) (before : List Entry) (line : JournalLine) (done : List Entry) : Type 0 where
  pub found : line_numbered journal line.number ≡ Some line.what
  pub of : IsOfNode node line.what
  pub fits : FitsFrame line.what
  pub old : AreEntriesOf node before
  pub is_done : IsDone before line.what (answer_over before line.what) done

each_append : (test : List Entry → Entry → Bool) (before xs ys : List Entry) → logs.each_after test before xs ≡ true → logs.each_after test (before ++ xs) ys ≡ true → logs.each_after test before (xs ++ ys) ≡ true
each_append test before [] ys h g = subst (λ l. logs.each_after test l ys ≡ true) (append-nil before) g
each_append test before (x ∷ xs) ys h g = let parts = and_parts (test before x) (logs.each_after test (before ++ x ∷ []) xs) h in
    both_hold (test before x) (logs.each_after test (before ++ x ∷ []) (xs ++ ys)) parts.0 (each_append test (before ++ x ∷ []) xs ys parts.1 (subst (λ l. logs.each_after test l ys ≡ true) (sym (append_assoc before (x ∷ []) xs)) g))

-- each line's mark and what it did pass the test
abbrev pub Passes : List ℕ → List JournalLine → (List Entry → Entry → Bool) → Type 0
Passes node journal test = (before : List Entry) (line : JournalLine) (done : List Entry) → Context node journal before line done → logs.each_after test before (Line line.number (answer_over before line.what) ∷ done) ≡ true

abbrev Passing : List ℕ → (List Entry → Entry → Bool) → List JournalLine → Type 0
Passing node test journal = (before rest : List Entry) → AreEntriesOf node before → AreEntriesOf node rest → HasAnswersAfter before journal rest → logs.each_after test before rest ≡ true

one_block : (node : List ℕ) (journal : List JournalLine) (test : List Entry → Entry → Bool) → Passes node journal test → (line : JournalLine) (others : List JournalLine) → (line_numbered journal line.number ≡ Some line.what) → IsOfNode node line.what → FitsFrame line.what → Passing node test others → Passing node test (line ∷ others)
one_block node journal test passes line others found of fits more before rest old new answers = by_block (block_of node before line.number line.what others rest of answers) where
  by_block : Block before line others rest → logs.each_after test before rest ≡ true
  by_block b = subst (λ l. logs.each_after test before l ≡ true) (sym b.rest_is) (each_append test before (Line line.number (answer_over before line.what) ∷ b.done) b.after
      (passes before line b.done (record { found = found; of = of; fits = fits; old = old; is_done = b.is_done }))
      (more (before ++ Line line.number (answer_over before line.what) ∷ b.done) b.after (entries_append node before (Line line.number (answer_over before line.what) ∷ b.done) old parts.0) parts.1 b.more)) where
        parts : AreEntriesOf node (Line line.number (answer_over before line.what) ∷ b.done) × AreEntriesOf node b.after
        parts = entries_parts node (Line line.number (answer_over before line.what) ∷ b.done) b.after (subst (λ l. AreEntriesOf node l) b.rest_is new)

pub all_blocks : (node : List ℕ) (journal : List JournalLine) (test : List Entry → Entry → Bool) → Passes node journal test → (rest : List JournalLine) → Found journal rest → AreOfNode node rest → FitFrames rest → Passing node test rest
all_blocks node journal test passes [] found of fits before rest old new answers = subst (λ l. logs.each_after test before l ≡ true) (sym answers) refl
all_blocks node journal test passes (line ∷ others) found of fits before rest old new answers = one_block node journal test passes line others found.0 of.0 fits.0 (all_blocks node journal test passes others found.1 of.1 fits.1) before rest old new answers

-- ---- tests that look at what follows too

abbrev pub PassesBetween : List ℕ → List JournalLine → (List Entry → Entry → List Entry → Bool) → Type 0
PassesBetween node journal test = (before : List Entry) (line : JournalLine) (done after : List Entry) → Context node journal before line done → test before (Line line.number (answer_over before line.what)) (done ++ after) ≡ true

abbrev pub SkipsPlain : (List Entry → Entry → List Entry → Bool) → Type 0
SkipsPlain test = (before : List Entry) (x : Entry) (rest : List Entry) → IsPlain x → test before x rest ≡ true

abbrev PassingBetween : List ℕ → (List Entry → Entry → List Entry → Bool) → List JournalLine → Type 0
PassingBetween node test journal = (before rest : List Entry) → AreEntriesOf node before → AreEntriesOf node rest → HasAnswersAfter before journal rest → logs.each_between_after test before rest ≡ true

skipped : (test : List Entry → Entry → List Entry → Bool) → SkipsPlain test → (before done after : List Entry) → AllByRecursion IsPlain done → logs.each_between_after test (before ++ done) after ≡ true → logs.each_between_after test before (done ++ after) ≡ true
skipped test skips before [] after plain h = subst (λ l. logs.each_between_after test l after ≡ true) (append-nil before) h
skipped test skips before (x ∷ done) after plain h = both_hold (test before x (done ++ after)) (logs.each_between_after test (before ++ x ∷ []) (done ++ after)) (skips before x (done ++ after) plain.0)
    (skipped test skips (before ++ x ∷ []) done after plain.1 (subst (λ l. logs.each_between_after test l after ≡ true) (sym (append_assoc before (x ∷ []) done)) h))

one_between : (node : List ℕ) (journal : List JournalLine) (test : List Entry → Entry → List Entry → Bool) → PassesBetween node journal test → SkipsPlain test → (line : JournalLine) (others : List JournalLine) → (line_numbered journal line.number ≡ Some line.what) → IsOfNode node line.what → FitsFrame line.what → PassingBetween node test others → PassingBetween node test (line ∷ others)
one_between node journal test passes skips line others found of fits more before rest old new answers = by_block (block_of node before line.number line.what others rest of answers) where
  by_block : Block before line others rest → logs.each_between_after test before rest ≡ true
  by_block b = subst (λ l. logs.each_between_after test before l ≡ true) (sym b.rest_is) (both_hold (test before mark (b.done ++ b.after)) (logs.each_between_after test (before ++ mark ∷ []) (b.done ++ b.after))
      (passes before line b.done b.after (record { found = found; of = of; fits = fits; old = old; is_done = b.is_done }))
      (skipped test skips (before ++ mark ∷ []) b.done b.after (plain_done before line.what (answer_over before line.what) b.done b.is_done)
      (subst (λ l. logs.each_between_after test l b.after ≡ true) (sym (append_assoc before (mark ∷ []) b.done)) (more (before ++ mark ∷ b.done) b.after (entries_append node before (mark ∷ b.done) old parts.0) parts.1 b.more)))) where
        mark : Entry
        mark = Line line.number (answer_over before line.what)

        parts : AreEntriesOf node (Line line.number (answer_over before line.what) ∷ b.done) × AreEntriesOf node b.after
        parts = entries_parts node (Line line.number (answer_over before line.what) ∷ b.done) b.after (subst (λ l. AreEntriesOf node l) b.rest_is new)

pub all_between : (node : List ℕ) (journal : List JournalLine) (test : List Entry → Entry → List Entry → Bool) → PassesBetween node journal test → SkipsPlain test → (rest : List JournalLine) → Found journal rest → AreOfNode node rest → FitFrames rest → PassingBetween node test rest
all_between node journal test passes skips [] found of fits before rest old new answers = subst (λ l. logs.each_between_after test before l ≡ true) (sym answers) refl
all_between node journal test passes skips (line ∷ others) found of fits before rest old new answers = one_between node journal test passes skips line others found.0 of.0 fits.0 (all_between node journal test passes skips others found.1 of.1 fits.1) before rest old new answers
