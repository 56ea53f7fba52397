-- The log of one node goes by the sharper clauses too, and keeps strangers apart.
use Rattle.std.specs.Prelude.{◌≡◌, ℕ, Bool, true, false, not, ◌&&◌, ◌||◌, cond, List, [], ◌∷◌, ◌++◌, length, find, is_some, Option, Some, None, ◌==◌, if◌then◌else◌}
use Rattle.std.specs.Option.{option_map}
use Rattle.std.specs.List.{AllByRecursion, fold}
use Rattle.std.specs.Str.{bytes_eq}
use Rattle.std.proofs.Common.{refl, ap, sym, ◌∙◌, subst, append_assoc}
use Rattle.std.proofs.lemmas.List.{append-nil}
use Rattle.ch_model.specs.declared.name.ProcName.{ProcName}
use Rattle.ch_model.specs.declared.name.SockName.{SockName}
use Rattle.ch_model.specs.declared.name.TargetName.TheVariants as targets
use Rattle.ch_model.specs.declared.entry.Entry.{Entry}
use Rattle.ch_model.specs.declared.entry.Entry.TheVariants.{Line, Made, Said, Got, Took, Over}
use Rattle.ch_model.specs.declared.entry.Verdict.{Verdict}
use Rattle.ch_model.specs.declared.entry.Verdict.TheVariants as verdicts
use Rattle.ch_model.specs.declared.line.Line.{Line as JournalLine}
use Rattle.ch_model.specs.declared.line.What.{What}
use Rattle.ch_model.specs.declared.line.What.TheVariants as lines
use Rattle.ch_model.specs.Same.{same_socket}
use Rattle.ch_model.specs.Logs as logs
use Rattle.ch_model.specs.Life as life
use Rattle.ch_model.specs.Delivery as delivery
use Rattle.ch_model.specs.Declarations.{is_stranger}
use Rattle.ch_model.specs.Marks.{line_numbered, in_settle}
use Rattle.ch_model.specs.AnswersOwn.{is_own}
use Rattle.ch_model.specs.HasAnswers as answers
use Rattle.ch_model.specs.Sharper as sharper
use Rattle.ch_model.specs.Isolation.{line_socket, entry_socket, marked_socket, begins_at, later, is_isolated}
use Rattle.ch_laws_one_node.specs.OneNode.{IsOfNode, AreOfNode, IsOfOneNode}
use Rattle.ch_laws_one_node.specs.Counts.{ends, is_over_in}
use Rattle.ch_laws_one_node.specs.Delivery.{is_the_said, last_is}
use Rattle.ch_laws_one_node.specs.Answers.{answer_over, IsReceipt, IsDone, HasAnswersAfter}
use Rattle.ch_laws_one_node.specs.Lawful.{IsLawfulEntry, AreLawfulAfter}
use Rattle.ch_laws_one_node.proofs.Appending.{any_same}
use Rattle.ch_laws_one_node.proofs.EntriesOf.{IsEntryOf, AreEntriesOf, entries_append, entries_parts}
use Rattle.ch_laws_one_node.proofs.Bridges.{over_is}
use Rattle.ch_laws_one_node.proofs.WholeEntries.{both_hold}
use Rattle.ch_laws_one_node.proofs.WholeAnswers.{own_is, or_always, second_holds}
use Rattle.ch_laws_one_node.proofs.Blocks.{Passes, Block, block_of, receipts_each, done_just, fold_end}

-- ---- a process that no spawn made is made by its line

own_made : (journal : List JournalLine) (before : List Entry) (own : Entry) → answers.is_own_of_last journal before own ≡ true → sharper.is_made_by_line journal before own ≡ true
own_made journal before (Made process None label) h = h
own_made journal before own h = refl

receipt_makes_none : (journal : List JournalLine) (before : List Entry) (x : Entry) → IsReceipt x → sharper.is_made_by_line journal before x ≡ true
receipt_makes_none journal before (Got by to epoch index receiver) h = refl
receipt_makes_none journal before x h = absurd h

pub made_by_line : (node : List ℕ) (journal : List JournalLine) → Passes node journal (sharper.is_made_by_line journal)
made_by_line node journal before line done c = by_answer (answer_over before line.what) done c.is_done where
  by_answer : (answer : Verdict) (done : List Entry) → IsDone before line.what answer done → logs.each_after (sharper.is_made_by_line journal) before (Line line.number answer ∷ done) ≡ true
  by_answer verdicts.Ok [] h = absurd h
  by_answer verdicts.Ok (own ∷ caused) h = both_hold (sharper.is_made_by_line journal marked own) (logs.each_after (sharper.is_made_by_line journal) (marked ++ own ∷ []) caused)
      (own_made journal marked own (ap (logs.some_and (λ what. is_own journal marked what own)) (done_just journal before line.number line.what c.found) ∙ own_is journal marked line.what own h.0))
      (receipts_each (sharper.is_made_by_line journal) (receipt_makes_none journal) (marked ++ own ∷ []) caused h.1) where
        marked : List Entry
        marked = before ++ Line line.number verdicts.Ok ∷ []
  by_answer answer done h = subst (λ l. logs.each_after (sharper.is_made_by_line journal) before (Line line.number answer ∷ l) ≡ true) (sym h) refl

-- ---- what is said to a process that isn't over is got next

last_end : (p : Entry → Bool) (xs : List Entry) (x : Entry) → last_is p (xs ++ x ∷ []) ≡ p x
last_end p [] x = refl
last_end p (y ∷ []) x = refl
last_end p (y ∷ z ∷ xs) x = last_end p (z ∷ xs) x

first_is : (s r : ProcName) (epoch index : ℕ) (mark body : List ℕ) (marked : List Entry) (x : Entry) → IsReceipt x → IsLawfulEntry (marked ++ Said s (targets.Process r) epoch index mark body ∷ []) x → delivery.gets_it s (targets.Process r) epoch index x ≡ true
first_is s r epoch index mark body marked (Got by (targets.Process to) e k (Some receiver)) h lawful = sym (last_end (is_the_said by to e k) marked (Said s (targets.Process r) epoch index mark body)) ∙ lawful.at_once
first_is s r epoch index mark body marked (Got by to e k receiver) h lawful = absurd lawful
first_is s r epoch index mark body marked x h lawful = absurd h

receipt_next : (s r : ProcName) (epoch index : ℕ) (mark body : List ℕ) (marked caused after : List Entry) → length caused ≡ 1 → AllByRecursion IsReceipt caused → AreLawfulAfter (marked ++ Said s (targets.Process r) epoch index mark body ∷ []) (caused ++ after) → logs.next_is (delivery.gets_it s (targets.Process r) epoch index) (caused ++ after) ≡ true
receipt_next s r epoch index mark body marked [] after one all lawful = absurd (cc)
receipt_next s r epoch index mark body marked (x ∷ rest) after one all lawful = first_is s r epoch index mark body marked x all.0 lawful.0

said_next : (node : List ℕ) (before : List Entry) (number : ℕ) (what : What) (own : Entry) (caused after : List Entry) → IsDone before what verdicts.Ok (own ∷ caused) → AreEntriesOf node before → AreLawfulAfter ((before ++ Line number verdicts.Ok ∷ []) ++ own ∷ []) (caused ++ after) → sharper.gets_next (before ++ Line number verdicts.Ok ∷ []) own (caused ++ after) ≡ true
said_next node before number (lines.Send by (targets.Process to) mark body) (Said s (targets.Process r) epoch index word bytes) caused after h old lawful = by_over (is_over_in before to) refl h.2 where
  marked : List Entry
  marked = before ++ Line number verdicts.Ok ∷ []

  is_marked : AreEntriesOf node marked
  is_marked = entries_append node before (Line number verdicts.Ok ∷ []) old (tt, tt)

  over : life.is_over marked r ≡ is_over_in before to
  over = over_is node marked r is_marked ∙ any_same (ends r) before (Line number verdicts.Ok) refl ∙ ap (λ p. is_over_in before p) h.0.1

  by_over : (o : Bool) → is_over_in before to ≡ o → length caused ≡ (if o then 0 else 1) → sharper.gets_next marked (Said s (targets.Process r) epoch index word bytes) (caused ++ after) ≡ true
  by_over true is size = ap (λ b. not (bytes_eq s.node r.node) || b || logs.next_is (delivery.gets_it s (targets.Process r) epoch index) (caused ++ after)) (over ∙ is) ∙ second_holds (not (bytes_eq s.node r.node)) (logs.next_is (delivery.gets_it s (targets.Process r) epoch index) (caused ++ after))
  by_over false is size = ap (λ b. not (bytes_eq s.node r.node) || life.is_over marked r || b) (receipt_next s r epoch index word bytes marked caused after size h.1 lawful) ∙ or_always (not (bytes_eq s.node r.node) || life.is_over marked r)
said_next node before number what (Made process spawn label) caused after h old lawful = refl
said_next node before number what (Took by port mark body) caused after h old lawful = refl
said_next node before number what (Over process reason) caused after h old lawful = refl
said_next node before number what own caused after h old lawful = absurd h.0

receipts_skipped : (before caused after : List Entry) → AllByRecursion IsReceipt caused → logs.each_between_after sharper.gets_next (before ++ caused) after ≡ true → logs.each_between_after sharper.gets_next before (caused ++ after) ≡ true
receipts_skipped before [] after all h = subst (λ l. logs.each_between_after sharper.gets_next l after ≡ true) (append-nil before) h
receipts_skipped before (Got by to epoch index receiver ∷ caused) after all h = receipts_skipped (before ++ Got by to epoch index receiver ∷ []) caused after all.1 (subst (λ l. logs.each_between_after sharper.gets_next l after ≡ true) (sym (append_assoc before (Got by to epoch index receiver ∷ []) caused)) h)
receipts_skipped before (x ∷ caused) after all h = absurd all.0

lawful_rest : (before xs ys : List Entry) → AreLawfulAfter before (xs ++ ys) → AreLawfulAfter (before ++ xs) ys
lawful_rest before [] ys a = subst (λ l. AreLawfulAfter l ys) (sym (append-nil before)) a
lawful_rest before (x ∷ xs) ys a = subst (λ l. AreLawfulAfter l ys) (append_assoc before (x ∷ []) xs) (lawful_rest (before ++ x ∷ []) xs ys a.1)

abbrev GotNext : List ℕ → List JournalLine → Type 0
GotNext node journal = (before rest : List Entry) → AreEntriesOf node before → AreEntriesOf node rest → AreLawfulAfter before rest → HasAnswersAfter before journal rest → logs.each_between_after sharper.gets_next before rest ≡ true

one_next : (node : List ℕ) (line : JournalLine) (others : List JournalLine) → IsOfNode node line.what → GotNext node others → GotNext node (line ∷ others)
one_next node line others of more before rest old new lawful has = by_block (block_of node before line.number line.what others rest of has) where
  by_answer : (answer : Verdict) (done after : List Entry) → IsDone before line.what answer done → AreLawfulAfter (before ++ Line line.number answer ∷ []) (done ++ after) → logs.each_between_after sharper.gets_next (before ++ Line line.number answer ∷ done) after ≡ true → logs.each_between_after sharper.gets_next (before ++ Line line.number answer ∷ []) (done ++ after) ≡ true
  by_answer verdicts.Ok [] after h law onward = absurd h
  by_answer verdicts.Ok (own ∷ caused) after h law onward = both_hold (sharper.gets_next marked own (caused ++ after)) (logs.each_between_after sharper.gets_next (marked ++ own ∷ []) (caused ++ after))
      (said_next node before line.number line.what own caused after h old law.1)
      (receipts_skipped (marked ++ own ∷ []) caused after h.1 (subst (λ l. logs.each_between_after sharper.gets_next l after ≡ true) (sym (append_assoc marked (own ∷ []) caused ∙ append_assoc before (Line line.number verdicts.Ok ∷ []) (own ∷ caused))) onward)) where
        marked : List Entry
        marked = before ++ Line line.number verdicts.Ok ∷ []
  by_answer answer done after h law onward = subst (λ l. logs.each_between_after sharper.gets_next (before ++ Line line.number answer ∷ []) (l ++ after) ≡ true) (sym h) (subst (λ l. logs.each_between_after sharper.gets_next (before ++ Line line.number answer ∷ l) after ≡ true) h onward)

  by_block : Block before line others rest → logs.each_between_after sharper.gets_next before rest ≡ true
  by_block b = subst (λ l. logs.each_between_after sharper.gets_next before l ≡ true) (sym b.rest_is) (by_answer (answer_over before line.what) b.done b.after b.is_done all_lawful.1
      (more (before ++ Line line.number (answer_over before line.what) ∷ b.done) b.after (entries_append node before (Line line.number (answer_over before line.what) ∷ b.done) old parts.0) parts.1 (lawful_rest before (Line line.number (answer_over before line.what) ∷ b.done) b.after all_lawful) b.more)) where
        all_lawful : AreLawfulAfter before (Line line.number (answer_over before line.what) ∷ b.done ++ b.after)
        all_lawful = subst (λ l. AreLawfulAfter before l) b.rest_is lawful

        parts : AreEntriesOf node (Line line.number (answer_over before line.what) ∷ b.done) × AreEntriesOf node b.after
        parts = entries_parts node (Line line.number (answer_over before line.what) ∷ b.done) b.after (subst (λ l. AreEntriesOf node l) b.rest_is new)

pub got_next : (node : List ℕ) (journal : List JournalLine) → AreOfNode node journal → GotNext node journal
got_next node [] of before rest old new lawful has = subst (λ l. logs.each_between_after sharper.gets_next before l ≡ true) (sym has) refl
got_next node (line ∷ others) of before rest old new lawful has = one_next node line others of.0 (got_next node others of.1) before rest old new lawful has

-- ---- nothing is done at a socket

no_socket : (node : List ℕ) (log : List Entry) (what : What) → IsOfNode node what → line_socket log what ≡ None
no_socket node log (lines.Proc name) of = refl
no_socket node log (lines.Send by (targets.Process to) mark body) of = refl
no_socket node log (lines.Recv by mark) of = refl
no_socket node log (lines.End by) of = refl
no_socket node log what of = absurd of

socket_of : List Entry → Option What → Option SockName
socket_of log found = elim found [
  | None ↦ None
  | Some what ↦ line_socket log what
]

none_found : (node : List ℕ) (log : List Entry) (journal : List JournalLine) → AreOfNode node journal → (number : ℕ) → socket_of log (line_numbered journal number) ≡ None
unfolding socket_of
none_found node log [] of number = refl
none_found node log (line ∷ rest) of number = by_test (line.number == number) (none_found node log rest of.1 number) where
  by_test : (b : Bool) → socket_of log (line_numbered rest number) ≡ None → socket_of log (option_map (λ (l : JournalLine). l.what) (cond b (Some line) (find (λ (l : JournalLine). l.number == number) rest))) ≡ None
  by_test true more = no_socket node log line.what of.0
  by_test false more = more

none_in_journal : (log : List Entry) (number : ℕ) (what : What) (rest : List JournalLine) → IsOfOneNode (record { number = number; what = what } ∷ rest) → (n : ℕ) → socket_of log (line_numbered (record { number = number; what = what } ∷ rest) n) ≡ None
unfolding socket_of
none_in_journal log number (lines.Node name address unique) rest of n = by_test (number == n) (none_found name log rest of n) where
  by_test : (b : Bool) → socket_of log (line_numbered rest n) ≡ None → socket_of log (option_map (λ (l : JournalLine). l.what) (cond b (Some (record { number = number; what = lines.Node name address unique })) (find (λ (l : JournalLine). l.number == n) rest))) ≡ None
  by_test true more = refl
  by_test false more = more
none_in_journal log number what rest of n = absurd of

none_of_journal : (log : List Entry) (journal : List JournalLine) → IsOfOneNode journal → (n : ℕ) → socket_of log (line_numbered journal n) ≡ None
unfolding socket_of
none_of_journal log [] of n = refl
none_of_journal log (line ∷ rest) of n = none_in_journal log line.number line.what rest of n

none_marked : (journal : List JournalLine) (log : List Entry) (number : ℕ) (answer : Verdict) → IsOfOneNode journal → marked_socket journal log (Line number answer) ≡ None
unfolding socket_of
none_marked journal log number verdicts.Ok of = none_of_journal log journal of number
none_marked journal log number answer of = refl

-- what is found at an entry leaves nothing done at a socket
abbrev Keeps : Option (Option SockName) → Type 0
Keeps found = (kept : List (Option SockName)) → fold later None kept ≡ None → fold later None (logs.kept_with found kept) ≡ None

keeps_none : Keeps None
keeps_none kept h = h

keeps_nowhere : Keeps (Some None)
keeps_nowhere kept h = fold_end later None kept None

and_none : (b : Bool) → (b && false) ≡ false
and_none true = refl
and_none false = refl

begins_nowhere : (journal : List JournalLine) (node : List ℕ) (before : List Entry) (x : Entry) → IsOfOneNode journal → IsEntryOf node x → Keeps (begins_at journal before x)
begins_nowhere journal node before (Line number answer) one of = subst (λ o. Keeps (Some o)) (sym (none_marked journal before number answer one)) keeps_nowhere
begins_nowhere journal node before (Made process None None) one of = subst (λ b. Keeps (if b then Some None else None)) (sym (and_none (in_settle journal before))) keeps_none
begins_nowhere journal node before (Said by (targets.Process to) epoch index mark body) one of = subst (λ b. Keeps (if b then Some None else None)) (sym (and_none (in_settle journal before))) keeps_none
begins_nowhere journal node before (Got by (targets.Process to) epoch index (Some receiver)) one of = subst (λ b. Keeps (if b then Some None else None)) (sym (and_none (in_settle journal before))) keeps_none
begins_nowhere journal node before (Took by None mark body) one of = subst (λ b. Keeps (if b then Some None else None)) (sym (and_none (in_settle journal before))) keeps_none
begins_nowhere journal node before (Over process reason) one of = subst (λ b. Keeps (if b then Some None else None)) (sym (and_none (in_settle journal before))) keeps_none
begins_nowhere journal node before x one of = absurd of

nowhere : (journal : List JournalLine) (node : List ℕ) → IsOfOneNode journal → (before : List Entry) (kept : List (Option SockName)) (rest : List Entry) → AreEntriesOf node rest → fold later None kept ≡ None → fold later None (logs.collected_after logs.never (begins_at journal) before kept rest) ≡ None
nowhere journal node one before kept [] of h = h
nowhere journal node one before kept (x ∷ rest) of h = nowhere journal node one (before ++ x ∷ []) (logs.kept_with (begins_at journal before x) kept) rest of.1 (begins_nowhere journal node before x one of.0 kept h)

pub isolated : (journal : List JournalLine) (node : List ℕ) → IsOfOneNode journal → (before : List Entry) (x : Entry) → AreEntriesOf node before → IsEntryOf node x → IsLawfulEntry before x → is_isolated journal before x ≡ true
isolated journal node one before x old of lawful = ap (λ o. is_some (begins_at journal before x) || logs.none_or (λ (sock : SockName). not (is_stranger journal sock.from) || logs.some_and (same_socket sock) (entry_socket x)) o) (nowhere journal node one [] [] before old refl) ∙ or_always (is_some (begins_at journal before x))
