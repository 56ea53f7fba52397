-- What a process of one node takes is what the whole model promises: the first body of the mark that entered and wasn't taken.
use Rattle.std.specs.Prelude.{◌≡◌, ℕ, Bool, true, false, List, [], ◌∷◌, ◌++◌, filter_map, Option, Some, None, slice_get, count_by, if◌then◌else◌}
use Rattle.std.specs.List.{cons_option}
use Rattle.std.specs.Str.{bytes_eq}
use Rattle.std.proofs.Common.{refl, ap, sym, ◌∙◌, append_assoc}
use Rattle.std.proofs.lemmas.List.{append-nil}
use Rattle.ch_ident.specs.declared.message.Message.{Message}
use Rattle.ch_model.specs.declared.name.ProcName.{ProcName}
use Rattle.ch_model.specs.declared.name.TargetName.TheVariants as targets
use Rattle.ch_model.specs.declared.entry.Entry.{Entry}
use Rattle.ch_model.specs.declared.entry.Entry.TheVariants.{Got, Took, Told, Spawned, Isat}
use Rattle.ch_model.specs.declared.line.Line.{Line as JournalLine}
use Rattle.ch_model.specs.Mailboxes as mailboxes
use Rattle.ch_model.specs.Logs as logs
use Rattle.ch_laws_one_node.specs.Counts.{same_process}
use Rattle.ch_laws_one_node.specs.Mailboxes.{message_of, body_of_mark, entering, entered_after, entered}
use Rattle.ch_laws_one_node.specs.Lawful.{IsLawfulEntry}
use Rattle.ch_laws_one_node.proofs.Appending.{equal_bytes}
use Rattle.ch_laws_one_node.proofs.EntriesOf.{IsEntryOf, AreEntriesOf, entries_append}
use Rattle.ch_laws_one_node.proofs.Bridges.{turned, message_is, taken_is}

-- the body of what was found, where it has the mark
abbrev found_bodies : List ℕ → Option Message → List (List ℕ)
found_bodies word None = []
found_bodies word (Some m) = cons_option (mailboxes.body_of word m) []

bodies_same : (word : List ℕ) (o : Option Message) → found_bodies word o ≡ body_of_mark word o
bodies_same word None = refl
bodies_same word (Some m) = by_test (bytes_eq m.mark word) where
  by_test : (b : Bool) → cons_option (if b then Some m.body else None) [] ≡ (if b then m.body ∷ [] else [])
  by_test true = refl
  by_test false = refl

enters : (journal : List JournalLine) (node : List ℕ) (p : ProcName) (word : List ℕ) (before : List Entry) (x : Entry) → AreEntriesOf node before → IsEntryOf node x → found_bodies word (mailboxes.entering journal p before x) ≡ entering before p word x
enters journal node p word before (Got by (targets.Process to) epoch index (Some receiver)) old of =
    ap (λ b. found_bodies word (if b then mailboxes.message_of before by (targets.Process to) epoch index else None)) (turned p receiver)
    ∙ ap (λ o. found_bodies word (if same_process p receiver then o else None)) (message_is node before by to epoch index old)
    ∙ by_test (same_process p receiver) where
      by_test : (b : Bool) → found_bodies word (if b then message_of before by to epoch index else None) ≡ (if b then body_of_mark word (message_of before by to epoch index) else [])
      by_test true = bodies_same word (message_of before by to epoch index)
      by_test false = refl
enters journal node p word before (Got by to epoch index receiver) old of = absurd of
enters journal node p word before (Told watch reason) old of = absurd of
enters journal node p word before (Spawned question process) old of = absurd of
enters journal node p word before (Isat question found) old of = absurd of
enters journal node p word before x old of = refl

kept_more : (word : List ℕ) (o : Option Message) (kept : List Message) → filter_map (mailboxes.body_of word) (logs.kept_with o kept) ≡ filter_map (mailboxes.body_of word) kept ++ found_bodies word o
kept_more word None kept = sym (append-nil (filter_map (mailboxes.body_of word) kept))
kept_more word (Some m) kept = at_end kept where
  onto : (o : Option (List ℕ)) (xs ys : List (List ℕ)) → cons_option o (xs ++ ys) ≡ cons_option o xs ++ ys
  onto None xs ys = refl
  onto (Some x) xs ys = refl

  at_end : (kept : List Message) → filter_map (mailboxes.body_of word) (kept ++ m ∷ []) ≡ filter_map (mailboxes.body_of word) kept ++ cons_option (mailboxes.body_of word m) []
  at_end [] = refl
  at_end (k ∷ kept) = ap (λ l. cons_option (mailboxes.body_of word k) l) (at_end kept) ∙ onto (mailboxes.body_of word k) (filter_map (mailboxes.body_of word) kept) (cons_option (mailboxes.body_of word m) [])

collected_is : (journal : List JournalLine) (node : List ℕ) (p : ProcName) (word : List ℕ) (before : List Entry) (kept : List Message) (rest : List Entry) → AreEntriesOf node before → AreEntriesOf node rest → filter_map (mailboxes.body_of word) (logs.collected_after logs.never (mailboxes.entering journal p) before kept rest) ≡ filter_map (mailboxes.body_of word) kept ++ entered_after before p word rest
collected_is journal node p word before kept [] old of = sym (append-nil (filter_map (mailboxes.body_of word) kept))
collected_is journal node p word before kept (x ∷ rest) old of =
    collected_is journal node p word (before ++ x ∷ []) (logs.kept_with (mailboxes.entering journal p before x) kept) rest (entries_append node before (x ∷ []) old (of.0, tt)) of.1
    ∙ ap (λ l. l ++ entered_after (before ++ x ∷ []) p word rest) (kept_more word (mailboxes.entering journal p before x) kept)
    ∙ ap (λ l. (filter_map (mailboxes.body_of word) kept ++ l) ++ entered_after (before ++ x ∷ []) p word rest) (enters journal node p word before x old of.0)
    ∙ append_assoc (filter_map (mailboxes.body_of word) kept) (entering before p word x) (entered_after (before ++ x ∷ []) p word rest)

pub entered_is : (journal : List JournalLine) (node : List ℕ) (log : List Entry) (p : ProcName) (word : List ℕ) → AreEntriesOf node log → mailboxes.entered journal log p word ≡ entered log p word
entered_is journal node log p word of = collected_is journal node p word [] [] log tt of

pub took_the_first : (journal : List JournalLine) (node : List ℕ) (before : List Entry) (x : Entry) → AreEntriesOf node before → IsEntryOf node x → IsLawfulEntry before x → mailboxes.takes_the_first journal before x ≡ true
took_the_first journal node before (Took by None mark body) old of lawful =
    ap (λ l. logs.some_and (bytes_eq body) (slice_get l (count_by (mailboxes.takes_marked by mark) before))) (entered_is journal node before by mark old)
    ∙ ap (λ n. logs.some_and (bytes_eq body) (slice_get (entered before by mark) n)) (taken_is node before by mark old)
    ∙ ap (logs.some_and (bytes_eq body)) lawful.first_left
    ∙ equal_bytes body
took_the_first journal node before x old of lawful = refl

pub none_of_port : (node : List ℕ) (before : List Entry) (x : Entry) → AreEntriesOf node before → IsEntryOf node x → IsLawfulEntry before x → mailboxes.takes_the_first_of_port before x ≡ true
none_of_port node before (Took by (Some port) mark body) old of lawful = absurd of
none_of_port node before x old of lawful = refl
