-- What the whole model promises of names, frames, live sockets and settling holds where none of them is.
use Rattle.std.specs.Prelude.{◌≡◌, ℕ, Bool, true, ◌||◌, List, [], ◌∷◌, ◌++◌, filter, filter_map, position, count_by, nat_le, Option, Some, None}
use Rattle.std.specs.List.{list_any, list_all, cons_option}
use Rattle.std.proofs.Common.{refl, ap, sym, ◌∙◌}
use Rattle.ch_model.specs.declared.name.ProcName.{ProcName}
use Rattle.ch_model.specs.declared.name.SockName.{SockName}
use Rattle.ch_model.specs.declared.name.TargetName.TheVariants as targets
use Rattle.ch_model.specs.declared.entry.Entry.{Entry}
use Rattle.ch_model.specs.declared.entry.Entry.TheVariants.{Line, Made, Said, Got, Took, Over, Up, Wrote}
use Rattle.ch_model.specs.declared.line.Line.{Line as JournalLine}
use Rattle.ch_model.specs.Same.{same_pair}
use Rattle.ch_model.specs.Logs as logs
use Rattle.ch_model.specs.Names.{names_of, fall_first, loses_names}
use Rattle.ch_model.specs.LiveSockets.{accepted_by, is_unclosed, has_one_live}
use Rattle.ch_model.specs.Rest.{SettlesAtRestAfter}
use Rattle.ch_model.specs.AccountsFrames.{Saying, is_saying, carried, written_sayings}
use Rattle.ch_model.specs.AccountsMessages.{Feeding, feeding, arrived, gets_by_bytes, got_before, gets_in_order_written}
use Rattle.ch_laws_one_node.proofs.EntriesOf.{IsEntryOf, AreEntriesOf, entries_append}
use Rattle.ch_laws_one_node.proofs.Bridges.{equal_bytes_are}
use Rattle.ch_laws_one_node.proofs.WholeEntries.{both_hold}

pub each_between_of : (node : List ℕ) (test : List Entry → Entry → List Entry → Bool) → ((before : List Entry) (x : Entry) (rest : List Entry) → AreEntriesOf node before → IsEntryOf node x → test before x rest ≡ true) → (before rest : List Entry) → AreEntriesOf node before → AreEntriesOf node rest → logs.each_between_after test before rest ≡ true
each_between_of node test holds before [] old of = refl
each_between_of node test holds before (x ∷ rest) old of = both_hold (test before x rest) (logs.each_between_after test (before ++ x ∷ []) rest) (holds before x rest old of.0)
    (each_between_of node test holds (before ++ x ∷ []) rest (entries_append node before (x ∷ []) old (of.0, tt)) of.1)

-- ---- no process has a name

no_names : (node : List ℕ) (p : ProcName) (log : List Entry) → AreEntriesOf node log → names_of p log ≡ []
no_names node p [] of = refl
no_names node p (Line number answer ∷ rest) of = no_names node p rest of.1
no_names node p (Made process None None ∷ rest) of = no_names node p rest of.1
no_names node p (Said by to epoch index mark body ∷ rest) of = no_names node p rest of.1
no_names node p (Got by to epoch index receiver ∷ rest) of = no_names node p rest of.1
no_names node p (Took by port mark body ∷ rest) of = no_names node p rest of.1
no_names node p (Over process reason ∷ rest) of = no_names node p rest of.1
no_names node p (x ∷ rest) of = absurd of.0

pub loses_no_name : (node : List ℕ) (before : List Entry) (x : Entry) (rest : List Entry) → AreEntriesOf node before → IsEntryOf node x → loses_names before x rest ≡ true
loses_no_name node before (Over process reason) rest old of = ap (λ l. fall_first process.node l rest) (no_names node process before old)
loses_no_name node before x rest old of = refl

-- ---- no message goes by a frame

pub got_within : (journal : List JournalLine) (node : List ℕ) (before : List Entry) (x : Entry) → IsEntryOf node x → gets_by_bytes journal before x ≡ true
got_within journal node before (Got by (targets.Process to) epoch index (Some receiver)) of = ap (λ b. b || logs.some_and (λ (f : Feeding). list_any (is_saying by (targets.Process to) epoch index) (arrived journal before f)) (logs.last_of feeding before)) (equal_bytes_are by.node to.node (of.0 ∙ sym of.1))
got_within journal node before (Got by to epoch index receiver) of = absurd of
got_within journal node before x of = refl

carries_none : (journal : List JournalLine) (node x y : List ℕ) (before : List Entry) (entry : Entry) → IsEntryOf node entry → carried journal x y before entry ≡ None
carries_none journal node x y before (Wrote sock end bytes) of = absurd of
carries_none journal node x y before entry of = refl

collects_none : {B : Type 0} (node : List ℕ) (look : List Entry → Entry → Option B) → ((before : List Entry) (x : Entry) → IsEntryOf node x → look before x ≡ None) → (before : List Entry) (kept : List B) (rest : List Entry) → AreEntriesOf node rest → logs.collected_after logs.never look before kept rest ≡ kept
collects_none node look none before kept [] of = refl
collects_none node look none before kept (x ∷ rest) of = ap (λ o. logs.collected_after logs.never look (before ++ x ∷ []) (logs.kept_with o kept) rest) (none before x of.0) ∙ collects_none node look none (before ++ x ∷ []) kept rest of.1

nothing_written : (journal : List JournalLine) (node x y : List ℕ) (log : List Entry) → AreEntriesOf node log → written_sayings journal log x y ≡ []
nothing_written journal node x y log of = collects_none node (carried journal x y) (carries_none journal node x y) [] [] log of

pub got_unwritten : (journal : List JournalLine) (node : List ℕ) (before : List Entry) (x : Entry) → AreEntriesOf node before → IsEntryOf node x → gets_in_order_written journal before x ≡ true
got_unwritten journal node before (Got by (targets.Process to) epoch index (Some receiver)) old of = ap (λ (l : List Saying). logs.none_or (λ place. list_all (got_before l place by.node to.node) before) (position (is_saying by (targets.Process to) epoch index) l)) (nothing_written journal node by.node to.node before old)
got_unwritten journal node before (Got by to epoch index receiver) old of = absurd of
got_unwritten journal node before x old of = refl

-- ---- no socket is live

accepts_none : (node : List ℕ) (x : Entry) → IsEntryOf node x → accepted_by x ≡ None
accepts_none node (Up sock end) of = absurd of
accepts_none node x of = refl

none_accepted : (node : List ℕ) (log : List Entry) → AreEntriesOf node log → filter_map accepted_by log ≡ []
none_accepted node [] of = refl
none_accepted node (x ∷ log) of = ap (λ o. cons_option o (filter_map accepted_by log)) (accepts_none node x of.0) ∙ none_accepted node log of.1

one_at_most : (node : List ℕ) (log : List Entry) → AreEntriesOf node log → has_one_live log ≡ true
one_at_most node log of = ap (λ (l : List SockName). list_all (λ sock. nat_le (count_by (same_pair sock) l) 1) l) (ap (filter (is_unclosed log)) (none_accepted node log of))

pub none_live : (node : List ℕ) (before rest : List Entry) → AreEntriesOf node before → AreEntriesOf node rest → logs.always_after has_one_live before rest ≡ true
none_live node before [] old of = one_at_most node before old
none_live node before (x ∷ rest) old of = both_hold (has_one_live before) (logs.always_after has_one_live (before ++ x ∷ []) rest) (one_at_most node before old) (none_live node (before ++ x ∷ []) rest (entries_append node before (x ∷ []) old (of.0, tt)) of.1)

-- ---- nothing settles

pub never_settles : (node : List ℕ) (journal : List JournalLine) (before rest : List Entry) → AreEntriesOf node rest → SettlesAtRestAfter journal before rest
never_settles node journal before [] of = tt
never_settles node journal before (Line number answer ∷ rest) of = never_settles node journal (before ++ Line number answer ∷ []) rest of.1
never_settles node journal before (Made process None None ∷ rest) of = never_settles node journal (before ++ Made process None None ∷ []) rest of.1
never_settles node journal before (Said by to epoch index mark body ∷ rest) of = never_settles node journal (before ++ Said by to epoch index mark body ∷ []) rest of.1
never_settles node journal before (Got by to epoch index receiver ∷ rest) of = never_settles node journal (before ++ Got by to epoch index receiver ∷ []) rest of.1
never_settles node journal before (Took by port mark body ∷ rest) of = never_settles node journal (before ++ Took by port mark body ∷ []) rest of.1
never_settles node journal before (Over process reason ∷ rest) of = never_settles node journal (before ++ Over process reason ∷ []) rest of.1
never_settles node journal before (x ∷ rest) of = absurd of.0
