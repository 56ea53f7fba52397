-- Each entry of a lawful log of one node is lawful as the whole model promises: epochs, receipts and lives.
use Rattle.std.specs.Prelude.{◌≡◌, ℕ, ◌+◌, ◌≤◌, Bool, true, false, not, ◌&&◌, ◌||◌, cond, List, [], ◌∷◌, ◌++◌, count_by, Option, Some, None, ◌==◌}
use Rattle.std.specs.List.{list_any, fold}
use Rattle.std.specs.Str.{bytes_eq}
use Rattle.std.proofs.Common.{refl, ap, sym, ◌∙◌, subst, arith}
use Rattle.std.proofs.lemmas.Bool.{eq-eqb, and_parts, or_parts}
use Rattle.ch_model.specs.declared.name.ProcName.{ProcName}
use Rattle.ch_model.specs.declared.name.TargetName.{TargetName}
use Rattle.ch_model.specs.declared.name.TargetName.TheVariants as targets
use Rattle.ch_model.specs.declared.entry.Entry.{Entry}
use Rattle.ch_model.specs.declared.entry.Entry.TheVariants.{Made, Said, Got, Took, Over, Again, Watch, Told, Doom}
use Rattle.ch_model.specs.declared.line.Line.{Line as JournalLine}
use Rattle.ch_model.specs.Epochs as epochs
use Rattle.ch_model.specs.Life as life
use Rattle.ch_model.specs.LifeRules as rules
use Rattle.ch_model.specs.Delivery as delivery
use Rattle.ch_model.specs.Logs as logs
use Rattle.ch_laws_one_node.specs.Counts.{same_process}
use Rattle.ch_laws_one_node.specs.Life.{Lives}
use Rattle.ch_laws_one_node.specs.Delivery.{is_the_said, gets_later, last_is}
use Rattle.ch_laws_one_node.specs.Lawful.{IsLawfulEntry, AreLawfulAfter}
use Rattle.ch_laws_one_node.proofs.Appending.{equal_bytes, equal_numbers}
use Rattle.ch_laws_one_node.proofs.EntriesOf.{IsEntryOf, AreEntriesOf, entries_append, anys_same}
use Rattle.ch_laws_one_node.proofs.Bridges.{equal_bytes_are, made_is, over_is, made_on_is, says_it_same, epoch_is, index_is, got_is, later_is, broken_is}

pub both_hold : (a b : Bool) → a ≡ true → b ≡ true → (a && b) ≡ true
both_hold true true h g = refl
both_hold true false h g = g
both_hold false b h g = h

-- a test that holds of each lawful entry holds throughout
pub each_of : (node : List ℕ) (test : List Entry → Entry → Bool) → ((before : List Entry) (x : Entry) → AreEntriesOf node before → IsEntryOf node x → IsLawfulEntry before x → test before x ≡ true) → (before rest : List Entry) → AreEntriesOf node before → AreEntriesOf node rest → AreLawfulAfter before rest → logs.each_after test before rest ≡ true
each_of node test holds before [] old of lawful = refl
each_of node test holds before (x ∷ rest) old of lawful = both_hold (test before x) (logs.each_after test (before ++ x ∷ []) rest) (holds before x old of.0 lawful.0)
    (each_of node test holds (before ++ x ∷ []) rest (entries_append node before (x ∷ []) old (of.0, tt)) of.1 lawful.1)

-- ---- epochs

pub said_in_epoch : (node : List ℕ) (before : List Entry) (x : Entry) → AreEntriesOf node before → IsEntryOf node x → IsLawfulEntry before x → epochs.is_said_in_epoch before x ≡ true
said_in_epoch node before (Said by (targets.Process to) epoch index mark body) old of lawful = eq-eqb epoch (epochs.epoch_of before by (targets.Process to)) (lawful.epoch_is ∙ sym (epoch_is node before by to old))
said_in_epoch node before (Said by to epoch index mark body) old of lawful = absurd of
said_in_epoch node before x old of lawful = refl

pub next_index_said : (node : List ℕ) (before : List Entry) (x : Entry) → AreEntriesOf node before → IsEntryOf node x → IsLawfulEntry before x → epochs.has_next_index before x ≡ true
next_index_said node before (Said by (targets.Process to) epoch index mark body) old of lawful = eq-eqb index (epochs.index_of before by (targets.Process to) epoch) (lawful.index_is ∙ sym (index_is node before by to epoch old))
next_index_said node before (Said by to epoch index mark body) old of lawful = absurd of
next_index_said node before x old of lawful = refl

pub none_again : (node : List ℕ) (before : List Entry) (x : Entry) → AreEntriesOf node before → IsEntryOf node x → IsLawfulEntry before x → epochs.begins_next_epoch before x ≡ true
none_again node before (Again by to epoch) old of lawful = absurd of
none_again node before x old of lawful = refl

-- ---- receipts: said before

until_all : (p : Entry → Bool) (xs : List Entry) → list_any p xs ≡ false → logs.until p xs ≡ xs
until_all p [] h = refl
until_all p (x ∷ xs) h = let parts = or_parts (p x) (list_any p xs) h in ap (λ b. cond b [] (x ∷ logs.until p xs)) parts.0 ∙ ap (λ l. x ∷ l) (until_all p xs parts.1)

none_from_first : (p g : Entry → Bool) (xs : List Entry) → list_any p xs ≡ false → list_any p (logs.from_first g xs) ≡ false
none_from_first p g [] h = refl
none_from_first p g (x ∷ xs) h = by_test (g x) (none_from_first p g xs (or_parts (p x) (list_any p xs) h).1) where
  by_test : (b : Bool) → list_any p (logs.from_first g xs) ≡ false → list_any p (cond b (x ∷ xs) (logs.from_first g xs)) ≡ false
  by_test true more = h
  by_test false more = more

any_from_first : (f g : Entry → Bool) → ((x : Entry) → f x ≡ true → g x ≡ true) → (xs : List Entry) → list_any f (logs.from_first g xs) ≡ list_any f xs
any_from_first f g implies [] = refl
any_from_first f g implies (x ∷ xs) = by_test (g x) refl (f x) refl (any_from_first f g implies xs) where
  by_test : (b : Bool) → g x ≡ b → (c : Bool) → f x ≡ c → list_any f (logs.from_first g xs) ≡ list_any f xs → list_any f (cond b (x ∷ xs) (logs.from_first g xs)) ≡ list_any f (x ∷ xs)
  by_test true h c e more = refl
  by_test false h true e more = let is : g x ≡ true = implies x e in absurd (cc)
  by_test false h false e more = more ∙ ap (λ b. b || list_any f xs) (sym e)

it_is_in : (p : ProcName) (d : TargetName) (e k : ℕ) (x : Entry) → epochs.says_it p d e k x ≡ true → epochs.says_in p d e x ≡ true
it_is_in p d e k (Said by to epoch index mark body) h = (and_parts (epochs.says_in p d e (Said by to epoch index mark body)) (index == k) h).0
it_is_in p d e k x h = h

pub got_the_said : (node : List ℕ) (before : List Entry) (x : Entry) → AreEntriesOf node before → IsEntryOf node x → IsLawfulEntry before x → delivery.gets_the_said before x ≡ true
got_the_said node before (Got by (targets.Process to) epoch index (Some receiver)) old of lawful =
    ap (list_any it) (until_all (epochs.breaks_pair by d) (logs.from_first (epochs.says_in by d epoch) before) (none_from_first (epochs.breaks_pair by d) (epochs.says_in by d epoch) before (broken_is node before by d old)))
    ∙ any_from_first it (epochs.says_in by d epoch) (it_is_in by d epoch index) before
    ∙ anys_same node it (is_the_said by to epoch index) (says_it_same node by to epoch index) before old
    ∙ lawful.said_first where
      d : TargetName
      d = targets.Process to

      it : Entry → Bool
      it = epochs.says_it by d epoch index
got_the_said node before (Got by to epoch index receiver) old of lawful = absurd of
got_the_said node before x old of lawful = refl

-- ---- receipts: in order and once

pub got_the_next : (node : List ℕ) (before : List Entry) (x : Entry) → AreEntriesOf node before → IsEntryOf node x → IsLawfulEntry before x → delivery.gets_the_next before x ≡ true
got_the_next node before (Got by (targets.Process to) epoch index (Some receiver)) old of lawful = eq-eqb (count_by (delivery.gets_in by (targets.Process to) epoch) before) index (got_is node before by to epoch old ∙ lawful.in_order_and_once)
got_the_next node before (Got by to epoch index receiver) old of lawful = absurd of
got_the_next node before x old of lawful = refl

counted : (p : Entry → Bool) (n : ℕ) (xs : List Entry) → n ≤ fold (λ a x. a + cond (p x) 1 0) n xs
counted p n [] = same n where
  same : (k : ℕ) → k ≤ k
  same k = omega arith
counted p n (x ∷ xs) = above n (cond (p x) 1 0) (fold (λ a x. a + cond (p x) 1 0) (n + cond (p x) 1 0) xs) (counted p (n + cond (p x) 1 0) xs) where
  above : (k m l : ℕ) → k + m ≤ l → k ≤ l
  above k m l h = omega arith

none_counted : (p : Entry → Bool) (n : ℕ) (xs : List Entry) → fold (λ a x. a + cond (p x) 1 0) n xs ≡ n → list_any p xs ≡ false
none_counted p n [] h = refl
none_counted p n (x ∷ xs) h = by_test (p x) refl (none_counted p n xs) h where
  same : (k : ℕ) → k + 0 ≡ k
  same k = omega arith

  too_many : (k l : ℕ) → k + 1 ≤ l → l ≡ k → ⊥
  too_many k l h e = omega arith

  by_test : (b : Bool) → p x ≡ b → (fold (λ a x. a + cond (p x) 1 0) n xs ≡ n → list_any p xs ≡ false) → fold (λ a x. a + cond (p x) 1 0) (n + cond b 1 0) xs ≡ n → (b || list_any p xs) ≡ false
  by_test true h more e = absurd (too_many n (fold (λ a x. a + cond (p x) 1 0) (n + 1) xs) (counted p (n + 1) xs) e)
  by_test false h more e = more (ap (λ k. fold (λ a x. a + cond (p x) 1 0) k xs) (sym (same n)) ∙ e)

pub got_no_earlier : (node : List ℕ) (before : List Entry) (x : Entry) → AreEntriesOf node before → IsEntryOf node x → IsLawfulEntry before x → delivery.gets_no_earlier before x ≡ true
got_no_earlier node before (Got by (targets.Process to) epoch index (Some receiver)) old of lawful = ap not (later_is node before by to epoch old ∙ none_counted (gets_later by to epoch) 0 before lawful.epochs_in_order)
got_no_earlier node before (Got by to epoch index receiver) old of lawful = absurd of
got_no_earlier node before x old of lawful = refl

-- ---- receipts: by whom, and when

pub same_self_is : (p q : ProcName) → p ≡ q → same_process p q ≡ true
same_self_is p q h = subst (λ r. same_process p r ≡ true) h (both_hold (bytes_eq p.node p.node) (p.counter == p.counter) (equal_bytes p.node) (equal_numbers p.counter))

pub not_over : (node : List ℕ) (before : List Entry) (p : ProcName) → AreEntriesOf node before → Lives before p → not (life.is_over before p) ≡ true
not_over node before p old lives = ap not (over_is node before p old ∙ lives.not_over)

pub got_by_receiver : (node : List ℕ) (before : List Entry) (x : Entry) → AreEntriesOf node before → IsEntryOf node x → IsLawfulEntry before x → delivery.gets_by_receiver before x ≡ true
got_by_receiver node before (Got by (targets.Process to) epoch index (Some receiver)) old of lawful = both_hold (same_process receiver to) (delivery.may_receive before to) (same_self_is receiver to lawful.receiver_is)
    (both_hold (life.is_made before to) (not (life.is_over before to)) (made_is node before to old ∙ lawful.living.made) (not_over node before to old lawful.living))
got_by_receiver node before (Got by to epoch index receiver) old of lawful = absurd of
got_by_receiver node before x old of lawful = refl

pub got_over_link : (node : List ℕ) (before : List Entry) (x : Entry) → AreEntriesOf node before → IsEntryOf node x → IsLawfulEntry before x → delivery.gets_over_link before x ≡ true
got_over_link node before (Got by (targets.Process to) epoch index (Some receiver)) old of lawful = ap (λ b. b || delivery.hears_from before to.node by.node) (equal_bytes_are by.node to.node (of.0 ∙ sym of.1))
got_over_link node before (Got by to epoch index receiver) old of lawful = absurd of
got_over_link node before x old of lawful = refl

last_same : (node : List ℕ) (f g : Entry → Bool) → ((x : Entry) → IsEntryOf node x → f x ≡ g x) → (found : Option Entry) (log : List Entry) → AreEntriesOf node log → last_is g log ≡ true → logs.some_and f (fold (λ found entry. logs.or_else (Some entry) found) found log) ≡ true
last_same node f g same found [] of h = absurd (cc)
last_same node f g same found (x ∷ []) of h = same x of.0 ∙ h
last_same node f g same found (x ∷ y ∷ rest) of h = last_same node f g same (Some x) (y ∷ rest) of.1 h

pub got_at_once : (node : List ℕ) (before : List Entry) (x : Entry) → AreEntriesOf node before → IsEntryOf node x → IsLawfulEntry before x → delivery.gets_at_once before x ≡ true
got_at_once node before (Got by (targets.Process to) epoch index (Some receiver)) old of lawful = ap (λ b. not b || logs.last_is (epochs.says_it by (targets.Process to) epoch index) before) (equal_bytes_are by.node to.node (of.0 ∙ sym of.1))
    ∙ last_same node (epochs.says_it by (targets.Process to) epoch index) (is_the_said by to epoch index) (says_it_same node by to epoch index) None before old lawful.at_once
got_at_once node before (Got by to epoch index receiver) old of lawful = absurd of
got_at_once node before x old of lawful = refl

-- ---- lives

pub numbered : (node : List ℕ) (before : List Entry) (x : Entry) → AreEntriesOf node before → IsEntryOf node x → IsLawfulEntry before x → rules.is_numbered before x ≡ true
numbered node before (Made process None None) old of lawful = eq-eqb process.counter (count_by (life.makes_on process.node) before) (lawful ∙ sym (made_on_is node before process.node old))
numbered node before (Made process spawn label) old of lawful = absurd of
numbered node before x old of lawful = refl

pub none_doomed : (node : List ℕ) (before : List Entry) (x : Entry) → AreEntriesOf node before → IsEntryOf node x → IsLawfulEntry before x → rules.dooms_the_live before x ≡ true
none_doomed node before (Doom process text) old of lawful = absurd of
none_doomed node before x old of lawful = refl

pub none_caused : (journal : List JournalLine) (node : List ℕ) (before : List Entry) (x : Entry) → AreEntriesOf node before → IsEntryOf node x → IsLawfulEntry before x → rules.dooms_with_cause journal before x ≡ true
none_caused journal node before (Doom process text) old of lawful = absurd of
none_caused journal node before x old of lawful = refl

pub over_once : (node : List ℕ) (before : List Entry) (x : Entry) → AreEntriesOf node before → IsEntryOf node x → IsLawfulEntry before x → rules.ends_once before x ≡ true
over_once node before (Over process reason) old of lawful = both_hold (life.is_made before process) (not (life.is_over before process)) (made_is node before process old ∙ lawful.made) (not_over node before process old lawful)
over_once node before x old of lawful = refl

pub dead_rest : (node : List ℕ) (before : List Entry) (x : Entry) → AreEntriesOf node before → IsEntryOf node x → IsLawfulEntry before x → rules.concerns_no_dead before x ≡ true
dead_rest node before (Said by (targets.Process to) epoch index mark body) old of lawful = not_over node before by old lawful.living
dead_rest node before (Said by to epoch index mark body) old of lawful = absurd of
dead_rest node before (Took by None mark body) old of lawful = not_over node before by old lawful.living
dead_rest node before (Took by port mark body) old of lawful = absurd of
dead_rest node before (Got by (targets.Process to) epoch index (Some receiver)) old of lawful = subst (λ p. not (life.is_over before p) ≡ true) (sym lawful.receiver_is) (not_over node before to old lawful.living)
dead_rest node before (Got by to epoch index receiver) old of lawful = absurd of
dead_rest node before (Again by to epoch) old of lawful = absurd of
dead_rest node before (Watch watch by target kind) old of lawful = absurd of
dead_rest node before (Told watch reason) old of lawful = absurd of
dead_rest node before x old of lawful = refl
