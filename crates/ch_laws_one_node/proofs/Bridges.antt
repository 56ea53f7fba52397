-- The counts of the whole model's lawful log are those of one node, on a log of one node.
use Rattle.std.specs.Prelude.{◌≡◌, ℕ, Bool, true, false, not, ◌&&◌, ◌||◌, List, [], ◌∷◌, count_by, Option, Some, None, ◌==◌, nat_lt, if◌then◌else◌}
use Rattle.std.specs.List.{list_any}
use Rattle.std.specs.Str.{bytes_eq}
use Rattle.std.proofs.Common.{refl, ap, sym, ◌∙◌, arith}
use Rattle.std.proofs.lemmas.Bool.Decides.{nat_tests}
use Rattle.std.proofs.lemmas.Slice.Eq.{bytes_eq-Decides}
use Rattle.ch_model.specs.declared.name.ProcName.{ProcName}
use Rattle.ch_model.specs.declared.name.TargetName.{TargetName}
use Rattle.ch_model.specs.declared.name.TargetName.TheVariants as targets
use Rattle.ch_model.specs.declared.entry.Entry.{Entry}
use Rattle.ch_model.specs.declared.entry.Entry.TheVariants.{Made, Said, Got, Took, Over, Again, Broke, Doom, Shut}
use Rattle.ch_model.specs.Epochs as epochs
use Rattle.ch_model.specs.Life as life
use Rattle.ch_model.specs.Delivery as delivery
use Rattle.ch_model.specs.Mailboxes as mailboxes
use Rattle.ch_model.specs.Logs as logs
use Rattle.ch_laws_one_node.specs.Counts.{same_process, makes, makes_on, ends, says, gets, takes, is_made_in, is_over_in, made_in, index_of, got_in, taken_in}
use Rattle.ch_laws_one_node.specs.Delivery.{is_the_said, gets_later}
use Rattle.ch_laws_one_node.specs.Mailboxes.{said_by, first_some, message_of}
use Rattle.ch_laws_one_node.proofs.EntriesOf.{IsEntryOf, AreEntriesOf, count_none, any_none, counts_same, anys_same}

-- ---- tests, turned

pub numbers_turned : (i k : ℕ) → (k == i) ≡ (i == k)
numbers_turned i k = grind (arith, nat_tests)

pub bytes_turned : (xs ys : List ℕ) → bytes_eq ys xs ≡ bytes_eq xs ys
bytes_turned xs ys = by_test (bytes_eq ys xs) (bytes_eq xs ys) refl refl where
  by_test : (a b : Bool) → bytes_eq ys xs ≡ a → bytes_eq xs ys ≡ b → a ≡ b
  by_test true true h g = refl
  by_test false false h g = refl
  by_test true false h g = let is : bytes_eq xs ys ≡ true = (bytes_eq-Decides xs ys).1 (sym ((bytes_eq-Decides ys xs).0 h)) in absurd (cc)
  by_test false true h g = let is : bytes_eq ys xs ≡ true = (bytes_eq-Decides ys xs).1 (sym ((bytes_eq-Decides xs ys).0 g)) in absurd (cc)

pub turned : (p q : ProcName) → same_process q p ≡ same_process p q
turned p q = ap (λ b. b && q.counter == p.counter) (bytes_turned p.node q.node) ∙ ap (λ b. bytes_eq p.node q.node && b) (numbers_turned p.counter q.counter)

pub equal_bytes_are : (xs ys : List ℕ) → xs ≡ ys → bytes_eq xs ys ≡ true
equal_bytes_are xs ys h = (bytes_eq-Decides xs ys).1 h

and_none : (b : Bool) → (b && false) ≡ false
and_none true = refl
and_none false = refl

-- ---- lives

makes_same : (p : ProcName) (x : Entry) → life.makes p x ≡ makes p x
makes_same p (Made process spawn label) = turned p process
makes_same p x = refl

ends_same : (p : ProcName) (x : Entry) → life.ends p x ≡ ends p x
ends_same p (Over process reason) = turned p process
ends_same p x = refl

makes_on_same : (node : List ℕ) (x : Entry) → life.makes_on node x ≡ makes_on node x
makes_on_same node (Made process spawn label) = bytes_turned node process.node
makes_on_same node x = refl

never_shuts : (node at : List ℕ) (x : Entry) → IsEntryOf node x → life.shuts at x ≡ false
never_shuts node at (Shut other) of = absurd of
never_shuts node at x of = refl

never_dooms : (node : List ℕ) (p : ProcName) (x : Entry) → IsEntryOf node x → life.dooms p x ≡ false
never_dooms node p (Doom process text) of = absurd of
never_dooms node p x of = refl

or_none : (b : Bool) → (b || false) ≡ b
or_none true = refl
or_none false = refl

pub made_is : (node : List ℕ) (log : List Entry) (p : ProcName) → AreEntriesOf node log → life.is_made log p ≡ is_made_in log p
made_is node log p of = anys_same node (life.makes p) (makes p) (λ x h. makes_same p x) log of

pub shut_is : (node : List ℕ) (log : List Entry) (at : List ℕ) → AreEntriesOf node log → life.is_shut log at ≡ false
shut_is node log at of = any_none node (life.shuts at) (never_shuts node at) log of

pub over_is : (node : List ℕ) (log : List Entry) (p : ProcName) → AreEntriesOf node log → life.is_over log p ≡ is_over_in log p
over_is node log p of = ap (λ b. list_any (life.ends p) log || b) (shut_is node log p.node of) ∙ or_none (list_any (life.ends p) log) ∙ anys_same node (life.ends p) (ends p) (λ x h. ends_same p x) log of

pub doomed_is : (node : List ℕ) (log : List Entry) (p : ProcName) → AreEntriesOf node log → life.is_doomed log p ≡ false
doomed_is node log p of = any_none node (life.dooms p) (never_dooms node p) log of

pub made_on_is : (node : List ℕ) (log : List Entry) (at : List ℕ) → AreEntriesOf node log → count_by (life.makes_on at) log ≡ made_in log at
made_on_is node log at of = counts_same node (life.makes_on at) (makes_on at) (λ x h. makes_on_same at x) log of

-- ---- messages

pair_same : (p q by to : ProcName) (z : Bool) → (same_process by p && same_process to q && z) ≡ (same_process p by && same_process q to && z)
pair_same p q by to z = ap (λ b. b && same_process to q && z) (turned p by) ∙ ap (λ b. same_process p by && b && z) (turned q to)

says_same : (node : List ℕ) (p q : ProcName) (e : ℕ) (x : Entry) → IsEntryOf node x → epochs.says_in p (targets.Process q) e x ≡ says p q e x
says_same node p q e (Said by (targets.Process to) epoch index mark body) of = pair_same p q by to (epoch == e) ∙ ap (λ b. same_process p by && same_process q to && b) (numbers_turned e epoch)
says_same node p q e (Said by to epoch index mark body) of = absurd of
says_same node p q e x of = refl

pub says_it_same : (node : List ℕ) (p q : ProcName) (e k : ℕ) (x : Entry) → IsEntryOf node x → epochs.says_it p (targets.Process q) e k x ≡ is_the_said p q e k x
says_it_same node p q e k (Said by (targets.Process to) epoch index mark body) of = ap (λ b. b && index == k) (pair_same p q by to (epoch == e))
    ∙ ap (λ b. same_process p by && same_process q to && b && index == k) (numbers_turned e epoch)
    ∙ ap (λ b. same_process p by && same_process q to && e == epoch && b) (numbers_turned k index)
says_it_same node p q e k (Said by to epoch index mark body) of = absurd of
says_it_same node p q e k x of = refl

gets_same : (node : List ℕ) (p q : ProcName) (e : ℕ) (x : Entry) → IsEntryOf node x → delivery.gets_in p (targets.Process q) e x ≡ gets p q e x
gets_same node p q e (Got by (targets.Process to) epoch index receiver) of = pair_same p q by to (epoch == e) ∙ ap (λ b. same_process p by && same_process q to && b) (numbers_turned e epoch)
gets_same node p q e (Got by to epoch index receiver) of = absurd of
gets_same node p q e x of = refl

later_same : (node : List ℕ) (p q : ProcName) (e : ℕ) (x : Entry) → IsEntryOf node x → delivery.gets_later p (targets.Process q) e x ≡ gets_later p q e x
later_same node p q e (Got by (targets.Process to) epoch index receiver) of = pair_same p q by to (nat_lt e epoch)
later_same node p q e (Got by to epoch index receiver) of = absurd of
later_same node p q e x of = refl

takes_same : (p : ProcName) (word : List ℕ) (x : Entry) → mailboxes.takes_marked p word x ≡ takes p word x
takes_same p word (Took by None mark body) = ap (λ b. b && bytes_eq mark word) (turned p by) ∙ ap (λ b. same_process p by && b) (bytes_turned word mark)
takes_same p word x = refl

never_again : (node : List ℕ) (p : ProcName) (d : TargetName) (x : Entry) → IsEntryOf node x → epochs.reconnects p d x ≡ false
never_again node p d (Again by to epoch) of = absurd of
never_again node p d x of = refl

never_breaks : (node : List ℕ) (p : ProcName) (d : TargetName) (x : Entry) → IsEntryOf node x → epochs.breaks_pair p d x ≡ false
never_breaks node p d (Broke from peer why) of = absurd of
never_breaks node p d x of = and_none (not (bytes_eq p.node (Rattle.ch_model.specs.Same.node_of d)))

pub epoch_is : (node : List ℕ) (log : List Entry) (p q : ProcName) → AreEntriesOf node log → epochs.epoch_of log p (targets.Process q) ≡ 0
epoch_is node log p q of = count_none node (epochs.reconnects p (targets.Process q)) (never_again node p (targets.Process q)) log of

pub index_is : (node : List ℕ) (log : List Entry) (p q : ProcName) (e : ℕ) → AreEntriesOf node log → epochs.index_of log p (targets.Process q) e ≡ index_of log p q e
index_is node log p q e of = counts_same node (epochs.says_in p (targets.Process q) e) (says p q e) (says_same node p q e) log of

pub got_is : (node : List ℕ) (log : List Entry) (p q : ProcName) (e : ℕ) → AreEntriesOf node log → count_by (delivery.gets_in p (targets.Process q) e) log ≡ got_in log p q e
got_is node log p q e of = counts_same node (delivery.gets_in p (targets.Process q) e) (gets p q e) (gets_same node p q e) log of

pub later_is : (node : List ℕ) (log : List Entry) (p q : ProcName) (e : ℕ) → AreEntriesOf node log → list_any (delivery.gets_later p (targets.Process q) e) log ≡ list_any (gets_later p q e) log
later_is node log p q e of = anys_same node (delivery.gets_later p (targets.Process q) e) (gets_later p q e) (later_same node p q e) log of

pub taken_is : (node : List ℕ) (log : List Entry) (p : ProcName) (word : List ℕ) → AreEntriesOf node log → count_by (mailboxes.takes_marked p word) log ≡ taken_in log p word
taken_is node log p word of = counts_same node (mailboxes.takes_marked p word) (takes p word) (λ x h. takes_same p word x) log of

pub broken_is : (node : List ℕ) (log : List Entry) (p : ProcName) (d : TargetName) → AreEntriesOf node log → list_any (epochs.breaks_pair p d) log ≡ false
broken_is node log p d of = any_none node (epochs.breaks_pair p d) (never_breaks node p d) log of

said_same : (node : List ℕ) (p q : ProcName) (e k : ℕ) (x : Entry) → IsEntryOf node x → mailboxes.said_as p (targets.Process q) e k x ≡ said_by p q e k x
said_same node p q e k (Said by (targets.Process to) epoch index mark body) of = ap (λ b. if b then Some (record { mark = mark; body = body }) else None) (says_it_same node p q e k (Said by (targets.Process to) epoch index mark body) of)
said_same node p q e k (Said by to epoch index mark body) of = absurd of
said_same node p q e k x of = refl

or_is : {A : Type 0} (x y : Option A) → logs.or_else x y ≡ first_some x y
or_is None y = refl
or_is (Some x) y = refl

pub message_is : (node : List ℕ) (log : List Entry) (p q : ProcName) (e k : ℕ) → AreEntriesOf node log → mailboxes.message_of log p (targets.Process q) e k ≡ message_of log p q e k
message_is node [] p q e k of = refl
message_is node (x ∷ log) p q e k of = ap (λ o. logs.or_else o (mailboxes.message_of log p (targets.Process q) e k)) (said_same node p q e k x of.0)
    ∙ ap (λ o. logs.or_else (said_by p q e k x) o) (message_is node log p q e k of.1)
    ∙ or_is (said_by p q e k x) (message_of log p q e k)
