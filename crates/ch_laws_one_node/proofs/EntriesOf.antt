-- The log of one node has entries of that node alone.
use Rattle.std.specs.Prelude.{◌≡◌, ℕ, ◌+◌, Bool, false, ◌||◌, cond, List, [], ◌∷◌, ◌++◌, count_by, Some, None, Result, Ok, Err}
use Rattle.std.specs.List.{list_any, fold}
use Rattle.std.proofs.Common.{refl, ap, sym, ◌∙◌, subst, arith}
use Rattle.ch_base.specs.declared.memory.Stop.{Stop}
use Rattle.ch_model.specs.declared.name.TargetName.TheVariants as targets
use Rattle.ch_model.specs.declared.entry.Entry.{Entry}
use Rattle.ch_model.specs.declared.entry.Entry.TheVariants.{Line, Made, Said, Got, Took, Over}
use Rattle.ch_model.specs.declared.line.Line.{Line as JournalLine}
use Rattle.ch_model.specs.declared.line.What.{What}
use Rattle.ch_model.specs.declared.line.What.TheVariants as lines
use Rattle.ch_one_node.specs.declared.note.Note.{Note}
use Rattle.ch_one_node.specs.declared.note.Note.TheVariants as notes
use Rattle.ch_one_node.specs.declared.command.CommandError.TheVariants as errors
use Rattle.ch_one_node.specs.States.{World}
use Rattle.ch_one_node.specs.Node.{node_make, process_id}
use Rattle.ch_one_node.specs.Node.{send_of, receive_of, finish_of}
use Rattle.ch_one_node.specs.World.{◌>>=◌, answered, entries_from, event_of, some_world, log_from}
use Rattle.ch_laws_one_node.specs.OneNode.{IsOfNode, AreOfNode}
use Rattle.ch_laws_one_node.proofs.Calls.{Done}

-- the entry is of this node, and of a kind that one node has
abbrev pub IsEntryOf : List ℕ → Entry → Type 0
IsEntryOf node (Line number answer) = Unit {0}
IsEntryOf node (Made process None None) = process.node ≡ node
IsEntryOf node (Said by (targets.Process to) epoch index mark body) = (by.node ≡ node) × (to.node ≡ node)
IsEntryOf node (Got by (targets.Process to) epoch index (Some receiver)) = (by.node ≡ node) × (to.node ≡ node)
IsEntryOf node (Took by None mark body) = by.node ≡ node
IsEntryOf node (Over process reason) = process.node ≡ node
IsEntryOf node entry = ⊥

abbrev pub AreEntriesOf : List ℕ → List Entry → Type 0
AreEntriesOf node [] = Unit {0}
AreEntriesOf node (entry ∷ rest) = IsEntryOf node entry × AreEntriesOf node rest

pub entries_append : (node : List ℕ) (xs ys : List Entry) → AreEntriesOf node xs → AreEntriesOf node ys → AreEntriesOf node (xs ++ ys)
entries_append node [] ys a b = b
entries_append node (x ∷ xs) ys a b = (a.0, entries_append node xs ys a.1 b)

pub entries_parts : (node : List ℕ) (xs ys : List Entry) → AreEntriesOf node (xs ++ ys) → AreEntriesOf node xs × AreEntriesOf node ys
entries_parts node [] ys a = (tt, a)
entries_parts node (x ∷ xs) ys a = let parts = entries_parts node xs ys a.1 in ((a.0, parts.0), parts.1)

-- ---- what no such entry shows

fold_none : (node : List ℕ) (p : Entry → Bool) → ((x : Entry) → IsEntryOf node x → p x ≡ false) → (n : ℕ) (log : List Entry) → AreEntriesOf node log → fold (λ a x. a + cond (p x) 1 0) n log ≡ n
fold_none node p none n [] of = refl
fold_none node p none n (x ∷ log) of = ap (λ b. fold (λ a x. a + cond (p x) 1 0) (n + cond b 1 0) log) (none x of.0) ∙ ap (λ m. fold (λ a x. a + cond (p x) 1 0) m log) (same n) ∙ fold_none node p none n log of.1 where
  same : (k : ℕ) → k + 0 ≡ k
  same k = omega arith

pub count_none : (node : List ℕ) (p : Entry → Bool) → ((x : Entry) → IsEntryOf node x → p x ≡ false) → (log : List Entry) → AreEntriesOf node log → count_by p log ≡ 0
count_none node p none log of = fold_none node p none 0 log of

pub any_none : (node : List ℕ) (p : Entry → Bool) → ((x : Entry) → IsEntryOf node x → p x ≡ false) → (log : List Entry) → AreEntriesOf node log → list_any p log ≡ false
any_none node p none [] of = refl
any_none node p none (x ∷ log) of = ap (λ b. b || list_any p log) (none x of.0) ∙ any_none node p none log of.1

-- ---- two tests that are one on such entries

fold_same : (node : List ℕ) (p q : Entry → Bool) → ((x : Entry) → IsEntryOf node x → p x ≡ q x) → (n : ℕ) (log : List Entry) → AreEntriesOf node log → fold (λ a x. a + cond (p x) 1 0) n log ≡ fold (λ a x. a + cond (q x) 1 0) n log
fold_same node p q same n [] of = refl
fold_same node p q same n (x ∷ log) of = ap (λ b. fold (λ a x. a + cond (p x) 1 0) (n + cond b 1 0) log) (same x of.0) ∙ fold_same node p q same (n + cond (q x) 1 0) log of.1

pub counts_same : (node : List ℕ) (p q : Entry → Bool) → ((x : Entry) → IsEntryOf node x → p x ≡ q x) → (log : List Entry) → AreEntriesOf node log → count_by p log ≡ count_by q log
counts_same node p q same log of = fold_same node p q same 0 log of

pub anys_same : (node : List ℕ) (p q : Entry → Bool) → ((x : Entry) → IsEntryOf node x → p x ≡ q x) → (log : List Entry) → AreEntriesOf node log → list_any p log ≡ list_any q log
anys_same node p q same [] of = refl
anys_same node p q same (x ∷ log) of = ap (λ b. b || list_any p log) (same x of.0) ∙ ap (λ b. q x || b) (anys_same node p q same log of.1)

-- ---- the log of the model of one node

entries_are : (w : World) (epoch index : ℕ) (list : List Note) → AreEntriesOf w.name (entries_from w epoch index list)
entries_are w epoch index [] = tt
entries_are w epoch index (notes.Made process ∷ rest) = (refl, entries_are w epoch index rest)
entries_are w epoch index (notes.Said by to e k message ∷ rest) = ((refl, refl), entries_are w e k rest)
entries_are w epoch index (notes.Got by to receiver ∷ rest) = ((refl, refl), entries_are w epoch index rest)
entries_are w epoch index (notes.Took by message ∷ rest) = (refl, entries_are w epoch index rest)
entries_are w epoch index (notes.Over process reason ∷ rest) = (refl, entries_are w epoch index rest)

-- what a line did is of the node, and so is the world after it
pub record DoneOf (w : World) (done : List Entry × World) : Type 0 where
  pub entries : AreEntriesOf w.name done.0
  pub name : done.1.name ≡ w.name

value_is : {A : Type 0} (x y : A) → ◌≡◌ {A = Result A Stop} (Ok x) (Ok y) → x ≡ y
value_is x y h = cc

answered_of : (w : World) (number : ℕ) (given : Done) (done : List Entry × World) → answered w number given ≡ Ok done → DoneOf w done
answered_of w number (Ok did) done is = subst (λ d. DoneOf w d) (value_is _ _ is) (record { entries = (tt, entries_are w 0 0 did.0); name = refl })
answered_of w number (Err errors.Unknown) done is = subst (λ d. DoneOf w d) (value_is _ _ is) (record { entries = (tt, tt); name = refl })
answered_of w number (Err errors.Dead) done is = subst (λ d. DoneOf w d) (value_is _ _ is) (record { entries = (tt, tt); name = refl })
answered_of w number (Err errors.Empty) done is = subst (λ d. DoneOf w d) (value_is _ _ is) (record { entries = (tt, tt); name = refl })
answered_of w number (Err errors.OutOfMemory) done is = absurd (cc)
answered_of w number (Err errors.Worn) done is = absurd (cc)

event_of_node : (w : World) (number : ℕ) (what : What) (done : List Entry × World) → IsOfNode w.name what → event_of w number what ≡ Ok done → DoneOf w done
event_of_node w number (lines.Proc name) done of is = answered_of w number (node_make w.node) done is
event_of_node w number (lines.Send by (targets.Process to) mark body) done of is = answered_of w number (send_of w.node by.counter (process_id w.node to.counter) (record { mark = mark; body = body })) done is
event_of_node w number (lines.Recv by mark) done of is = answered_of w number (receive_of w.node by.counter mark) done is
event_of_node w number (lines.End by) done of is = answered_of w number (finish_of w.node by.counter) done is
event_of_node w number what done of is = absurd of

abbrev LogOf : List JournalLine → Type 0
LogOf journal = (w : World) (log : List Entry) → AreOfNode w.name journal → log_from (Some w) journal ≡ Ok log → AreEntriesOf w.name log

line_before : (line : JournalLine) (rest : List JournalLine) → LogOf rest → LogOf (line ∷ rest)
line_before line rest more w log of is = by_event (event_of w line.number line.what) refl is where
  by_rest : (done : List Entry × World) → DoneOf w done → (r : Result (List Entry) Stop) → log_from (Some done.1) rest ≡ r → (r >>= λ after. Ok (done.0 ++ after)) ≡ Ok log → AreEntriesOf w.name log
  by_rest done d (Err e) rest_is is = absurd (cc)
  by_rest done d (Ok after) rest_is is = subst (λ l. AreEntriesOf w.name l) (value_is (done.0 ++ after) log is) (entries_append w.name done.0 after d.entries
      (subst (λ n. AreEntriesOf n after) d.name (more done.1 after (subst (λ n. AreOfNode n rest) (sym d.name) of.1) rest_is)))

  by_event : (r : Result (List Entry × World) Stop) → event_of w line.number line.what ≡ r → ((r >>= λ done. Ok (some_world done)) >>= λ done. log_from done.1 rest >>= λ after. Ok (done.0 ++ after)) ≡ Ok log → AreEntriesOf w.name log
  by_event (Err e) event is = absurd (cc)
  by_event (Ok done) event is = by_rest done (event_of_node w line.number line.what done of.0 event) (log_from (Some done.1) rest) refl is

pub log_of_node : (journal : List JournalLine) → LogOf journal
log_of_node [] w log of is = subst (λ l. AreEntriesOf w.name l) (value_is [] log is) tt
log_of_node (line ∷ rest) w log of is = line_before line rest (log_of_node rest) w log of is
