-- The index of a message says how many of its pair were said before it; and those are carried before it.
use Rattle.std.proofs.Common.{◌≡◌, ℕ, zero, suc, ◌+◌, Bool, true, false, cond, ◌&&◌, List, [], ◌∷◌, take, Ok, refl, sym, ap, ◌∙◌, subst, arith}
use Rattle.std.specs.Prelude.{filter_map, slice_get, count_by, Option, Some, None, Result, ◌==◌}
use Rattle.std.specs.List.{cons_option}
use Rattle.std.specs.Str.{bytes_eq}
use Rattle.std.proofs.lemmas.Bool.{and_parts}
use Rattle.std.proofs.lemmas.Slice.Eq.{bytes_eq-Decides}
use Rattle.ch_ident.specs.declared.error.IdentError.{IdentError}
use Rattle.ch_ident.specs.declared.identifier.Identifier.TheVariants as ends
use Rattle.ch_ident.specs.declared.identifier.ProcessId.{ProcessId}
use Rattle.ch_ident.specs.declared.node_message.NodeMessage.{NodeMessage}
use Rattle.ch_ident.specs.declared.node_message.NodeMessage.TheVariants.{Opening}
use Rattle.ch_ident.specs.Fits.{IsProcess}
use Rattle.ch_ident.specs.Reading.{message_of}
use Rattle.ch_ident.specs.Spelling.{message}
use Rattle.ch_model.specs.declared.entry.Entry.{Entry}
use Rattle.ch_model.specs.declared.entry.Entry.TheVariants as entries
use Rattle.ch_model.specs.declared.line.Line.{Line}
use Rattle.ch_model.specs.declared.name.ProcName.{ProcName}
use Rattle.ch_model.specs.declared.name.TargetName.{TargetName}
use Rattle.ch_model.specs.declared.name.TargetName.TheVariants as names
use Rattle.ch_model.specs.AccountsFrames.{Saying}
use Rattle.ch_model.specs.Epochs.{says_in, index_of, has_next_index}
use Rattle.ch_model.specs.Same.{same_process, same_target, node_of}
use Rattle.ch_laws_log.proofs.Stored.{number_is, number_same}
use Rattle.ch_laws_plain_logs.specs.Plain.{IsPlain, said_by}
use Rattle.ch_laws_plain_nodes.proofs.Openings.{opening_again}
use Rattle.ch_laws_peers.specs.Words.{sayings}
use Rattle.ch_laws_messages.specs.GotSaidWell.{SaidWell}
use Rattle.ch_laws_messages.proofs.GotLists.{clash, some_is}
use Rattle.ch_laws_messages.proofs.GotCounts.{count_both}
use Rattle.ch_laws_messages.proofs.GotTurn.{each_at, first_said}
use Rattle.ch_laws_messages.proofs.ArrivedSayings.{process_is}

-- ---- openings

-- an opening says of whom it is
pub opening_is : (f r from to : ProcessId) → IsProcess f → IsProcess r → IsProcess from → IsProcess to → message (Opening (ends.Process f) (ends.Process r)) ≡ message (Opening (ends.Process from) (ends.Process to)) → (f ≡ from) × (r ≡ to)
opening_is f r from to a b c d e =
    let both : ◌≡◌ {A = Result NodeMessage IdentError} (Ok (Opening (ends.Process f) (ends.Process r))) (Ok (Opening (ends.Process from) (ends.Process to))) = sym (opening_again f r a b) ∙ ap message_of e ∙ opening_again from to c d in
    (cc, cc)

-- ---- what was said

-- where an element of what is found comes from, with all that is found before
pub record FromAt {A B : Type 0} (f : A → Option B) (xs : List A) (m : ℕ) (y : B) : Type 0 where
  pub i : ℕ
  pub x : A
  pub at : slice_get xs i ≡ Some x
  pub is : f x ≡ Some y
  pub before : filter_map f (take i xs) ≡ take m (filter_map f xs)

pub comes_at : {A B : Type 0} (f : A → Option B) (xs : List A) (m : ℕ) (y : B) → slice_get (filter_map f xs) m ≡ Some y → FromAt f xs m y
comes_at f [] m y e = absurd cc
comes_at {A = A} {B = B} f (x ∷ xs) m y e = by_found (f x) refl m e (comes_at f xs) where
  by_found : (o : Option B) → f x ≡ o → (m : ℕ) → slice_get (cons_option o (filter_map f xs)) m ≡ Some y → ((m : ℕ) (z : B) → slice_get (filter_map f xs) m ≡ Some z → FromAt f xs m z) → FromAt f (x ∷ xs) m y
  by_found None h m e more = let w = more m y e in record { i = suc w.i; x = w.x; at = w.at; is = w.is; before = ap (λ (o : Option B). cons_option o (filter_map f (take w.i xs))) h ∙ w.before ∙ ap (λ (o : Option B). take m (cons_option o (filter_map f xs))) (sym h) }
  by_found (Some z) h zero e more = let is : z ≡ y = cc in record { i = 0; x = x; at = refl; is = h ∙ ap Some is; before = refl }
  by_found (Some z) h (suc m) e more = let w = more m y e in record { i = suc w.i; x = w.x; at = w.at; is = w.is; before = ap (λ (o : Option B). cons_option o (filter_map f (take w.i xs))) h ∙ ap (λ (l : List B). z ∷ l) w.before ∙ ap (λ (o : Option B). take (suc m) (cons_option o (filter_map f xs))) (sym h) }

-- the entry of a saying
pub said_entry : (x y : List ℕ) (entry : Entry) (s : Saying) → said_by x y entry ≡ Some s → (entry ≡ entries.Said s.by s.to s.epoch s.index s.mark s.body) × (s.by.node ≡ x) × (node_of s.to ≡ y)
said_entry x y (entries.Said by to epoch index mark body) s e = by_test (bytes_eq by.node x && bytes_eq (node_of to) y) refl e where
  the : Saying
  the = record { by = by; to = to; epoch = epoch; index = index; mark = mark; body = body }

  by_test : (b : Bool) → (bytes_eq by.node x && bytes_eq (node_of to) y) ≡ b → cond b (Some the) None ≡ Some s → (entries.Said by to epoch index mark body ≡ entries.Said s.by s.to s.epoch s.index s.mark s.body) × (s.by.node ≡ x) × (node_of s.to ≡ y)
  by_test true h e =
      let parts = and_parts (bytes_eq by.node x) (bytes_eq (node_of to) y) h in
      subst (λ (w : Saying). (entries.Said by to epoch index mark body ≡ entries.Said w.by w.to w.epoch w.index w.mark w.body) × (w.by.node ≡ x) × (node_of w.to ≡ y)) (some_is the s e) (refl, (bytes_eq-Decides by.node x).0 parts.0, (bytes_eq-Decides (node_of to) y).0 parts.1)
  by_test false h e = absurd cc
said_entry x y entry s e = absurd cc

-- a saying of this pair
abbrev pub is_pair_of : ProcName → ProcName → Saying → Bool
is_pair_of p q s = same_process s.by p && same_target s.to (names.Process q)

pub target_is : (to : TargetName) (q : ProcName) → same_target to (names.Process q) ≡ true → to ≡ names.Process q
target_is (names.Process p) q h = ap names.Process (process_is p q h)
target_is (names.Port p n) q h = absurd cc
target_is (names.Named node name) q h = absurd cc

-- each saying of a process to a process in these entries is of the first epoch
abbrev AreFirst : List Entry → Type 0
AreFirst log = (i : ℕ) (by q : ProcName) (epoch index : ℕ) (mark body : List ℕ) → slice_get log i ≡ Some (entries.Said by (names.Process q) epoch index mark body) → epoch ≡ 0

count_first : {A : Type 0} (test : A → Bool) (x : A) (xs : List A) → count_by test (x ∷ xs) ≡ cond (test x) 1 0 + count_by test xs
count_first test x xs = count_both test (x ∷ []) xs ∙ ap (λ (n : ℕ). n + count_by test xs) (by_test (test x)) where
  by_test : (b : Bool) → 0 + cond b 1 0 ≡ cond b 1 0
  by_test true = refl
  by_test false = refl

-- what is said of a pair, in the log and among what the one node says to the other
counts_same : (p q : ProcName) (log : List Entry) → AreFirst log → count_by (says_in p (names.Process q) 0) log ≡ count_by (is_pair_of p q) (filter_map (said_by p.node q.node) log)
counts_same p q [] first = refl
counts_same p q (x ∷ rest) first = count_first (says_in p (names.Process q) 0) x rest ∙ by_entry x (λ by r epoch index mark body e. first 0 by r epoch index mark body (ap Some e)) (counts_same p q rest (λ i. first (suc i))) where
  more : (b c : Bool) (n m : ℕ) → b ≡ c → n ≡ m → cond b 1 0 + n ≡ cond c 1 0 + m
  more b c n m e f = ap (λ (d : Bool). cond d 1 0 + n) e ∙ ap (λ (k : ℕ). cond c 1 0 + k) f

  none : (b : Bool) (n m : ℕ) → b ≡ false → n ≡ m → cond b 1 0 + n ≡ m
  none b n m e f = ap (λ (d : Bool). cond d 1 0 + n) e ∙ zero_more n ∙ f where
    zero_more : (k : ℕ) → 0 + k ≡ k
    zero_more k = omega arith

  by_said : (by : ProcName) (to : TargetName) (epoch index : ℕ) (mark body : List ℕ) → ((r : ProcName) → to ≡ names.Process r → epoch ≡ 0) → count_by (says_in p (names.Process q) 0) rest ≡ count_by (is_pair_of p q) (filter_map (said_by p.node q.node) rest)
      → (a : Bool) → (same_process by p && same_target to (names.Process q)) ≡ a → (b : Bool) → (bytes_eq by.node p.node && bytes_eq (node_of to) q.node) ≡ b
      → cond (same_process by p && same_target to (names.Process q) && (epoch == 0)) 1 0 + count_by (says_in p (names.Process q) 0) rest ≡ count_by (is_pair_of p q) (cons_option (cond b (Some (record { by = by; to = to; epoch = epoch; index = index; mark = mark; body = body })) None) (filter_map (said_by p.node q.node) rest))
  by_said by to epoch index mark body zero_epoch same true a true b =
      let parts = and_parts (same_process by p) (same_target to (names.Process q)) a in
      more (same_process by p && same_target to (names.Process q) && (epoch == 0)) (same_process by p && same_target to (names.Process q)) (count_by (says_in p (names.Process q) 0) rest) (count_by (is_pair_of p q) (filter_map (said_by p.node q.node) rest))
      (ap (λ (c : Bool). c && (epoch == 0)) a ∙ ap (λ (n : ℕ). n == 0) (zero_epoch q (target_is to q parts.1)) ∙ number_same 0 ∙ sym a) same
      ∙ sym (count_first (is_pair_of p q) (record { by = by; to = to; epoch = epoch; index = index; mark = mark; body = body }) (filter_map (said_by p.node q.node) rest))
  by_said by to epoch index mark body zero_epoch same true a false b =
      let parts = and_parts (same_process by p) (same_target to (names.Process q)) a in
      let one : bytes_eq by.node p.node ≡ true = (bytes_eq-Decides by.node p.node).1 (ap (λ (r : ProcName). r.node) (process_is by p parts.0)) in
      let two : bytes_eq (node_of to) q.node ≡ true = (bytes_eq-Decides (node_of to) q.node).1 (ap node_of (target_is to q parts.1)) in
      clash (sym (ap (λ (c : Bool). c && bytes_eq (node_of to) q.node) one ∙ two) ∙ b)
  by_said by to epoch index mark body zero_epoch same false a true b = more (same_process by p && same_target to (names.Process q) && (epoch == 0)) (same_process by p && same_target to (names.Process q)) (count_by (says_in p (names.Process q) 0) rest) (count_by (is_pair_of p q) (filter_map (said_by p.node q.node) rest)) (ap (λ (c : Bool). c && (epoch == 0)) a ∙ sym a) same
      ∙ sym (count_first (is_pair_of p q) (record { by = by; to = to; epoch = epoch; index = index; mark = mark; body = body }) (filter_map (said_by p.node q.node) rest))
  by_said by to epoch index mark body zero_epoch same false a false b = none (same_process by p && same_target to (names.Process q) && (epoch == 0)) (count_by (says_in p (names.Process q) 0) rest) (count_by (is_pair_of p q) (filter_map (said_by p.node q.node) rest)) (ap (λ (c : Bool). c && (epoch == 0)) a) same

  none_said : (n m : ℕ) → n ≡ m → 0 + n ≡ m
  none_said n m e = omega arith

  by_entry : (w : Entry) → ((by r : ProcName) (epoch index : ℕ) (mark body : List ℕ) → w ≡ entries.Said by (names.Process r) epoch index mark body → epoch ≡ 0) → count_by (says_in p (names.Process q) 0) rest ≡ count_by (is_pair_of p q) (filter_map (said_by p.node q.node) rest)
      → cond (says_in p (names.Process q) 0 w) 1 0 + count_by (says_in p (names.Process q) 0) rest ≡ count_by (is_pair_of p q) (filter_map (said_by p.node q.node) (w ∷ rest))
  by_entry (entries.Said by to epoch index mark body) is same = by_said by to epoch index mark body (λ r t. is by r epoch index mark body (ap (λ (u : TargetName). entries.Said by u epoch index mark body) t)) same (same_process by p && same_target to (names.Process q)) refl (bytes_eq by.node p.node && bytes_eq (node_of to) q.node) refl
  by_entry (entries.Line number answer) is same = none_said _ _ same
  by_entry (entries.Made process spawn label) is same = none_said _ _ same
  by_entry (entries.Again by to epoch) is same = none_said _ _ same
  by_entry (entries.Got by to epoch index receiver) is same = none_said _ _ same
  by_entry (entries.Took by port mark body) is same = none_said _ _ same
  by_entry w is same = none_said _ _ same

some_of : {A : Type 0} (i j : ℕ) (xs : List A) (x : A) → slice_get (take i xs) j ≡ Some x → slice_get xs j ≡ Some x
some_of zero j xs x e = absurd cc
some_of (suc i) j [] x e = absurd cc
some_of (suc i) zero (y ∷ xs) x e = e
some_of (suc i) (suc j) (y ∷ xs) x e = some_of i j xs x e

-- so many of the pair were said before a saying as its index is
pub index_is : (journal : List Line) (log : List Entry) → IsPlain log → SaidWell journal log → (m : ℕ) (s : Saying) (p q : ProcName) → slice_get (sayings p.node q.node log) m ≡ Some s → s.by ≡ p → s.to ≡ names.Process q → s.index ≡ count_by (is_pair_of p q) (take m (sayings p.node q.node log))
index_is journal log plain well m s p q e by to =
    number_is s.index (index_of (take w.i log) s.by s.to s.epoch) (each_at has_next_index [] log w.i (entries.Said s.by s.to s.epoch s.index s.mark s.body) well.numbered.indexes at)
    ∙ ap (λ (r : ProcName). index_of (take w.i log) r s.to s.epoch) by ∙ ap (λ (t : TargetName). index_of (take w.i log) p t s.epoch) to ∙ ap (index_of (take w.i log) p (names.Process q)) epoch
    ∙ counts_same p q (take w.i log) (λ j one other k index mark body f. first_said journal log plain well j one other k index mark body (some_of w.i j log (entries.Said one (names.Process other) k index mark body) f))
    ∙ ap (count_by (is_pair_of p q)) w.before where
      w : FromAt (said_by p.node q.node) log m s
      w = comes_at (said_by p.node q.node) log m s e

      at : slice_get log w.i ≡ Some (entries.Said s.by s.to s.epoch s.index s.mark s.body)
      at = w.at ∙ ap Some (said_entry p.node q.node w.x s w.is).0

      epoch : s.epoch ≡ 0
      epoch = first_said journal log plain well w.i s.by q s.epoch s.index s.mark s.body (at ∙ ap (λ (t : TargetName). Some (entries.Said s.by t s.epoch s.index s.mark s.body)) to)
