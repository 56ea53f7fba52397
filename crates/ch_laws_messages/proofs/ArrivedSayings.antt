-- No two things that a node says to another have the same pair, epoch and index, where messages are numbered as they come.
use Rattle.std.proofs.Common.{◌≡◌, ℕ, zero, suc, ◌+◌, ◌<◌, ◌≤◌, Bool, true, false, cond, ◌&&◌, List, [], ◌∷◌, ◌++◌, refl, sym, ap, ◌∙◌, subst, arith}
use Rattle.std.proofs.lemmas.Bool.{and_parts}
use Rattle.std.proofs.lemmas.List.Sums.{sum_by-append, sum_by-cons}
use Rattle.std.proofs.lemmas.Slice.Eq.{bytes_eq-Decides}
use Rattle.std.specs.List.{cons_option}
use Rattle.std.specs.Prelude.{filter_map, slice_get, Option, Some, None, ◌==◌}
use Rattle.std.specs.Str.{bytes_eq}
use Rattle.ch_model.specs.declared.entry.Entry.{Entry}
use Rattle.ch_model.specs.declared.entry.Entry.TheVariants as entries
use Rattle.ch_model.specs.declared.name.ProcName.{ProcName}
use Rattle.ch_model.specs.declared.name.TargetName.{TargetName}
use Rattle.ch_model.specs.declared.name.TargetName.TheVariants as names
use Rattle.ch_model.specs.AccountsFrames.{Saying, is_saying}
use Rattle.ch_model.specs.Epochs.{says_in, index_of, has_next_index}
use Rattle.ch_model.specs.Logs.{each_after}
use Rattle.ch_model.specs.Same.{same_process, same_target, node_of}
use Rattle.ch_laws_log.proofs.Stored.{number_is}
use Rattle.ch_laws_ends.proofs.Places.{some_is}
use Rattle.ch_laws_plain_logs.specs.Plain.{said_by}

pub process_is : (one two : ProcName) → same_process one two ≡ true → one ≡ two
process_is one two h = let parts = and_parts (bytes_eq one.node two.node) (one.counter == two.counter) h in
    ap (λ (n : List ℕ). record { node = n; counter = one.counter }) ((bytes_eq-Decides one.node two.node).0 parts.0) ∙ ap (λ (n : ℕ). record { node = two.node; counter = n }) (number_is one.counter two.counter parts.1)

target_is : (one two : TargetName) → same_target one two ≡ true → one ≡ two
target_is (names.Process p) (names.Process q) h = ap names.Process (process_is p q h)
target_is (names.Port p n) (names.Port q m) h = let parts = and_parts (same_process p q) (n == m) h in ap (λ (r : ProcName). names.Port r n) (process_is p q parts.0) ∙ ap (names.Port q) (number_is n m parts.1)
target_is (names.Named a b) (names.Named c d) h = let parts = and_parts (bytes_eq a c) (bytes_eq b d) h in ap (λ (n : List ℕ). names.Named n b) ((bytes_eq-Decides a c).0 parts.0) ∙ ap (names.Named c) ((bytes_eq-Decides b d).0 parts.1)
target_is (names.Process p) (names.Port q m) h = absurd cc
target_is (names.Process p) (names.Named c d) h = absurd cc
target_is (names.Port p n) (names.Process q) h = absurd cc
target_is (names.Port p n) (names.Named c d) h = absurd cc
target_is (names.Named a b) (names.Process q) h = absurd cc
target_is (names.Named a b) (names.Port q m) h = absurd cc

-- the entry of a saying
said_entry : (x y : List ℕ) (entry : Entry) (s : Saying) → said_by x y entry ≡ Some s → entry ≡ entries.Said s.by s.to s.epoch s.index s.mark s.body
said_entry x y (entries.Said by to epoch index mark body) s e = by_test (bytes_eq by.node x && bytes_eq (node_of to) y) e where
  the : Saying
  the = record { by = by; to = to; epoch = epoch; index = index; mark = mark; body = body }

  by_test : (b : Bool) → cond b (Some the) None ≡ Some s → entries.Said by to epoch index mark body ≡ entries.Said s.by s.to s.epoch s.index s.mark s.body
  by_test true e = ap (λ (w : Saying). entries.Said w.by w.to w.epoch w.index w.mark w.body) (some_is the s e)
  by_test false e = absurd cc
said_entry x y entry s e = absurd cc

-- its index says how many of its pair were said before it in its epoch
first_is : (x y : List ℕ) (p : ProcName) (d : TargetName) (e k : ℕ) (before : List Entry) (entry : Entry) (s : Saying) → said_by x y entry ≡ Some s → has_next_index before entry ≡ true → is_saying p d e k s ≡ true → (index_of before p d e ≡ k) × (says_in p d e entry ≡ true)
first_is x y p d e k before entry s is next same = (
  sym (number_is s.index (index_of before s.by s.to s.epoch) (subst (λ (z : Entry). has_next_index before z ≡ true) the next) ∙ ap (λ (q : ProcName). index_of before q s.to s.epoch) (process_is s.by p pair.0) ∙ ap (λ (t : TargetName). index_of before p t s.epoch) (target_is s.to d pair.1) ∙ ap (index_of before p d) (number_is s.epoch e epoch.1)) ∙ number_is s.index k parts.1,
  ap (says_in p d e) the ∙ parts.0,
) where
  the : entry ≡ entries.Said s.by s.to s.epoch s.index s.mark s.body
  the = said_entry x y entry s is

  parts : (says_in p d e (entries.Said s.by s.to s.epoch s.index s.mark s.body) ≡ true) × ((s.index == k) ≡ true)
  parts = and_parts (same_process s.by p && same_target s.to d && (s.epoch == e)) (s.index == k) same

  epoch : ((same_process s.by p && same_target s.to d) ≡ true) × ((s.epoch == e) ≡ true)
  epoch = and_parts (same_process s.by p && same_target s.to d) (s.epoch == e) parts.0

  pair : (same_process s.by p ≡ true) × (same_target s.to d ≡ true)
  pair = and_parts (same_process s.by p) (same_target s.to d) epoch.0

-- one more entry
count_last : (p : ProcName) (d : TargetName) (e : ℕ) (before : List Entry) (entry : Entry) → index_of (before ++ entry ∷ []) p d e ≡ index_of before p d e + cond (says_in p d e entry) 1 0
count_last p d e before entry = sum_by-append (λ (z : Entry). cond (says_in p d e z) 1 0) before (entry ∷ []) ∙ ap (λ (n : ℕ). index_of before p d e + n) (sum_by-cons (λ (z : Entry). cond (says_in p d e z) 1 0) entry [] ∙ zero_last (cond (says_in p d e entry) 1 0)) where
  zero_last : (n : ℕ) → n + 0 ≡ n
  zero_last n = omega arith

-- what is said later has no lower index
least_after : (x y : List ℕ) (p : ProcName) (d : TargetName) (e k : ℕ) (before rest : List Entry) → each_after has_next_index before rest ≡ true → (n : ℕ) (t : Saying) → slice_get (filter_map (said_by x y) rest) n ≡ Some t → is_saying p d e k t ≡ true → index_of before p d e ≤ k
least_after x y p d e k before [] each n t at same = absurd cc
least_after x y p d e k before (entry ∷ rest) each n t at same = by_said (said_by x y entry) refl n at (λ m g. least_after x y p d e k (before ++ entry ∷ []) rest parts.1 m t g same) where
  parts : (has_next_index before entry ≡ true) × (each_after has_next_index (before ++ entry ∷ []) rest ≡ true)
  parts = and_parts (has_next_index before entry) (each_after has_next_index (before ++ entry ∷ []) rest) each

  less : (a b c : ℕ) → a ≡ b + c → a ≤ k → b ≤ k
  less a b c h le = omega arith

  same_order : (a : ℕ) → a ≡ k → a ≤ k
  same_order a h = omega arith

  by_said : (o : Option Saying) → said_by x y entry ≡ o → (n : ℕ) → slice_get (cons_option o (filter_map (said_by x y) rest)) n ≡ Some t → ((m : ℕ) → slice_get (filter_map (said_by x y) rest) m ≡ Some t → index_of (before ++ entry ∷ []) p d e ≤ k) → index_of before p d e ≤ k
  by_said None is n at more = less (index_of (before ++ entry ∷ []) p d e) (index_of before p d e) _ (count_last p d e before entry) (more n at)
  by_said (Some s) is zero at more = same_order (index_of before p d e) (first_is x y p d e k before entry t (is ∙ at) parts.0 same).0
  by_said (Some s) is (suc n) at more = less (index_of (before ++ entry ∷ []) p d e) (index_of before p d e) _ (count_last p d e before entry) (more n at)

-- so no two are the same
pub alone_after : (x y : List ℕ) (p : ProcName) (d : TargetName) (e k : ℕ) (before rest : List Entry) → each_after has_next_index before rest ≡ true → (m n : ℕ) (s t : Saying) → m < n → slice_get (filter_map (said_by x y) rest) m ≡ Some s → slice_get (filter_map (said_by x y) rest) n ≡ Some t → is_saying p d e k s ≡ true → is_saying p d e k t ≡ true → ⊥
alone_after x y p d e k before [] each m n s t lt at_m at_n one two = absurd cc
alone_after x y p d e k before (entry ∷ rest) each m n s t lt at_m at_n one two = by_said (said_by x y entry) refl m n lt at_m at_n (λ i j l f g. alone_after x y p d e k (before ++ entry ∷ []) rest parts.1 i j s t l f g one two) where
  parts : (has_next_index before entry ≡ true) × (each_after has_next_index (before ++ entry ∷ []) rest ≡ true)
  parts = and_parts (has_next_index before entry) (each_after has_next_index (before ++ entry ∷ []) rest) each

  none_below : (i : ℕ) → i < 0 → ⊥
  none_below i l = omega arith

  lower : (i j : ℕ) → suc i < suc j → i < j
  lower i j l = omega arith

  more_than : (a b : ℕ) → a ≡ b + 1 → b ≡ k → a ≤ k → ⊥
  more_than a b h g le = omega arith

  by_said : (o : Option Saying) → said_by x y entry ≡ o → (m n : ℕ) → m < n → slice_get (cons_option o (filter_map (said_by x y) rest)) m ≡ Some s → slice_get (cons_option o (filter_map (said_by x y) rest)) n ≡ Some t
      → ((i j : ℕ) → i < j → slice_get (filter_map (said_by x y) rest) i ≡ Some s → slice_get (filter_map (said_by x y) rest) j ≡ Some t → ⊥) → ⊥
  by_said None is m n lt at_m at_n more = more m n lt at_m at_n
  by_said (Some w) is m zero lt at_m at_n more = none_below m lt
  by_said (Some w) is zero (suc n) lt at_m at_n more = let f = first_is x y p d e k before entry s (is ∙ at_m) parts.0 one in
      more_than (index_of (before ++ entry ∷ []) p d e) (index_of before p d e) (count_last p d e before entry ∙ ap (λ b. index_of before p d e + cond b 1 0) f.1) f.0 (least_after x y p d e k (before ++ entry ∷ []) rest parts.1 n t at_n two)
  by_said (Some w) is (suc m) (suc n) lt at_m at_n more = more m n (lower m n lt) at_m at_n
