-- Where each entry of a log is allowed, the log tells which processes there are and which are over.
use Rattle.std.proofs.Common.{◌≡◌, ℕ, zero, suc, ◌+◌, ◌==◌, Bool, true, false, cond, not, ◌&&◌, ◌||◌, List, [], ◌∷◌, ◌++◌, map, length, refl, sym, ap, ◌∙◌, subst, arith, append_assoc}
use Rattle.std.proofs.lemmas.Bool.{and_parts}
use Rattle.std.proofs.lemmas.List.{length-map, append-nil}
use Rattle.std.proofs.lemmas.List.Recursion.{is_count_by}
use Rattle.std.proofs.lemmas.Slice.Eq.{bytes_eq-Decides}
use Rattle.std.specs.List.{list_any}
use Rattle.std.specs.Prelude.{count_by, slice_get, Option, Some, None}
use Rattle.std.specs.Str.{bytes_eq}
use Rattle.ch_model.specs.declared.entry.Entry.{Entry}
use Rattle.ch_model.specs.declared.entry.Entry.TheVariants as entries
use Rattle.ch_model.specs.declared.name.ProcName.{ProcName}
use Rattle.ch_model.specs.declared.name.RefName.{RefName}
use Rattle.ch_model.specs.Life.{makes_on, makes, ends, shuts, is_made, is_over}
use Rattle.ch_model.specs.LifeRules.{is_numbered, ends_once, concerns_no_dead, watches_as}
use Rattle.ch_model.specs.Logs.{each_after, first_of, or_else, none_or}
use Rattle.ch_model.specs.Same.{same_process}
use Rattle.ch_laws_log.proofs.Stored.{number_is, number_same}
use Rattle.ch_laws_lives.specs.Rolls.{over_at}
use Rattle.ch_laws_lives.specs.Logs.{ends_moved, ends_after, ends_told, IsNow, IsAllowed, AreAllowed}

pub after_both : (name : List ℕ) (xs ys : List Entry) (known : List Bool) → ends_after name (xs ++ ys) known ≡ ends_after name ys (ends_after name xs known)
after_both name [] ys known = refl
after_both name (x ∷ xs) ys known = after_both name xs ys (ends_moved name x known)

-- ---- how many

over_length : (n : ℕ) (known : List Bool) → length (over_at n known) ≡ length known
over_length n [] = refl
over_length zero (x ∷ xs) = refl
over_length (suc n) (x ∷ xs) = ap suc (over_length n xs)

one_longer : (known : List Bool) → length (known ++ false ∷ []) ≡ length known + 1
one_longer [] = refl
one_longer (x ∷ xs) = let e = one_longer xs in omega arith

abbrev made_count : List ℕ → List Entry → ℕ
made_count name [] = 0
made_count name (x ∷ log) = cond (makes_on name x) (1 + made_count name log) (made_count name log)

made_by_count : (name : List ℕ) (log : List Entry) → made_count name log ≡ count_by (makes_on name) log
made_by_count name log = is_count_by (made_count name) (makes_on name) refl (λ x xs. refl) log

counted_so : (name : List ℕ) (log : List Entry) (known : List Bool) → length (ends_after name log known) ≡ length known + made_count name log
counted_so name [] known = let n : ℕ = length known in omega arith
counted_so name (entries.Made process spawn label ∷ log) known = by_test (bytes_eq process.node name) (counted_so name log) where
  by_test : (b : Bool) → ((more : List Bool) → length (ends_after name log more) ≡ length more + made_count name log) → length (ends_after name log (cond b (known ++ false ∷ []) known)) ≡ length known + cond b (1 + made_count name log) (made_count name log)
  by_test true more = let a = more (known ++ false ∷ []) in let b = one_longer known in omega arith
  by_test false more = more known
counted_so name (entries.Over process reason ∷ log) known = by_test (bytes_eq process.node name) (counted_so name log) where
  by_test : (b : Bool) → ((more : List Bool) → length (ends_after name log more) ≡ length more + made_count name log) → length (ends_after name log (cond b (over_at process.counter known) known)) ≡ length known + made_count name log
  by_test true more = let a = more (over_at process.counter known) in let b = over_length process.counter known in omega arith
  by_test false more = more known
counted_so name (entries.Shut node ∷ log) known = by_test (bytes_eq node name) (counted_so name log) where
  by_test : (b : Bool) → ((more : List Bool) → length (ends_after name log more) ≡ length more + made_count name log) → length (ends_after name log (cond b (map (λ end. true) known) known)) ≡ length known + made_count name log
  by_test true more = let a = more (map (λ end. true) known) in let b = length-map known (λ (end : Bool). true) in omega arith
  by_test false more = more known
counted_so name (entry ∷ log) known = counted_so name log known

counted : (name : List ℕ) (log : List Entry) → length (ends_told name log) ≡ count_by (makes_on name) log
counted name log = let a = counted_so name log [] in let b = made_by_count name log in omega arith

-- ---- one number

over_there : (n : ℕ) (known : List Bool) (b : Bool) → slice_get known n ≡ Some b → slice_get (over_at n known) n ≡ Some true
over_there n [] b e = absurd cc
over_there zero (x ∷ xs) b e = refl
over_there (suc n) (x ∷ xs) b e = over_there n xs b e

over_still : (n k : ℕ) (known : List Bool) → slice_get known k ≡ Some true → slice_get (over_at n known) k ≡ Some true
over_still n k [] e = e
over_still zero zero (x ∷ xs) e = refl
over_still zero (suc k) (x ∷ xs) e = e
over_still (suc n) zero (x ∷ xs) e = e
over_still (suc n) (suc k) (x ∷ xs) e = over_still n k xs e

more_still : (k : ℕ) (known : List Bool) (b : Bool) → slice_get known k ≡ Some b → slice_get (known ++ false ∷ []) k ≡ Some b
more_still k [] b e = absurd cc
more_still zero (x ∷ xs) b e = e
more_still (suc k) (x ∷ xs) b e = more_still k xs b e

all_over : (k : ℕ) (known : List Bool) → slice_get known k ≡ Some true → slice_get (map (λ end. true) known) k ≡ Some true
all_over k [] e = absurd cc
all_over zero (x ∷ xs) e = refl
all_over (suc k) (x ∷ xs) e = all_over k xs e

over_none : (n k : ℕ) (known : List Bool) → slice_get known k ≡ None → slice_get (over_at n known) k ≡ None
over_none n k [] e = e
over_none zero zero (x ∷ xs) e = absurd cc
over_none zero (suc k) (x ∷ xs) e = e
over_none (suc n) zero (x ∷ xs) e = absurd cc
over_none (suc n) (suc k) (x ∷ xs) e = over_none n k xs e

all_none : (k : ℕ) (known : List Bool) → slice_get known k ≡ None → slice_get (map (λ (end : Bool). true) known) k ≡ None
all_none k [] e = e
all_none zero (x ∷ xs) e = absurd cc
all_none (suc k) (x ∷ xs) e = all_none k xs e

-- one more is at the end
next_is : (k : ℕ) (known : List Bool) → slice_get known k ≡ None → (k ≡ length known → ⊥) → slice_get (known ++ false ∷ []) k ≡ None
next_is zero [] e d = absurd (d refl)
next_is (suc k) [] e d = refl
next_is zero (x ∷ xs) e d = absurd cc
next_is (suc k) (x ∷ xs) e d = next_is k xs e (λ is. d (ap suc is))

-- who is over stays so
still_over : (name : List ℕ) (k : ℕ) (x : Entry) (known : List Bool) → slice_get known k ≡ Some true → slice_get (ends_moved name x known) k ≡ Some true
still_over name k (entries.Made process spawn label) known e = by_test (bytes_eq process.node name) where
  by_test : (b : Bool) → slice_get (cond b (known ++ false ∷ []) known) k ≡ Some true
  by_test true = more_still k known true e
  by_test false = e
still_over name k (entries.Over process reason) known e = by_test (bytes_eq process.node name) where
  by_test : (b : Bool) → slice_get (cond b (over_at process.counter known) known) k ≡ Some true
  by_test true = over_still process.counter k known e
  by_test false = e
still_over name k (entries.Shut node) known e = by_test (bytes_eq node name) where
  by_test : (b : Bool) → slice_get (cond b (map (λ end. true) known) known) k ≡ Some true
  by_test true = all_over k known e
  by_test false = e
still_over name k x known e = e

ever_over : (name : List ℕ) (k : ℕ) (rest : List Entry) (known : List Bool) → slice_get known k ≡ Some true → slice_get (ends_after name rest known) k ≡ Some true
ever_over name k [] known e = e
ever_over name k (x ∷ rest) known e = ever_over name k rest (ends_moved name x known) (still_over name k x known e)

-- who is there at last and not over is ended by no entry
not_ended : (p : ProcName) (before rest : List Entry) → AreAllowed before rest → slice_get (ends_after p.node rest (ends_told p.node before)) p.counter ≡ Some false → list_any (ends p) rest ≡ false
not_ended p before [] a e = refl
not_ended p before (x ∷ rest) a e = one x a.0 (subst (λ (l : List Bool). slice_get (ends_after p.node rest l) p.counter ≡ Some false) (sym (after_both p.node before (x ∷ []) [])) e) e (not_ended p (before ++ x ∷ []) rest a.1) where
  both : (a b : Bool) → a ≡ false → b ≡ false → (a || b) ≡ false
  both true b h k = absurd cc
  both false b h k = k

  one : (x : Entry) → IsAllowed before x → slice_get (ends_after p.node rest (ends_told p.node (before ++ x ∷ []))) p.counter ≡ Some false → slice_get (ends_after p.node rest (ends_moved p.node x (ends_told p.node before))) p.counter ≡ Some false
      → (slice_get (ends_after p.node rest (ends_told p.node (before ++ x ∷ []))) p.counter ≡ Some false → list_any (ends p) rest ≡ false) → (ends p x || list_any (ends p) rest) ≡ false
  one (entries.Over process reason) now e f more = by_test (same_process process p) refl where
    by_test : (b : Bool) → same_process process p ≡ b → (b || list_any (ends p) rest) ≡ false
    by_test true s = let parts = and_parts (bytes_eq process.node p.node) (process.counter == p.counter) s in
        let known : List Bool = ends_told p.node before in
        let there : slice_get known p.counter ≡ Some false = ap (λ (n : List ℕ). slice_get (ends_told n before) p.counter) (sym ((bytes_eq-Decides process.node p.node).0 parts.0)) ∙ ap (slice_get (ends_told process.node before)) (sym (number_is process.counter p.counter parts.1)) ∙ now in
        let moved : cond (bytes_eq process.node p.node) (over_at process.counter known) known ≡ over_at p.counter known = ap (λ (b : Bool). cond b (over_at process.counter known) known) parts.0 ∙ ap (λ (n : ℕ). over_at n known) (number_is process.counter p.counter parts.1) in
        let gone : slice_get (ends_after p.node rest (cond (bytes_eq process.node p.node) (over_at process.counter known) known)) p.counter ≡ Some true = ever_over p.node p.counter rest (cond (bytes_eq process.node p.node) (over_at process.counter known) known) (ap (λ (l : List Bool). slice_get l p.counter) moved ∙ over_there p.counter known false there) in
        let clash : Some true ≡ Some false = sym gone ∙ f in absurd cc
    by_test false s = more e
  one x now e f more = by_entry x e more where
    by_entry : (x : Entry) → slice_get (ends_after p.node rest (ends_told p.node (before ++ x ∷ []))) p.counter ≡ Some false → (slice_get (ends_after p.node rest (ends_told p.node (before ++ x ∷ []))) p.counter ≡ Some false → list_any (ends p) rest ≡ false) → list_any (ends p) rest ≡ false
    by_entry x e more = more e

-- who is there at last, and wasn't before, is made by an entry
is_made_in : (p : ProcName) (b : Bool) (before rest : List Entry) → AreAllowed before rest → slice_get (ends_after p.node rest (ends_told p.node before)) p.counter ≡ Some b → slice_get (ends_told p.node before) p.counter ≡ None → list_any (makes p) rest ≡ true
is_made_in p b before [] a e n = let clash : Some b ≡ None = sym e ∙ n in absurd cc
is_made_in p b before (x ∷ rest) a e n = by_get (slice_get (ends_moved p.node x (ends_told p.node before)) p.counter) refl (is_made_in p b (before ++ x ∷ []) rest a.1) where
  known : List Bool
  known = ends_told p.node before

  Later : Type 0
  Later = slice_get (ends_after p.node rest (ends_told p.node (before ++ x ∷ []))) p.counter ≡ Some b → slice_get (ends_told p.node (before ++ x ∷ [])) p.counter ≡ None → list_any (makes p) rest ≡ true

  second : (c d : Bool) → d ≡ true → (c || d) ≡ true
  second true d h = refl
  second false d h = h

  first : (c d : Bool) → c ≡ true → (c || d) ≡ true
  first true d h = refl
  first false d h = absurd cc

  now : ends_told p.node (before ++ x ∷ []) ≡ ends_moved p.node x (ends_told p.node before)
  now = after_both p.node before (x ∷ []) []

  makes_it : (process : ProcName) (here : Bool) (same : Bool) → bytes_eq process.node p.node ≡ here → (process.counter == p.counter) ≡ same → process.counter ≡ length (ends_told process.node before) → (c : Bool) → slice_get (cond here (known ++ false ∷ []) known) p.counter ≡ Some c → (bytes_eq process.node p.node && process.counter == p.counter) ≡ true
  makes_it process false same h s l c e = let clash : Some c ≡ None = sym e ∙ n in absurd cc
  makes_it process true true h s l c e = ap (λ (d : Bool). d && process.counter == p.counter) h ∙ s
  makes_it process true false h s l c e = let none : slice_get (known ++ false ∷ []) p.counter ≡ None = next_is p.counter known n (λ is. differ process.counter p.counter (l ∙ ap (λ (m : List ℕ). length (ends_told m before)) ((bytes_eq-Decides process.node p.node).0 h) ∙ sym is) s) in let clash : Some c ≡ None = sym e ∙ none in absurd cc where
    differ : (i j : ℕ) → i ≡ j → (i == j) ≡ false → ⊥
    differ i j is d = let same : (i == j) ≡ true = ap (λ (k : ℕ). i == k) (sym is) ∙ number_same i in let clash : true ≡ false = sym same ∙ d in absurd cc

  by_entry : (x : Entry) → IsAllowed before x → (c : Bool) → slice_get (ends_moved p.node x known) p.counter ≡ Some c → makes p x ≡ true
  by_entry (entries.Made process spawn label) l c e = makes_it process (bytes_eq process.node p.node) (process.counter == p.counter) refl refl l c e
  by_entry (entries.Over process reason) l c e = by_test (bytes_eq process.node p.node) e where
    by_test : (d : Bool) → slice_get (cond d (over_at process.counter known) known) p.counter ≡ Some c → false ≡ true
    by_test true e = let clash : Some c ≡ None = sym e ∙ over_none process.counter p.counter known n in absurd cc
    by_test false e = let clash : Some c ≡ None = sym e ∙ n in absurd cc
  by_entry (entries.Shut node) l c e = by_test (bytes_eq node p.node) e where
    by_test : (d : Bool) → slice_get (cond d (map (λ (end : Bool). true) known) known) p.counter ≡ Some c → false ≡ true
    by_test true e = let clash : Some c ≡ None = sym e ∙ all_none p.counter known n in absurd cc
    by_test false e = let clash : Some c ≡ None = sym e ∙ n in absurd cc
  by_entry x l c e = let clash : Some c ≡ None = sym e ∙ n in absurd cc

  by_get : (o : Option Bool) → slice_get (ends_moved p.node x known) p.counter ≡ o → Later → (makes p x || list_any (makes p) rest) ≡ true
  by_get None g later = second (makes p x) (list_any (makes p) rest) (later (ap (λ (l : List Bool). slice_get (ends_after p.node rest l) p.counter) now ∙ e) (ap (λ (l : List Bool). slice_get l p.counter) now ∙ g))
  by_get (Some c) g later = first (makes p x) (list_any (makes p) rest) (by_entry x a.0 c g)

-- ---- logs in which no node is shut, and nothing is watched

abbrev pub is_simple : Entry → Bool
is_simple (entries.Shut node) = false
is_simple (entries.Watch watch by target kind) = false
is_simple entry = true

abbrev pub AreSimple : List Entry → Type 0
AreSimple [] = Unit {0}
AreSimple (entry ∷ rest) = (is_simple entry ≡ true) × AreSimple rest

none_shut : (name : List ℕ) (log : List Entry) → AreSimple log → list_any (shuts name) log ≡ false
none_shut name [] s = refl
none_shut name (x ∷ log) s = ap (λ b. b || list_any (shuts name) log) (one x s.0) ∙ none_shut name log s.1 where
  one : (x : Entry) → is_simple x ≡ true → shuts name x ≡ false
  one (entries.Shut node) e = absurd cc
  one x e = refl

none_watched : (watch : RefName) (log : List Entry) → AreSimple log → first_of (watches_as watch) log ≡ None
none_watched watch [] s = refl
none_watched watch (x ∷ log) s = ap (λ (o : Option ProcName). or_else o (first_of (watches_as watch) log)) (one x s.0) ∙ none_watched watch log s.1 where
  one : (x : Entry) → is_simple x ≡ true → watches_as watch x ≡ None
  one (entries.Watch other by target kind) e = absurd cc
  one x e = refl

allowed_more : (before log : List Entry) (x : Entry) → AreAllowed before log → IsAllowed (before ++ log) x → AreAllowed before (log ++ x ∷ [])
allowed_more before [] x a l = (subst (λ (k : List Entry). IsAllowed k x) (append-nil before) l, tt)
allowed_more before (y ∷ log) x a l = (a.0, allowed_more (before ++ y ∷ []) log x a.1 (subst (λ (k : List Entry). IsAllowed k x) (sym (append_assoc before (y ∷ []) log)) l))

simple_more : (log : List Entry) (x : Entry) → AreSimple log → is_simple x ≡ true → AreSimple (log ++ x ∷ [])
simple_more [] x s e = (e, tt)
simple_more (y ∷ log) x s e = (s.0, simple_more log x s.1 e)

now_not_over : (log : List Entry) (p : ProcName) → AreAllowed [] log → AreSimple log → IsNow log p → is_over log p ≡ false
now_not_over log p a s n = ap (λ b. b || list_any (shuts p.node) log) (not_ended p [] log a n) ∙ none_shut p.node log s

now_made : (log : List Entry) (p : ProcName) → AreAllowed [] log → IsNow log p → is_made log p ≡ true
now_made log p a n = is_made_in p false [] log a n refl

-- ---- each entry

both_true : (a b : Bool) → a ≡ true → b ≡ true → (a && b) ≡ true
both_true true b h k = k
both_true false b h k = absurd cc

each_of : (test : List Entry → Entry → Bool) → ((log : List Entry) (x : Entry) → AreAllowed [] log → AreSimple log → IsAllowed log x → test log x ≡ true) → (before log : List Entry) → AreAllowed [] before → AreSimple before → AreAllowed before log → AreSimple log → each_after test before log ≡ true
each_of test one before [] a s b t = refl
each_of test one before (x ∷ log) a s b t = both_true (test before x) (each_after test (before ++ x ∷ []) log) (one before x a s b.0) (each_of test one (before ++ x ∷ []) log (allowed_more [] before x a b.0) (simple_more before x s t.0) b.1 t.1)

pub numbered_one : (log : List Entry) (x : Entry) → AreAllowed [] log → AreSimple log → IsAllowed log x → is_numbered log x ≡ true
numbered_one log (entries.Made process spawn label) a s l = ap (λ (n : ℕ). n == count_by (makes_on process.node) log) (l ∙ counted process.node log) ∙ number_same (count_by (makes_on process.node) log)
numbered_one log x a s l = refl

pub once_one : (log : List Entry) (x : Entry) → AreAllowed [] log → AreSimple log → IsAllowed log x → ends_once log x ≡ true
once_one log (entries.Over process reason) a s l = both_true (is_made log process) (not (is_over log process)) (now_made log process a l) (ap not (now_not_over log process a s l))
once_one log x a s l = refl

pub rests_one : (log : List Entry) (x : Entry) → AreAllowed [] log → AreSimple log → IsAllowed log x → concerns_no_dead log x ≡ true
rests_one log (entries.Said by to epoch index mark body) a s l = ap not (now_not_over log by a s l)
rests_one log (entries.Again by to epoch) a s l = ap not (now_not_over log by a s l)
rests_one log (entries.Took by port mark body) a s l = ap not (now_not_over log by a s l)
rests_one log (entries.Watch watch by target kind) a s l = ap not (now_not_over log by a s l)
rests_one log (entries.Got by to epoch index None) a s l = refl
rests_one log (entries.Got by to epoch index (Some receiver)) a s l = ap not (now_not_over log receiver a s l)
rests_one log (entries.Told watch reason) a s l = ap (none_or (λ p. not (is_over log p))) (none_watched watch log s)
rests_one log x a s l = refl

pub all_numbered : (log : List Entry) → AreAllowed [] log → AreSimple log → each_after is_numbered [] log ≡ true
all_numbered log a s = each_of is_numbered numbered_one [] log tt tt a s

pub all_once : (log : List Entry) → AreAllowed [] log → AreSimple log → each_after ends_once [] log ≡ true
all_once log a s = each_of ends_once once_one [] log tt tt a s

pub all_rest : (log : List Entry) → AreAllowed [] log → AreSimple log → each_after concerns_no_dead [] log ≡ true
all_rest log a s = each_of concerns_no_dead rests_one [] log tt tt a s
