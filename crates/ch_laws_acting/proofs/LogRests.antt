-- Where each entry of a log is allowed, the log tells which processes act no more: those that were doomed, or are over.
use Rattle.std.proofs.Common.{◌≡◌, ℕ, zero, suc, ◌==◌, Bool, true, false, cond, not, ◌&&◌, ◌||◌, List, [], ◌∷◌, ◌++◌, map, length, refl, sym, ap, ◌∙◌, subst}
use Rattle.std.proofs.lemmas.List.{length-map}
use Rattle.std.proofs.lemmas.Slice.Eq.{bytes_eq-Decides}
use Rattle.std.specs.List.{list_any}
use Rattle.std.specs.Prelude.{is_some, slice_get, Option, Some, None}
use Rattle.std.specs.Str.{bytes_eq}
use Rattle.ch_model.specs.declared.entry.Entry.{Entry}
use Rattle.ch_model.specs.declared.entry.Entry.TheVariants as entries
use Rattle.ch_model.specs.declared.entry.Verdict.{Verdict}
use Rattle.ch_model.specs.declared.entry.Verdict.TheVariants as verdicts
use Rattle.ch_model.specs.declared.line.Line.{Line}
use Rattle.ch_model.specs.declared.line.What.TheVariants as lines
use Rattle.ch_model.specs.declared.name.ProcName.{ProcName}
use Rattle.ch_model.specs.Answers.{answer_to_process}
use Rattle.ch_model.specs.Life.{makes, ends, dooms, is_made, is_over, is_doomed, is_live}
use Rattle.ch_laws_log.proofs.Stored.{number_is, number_same}
use Rattle.ch_laws_many.proofs.Following.{is_shutting}
use Rattle.ch_laws_many.proofs.Making.{none_shut}
use Rattle.ch_laws_many.proofs.Reached.{AreOpen}
use Rattle.ch_laws_lives.specs.Rolls.{over_at}
use Rattle.ch_laws_lives.specs.Logs.{ends_moved, ends_after, ends_told, IsAllowed, AreAllowed}
use Rattle.ch_laws_lives.proofs.Mails.{last_there}
use Rattle.ch_laws_acting.proofs.ToldRests.{rests_moved, rests_after, rests_told, after_both}

-- ---- as many act or rest as were made

over_length : (n : ℕ) (known : List Bool) → length (over_at n known) ≡ length known
over_length n [] = refl
over_length zero (x ∷ xs) = refl
over_length (suc n) (x ∷ xs) = ap suc (over_length n xs)

one_longer : (xs ys : List Bool) → length xs ≡ length ys → length (xs ++ false ∷ []) ≡ length (ys ++ false ∷ [])
one_longer [] [] e = refl
one_longer [] (y ∷ ys) e = absurd cc
one_longer (x ∷ xs) [] e = absurd cc
one_longer (x ∷ xs) (y ∷ ys) e = let less : length xs ≡ length ys = cc in ap suc (one_longer xs ys less)

one_length : (name : List ℕ) (x : Entry) (xs ys : List Bool) → length xs ≡ length ys → length (rests_moved name x xs) ≡ length (ends_moved name x ys)
one_length name (entries.Made process spawn label) xs ys e = by_test (bytes_eq process.node name) where
  by_test : (b : Bool) → length (cond b (xs ++ false ∷ []) xs) ≡ length (cond b (ys ++ false ∷ []) ys)
  by_test true = one_longer xs ys e
  by_test false = e
one_length name (entries.Doom process text) xs ys e = by_test (bytes_eq process.node name) where
  by_test : (b : Bool) → length (cond b (over_at process.counter xs) xs) ≡ length ys
  by_test true = over_length process.counter xs ∙ e
  by_test false = e
one_length name (entries.Over process reason) xs ys e = by_test (bytes_eq process.node name) where
  by_test : (b : Bool) → length (cond b (over_at process.counter xs) xs) ≡ length (cond b (over_at process.counter ys) ys)
  by_test true = over_length process.counter xs ∙ e ∙ sym (over_length process.counter ys)
  by_test false = e
one_length name (entries.Shut node) xs ys e = by_test (bytes_eq node name) where
  by_test : (b : Bool) → length (cond b (map (λ rest. true) xs) xs) ≡ length (cond b (map (λ end. true) ys) ys)
  by_test true = length-map xs (λ (rest : Bool). true) ∙ e ∙ sym (length-map ys (λ (end : Bool). true))
  by_test false = e
one_length name x xs ys e = e

all_length : (name : List ℕ) (log : List Entry) (xs ys : List Bool) → length xs ≡ length ys → length (rests_after name log xs) ≡ length (ends_after name log ys)
all_length name [] xs ys e = e
all_length name (x ∷ log) xs ys e = all_length name log (rests_moved name x xs) (ends_moved name x ys) (one_length name x xs ys e)

told_length : (name : List ℕ) (log : List Entry) → length (rests_told name log) ≡ length (ends_told name log)
told_length name log = all_length name log [] [] refl

-- ---- one number

over_there : (n : ℕ) (known : List Bool) (b : Bool) → slice_get known n ≡ Some b → slice_get (over_at n known) n ≡ Some true
over_there n [] b e = absurd cc
over_there zero (x ∷ xs) b e = refl
over_there (suc n) (x ∷ xs) b e = over_there n xs b e

over_elsewhere : (n k : ℕ) (known : List Bool) → (n ≡ k → ⊥) → slice_get (over_at n known) k ≡ slice_get known k
over_elsewhere n k [] d = refl
over_elsewhere zero zero (x ∷ xs) d = absurd (d refl)
over_elsewhere zero (suc k) (x ∷ xs) d = refl
over_elsewhere (suc n) zero (x ∷ xs) d = refl
over_elsewhere (suc n) (suc k) (x ∷ xs) d = over_elsewhere n k xs (λ is. d (ap suc is))

-- one more changes no other number
more_elsewhere : (k : ℕ) (known : List Bool) → (k ≡ length known → ⊥) → slice_get (known ++ false ∷ []) k ≡ slice_get known k
more_elsewhere zero [] d = absurd (d refl)
more_elsewhere (suc k) [] d = refl
more_elsewhere zero (x ∷ xs) d = refl
more_elsewhere (suc k) (x ∷ xs) d = more_elsewhere k xs (λ is. d (ap suc is))

none_at_end : (known : List Bool) → slice_get known (length known) ≡ None
none_at_end [] = refl
none_at_end (x ∷ xs) = none_at_end xs

both_there : (xs ys : List Bool) (k : ℕ) (b : Bool) → length xs ≡ length ys → slice_get ys k ≡ Some b → slice_get xs k ≡ None → ⊥
both_there [] [] k b e f n = absurd cc
both_there [] (y ∷ ys) k b e f n = absurd cc
both_there (x ∷ xs) [] k b e f n = absurd cc
both_there (x ∷ xs) (y ∷ ys) zero b e f n = absurd cc
both_there (x ∷ xs) (y ∷ ys) (suc k) b e f n = let less : length xs ≡ length ys = cc in both_there xs ys k b less f n

-- ---- one process

-- the entry dooms the process, or ends it
abbrev stops : ProcName → Entry → Bool
stops p x = ends p x || dooms p x

-- the process is among those of its node just where it was made, and acts no more just where it is gone
record Stands (p : ProcName) (made gone : Bool) (rests : List Bool) : Type 0 where
  found : slice_get rests p.counter ≡ cond made (Some gone) None
  unmade : made ≡ false → gone ≡ false

or_false : (a : Bool) → (a || false) ≡ a
or_false true = refl
or_false false = refl

same_stands : (p : ProcName) (made gone : Bool) (rests : List Bool) → Stands p made gone rests → Stands p (made || false) (gone || false) rests
same_stands p made gone rests s = subst (λ (b : Bool). Stands p b (gone || false) rests) (sym (or_false made)) (subst (λ (b : Bool). Stands p made b rests) (sym (or_false gone)) s)

-- the process is made
makes_stand : (p : ProcName) (made gone : Bool) (rests : List Bool) → p.counter ≡ length rests → Stands p made gone rests → Stands p (made || true) (gone || false) (rests ++ false ∷ [])
makes_stand p made gone rests l s = by_made made (sym s.found ∙ ap (slice_get rests) l ∙ none_at_end rests) s.unmade where
  last : slice_get (rests ++ false ∷ []) p.counter ≡ Some false
  last = ap (slice_get (rests ++ false ∷ [])) l ∙ last_there rests

  by_made : (made : Bool) → cond made (Some gone) None ≡ None → (made ≡ false → gone ≡ false) → Stands p (made || true) (gone || false) (rests ++ false ∷ [])
  by_made true e u = absurd cc
  by_made false e u = subst (λ (b : Bool). Stands p true (b || false) (rests ++ false ∷ [])) (sym (u refl)) (record { found = last; unmade = λ no. absurd cc })

-- the process, which was made, is doomed or over
stops_stand : (p : ProcName) (made gone : Bool) (rests : List Bool) → (slice_get rests p.counter ≡ None → ⊥) → Stands p made gone rests → Stands p (made || false) (gone || true) (over_at p.counter rests)
stops_stand p made gone rests there s = by_made made s.found where
  or_true : (a : Bool) → (a || true) ≡ true
  or_true true = refl
  or_true false = refl

  by_made : (made : Bool) → slice_get rests p.counter ≡ cond made (Some gone) None → Stands p (made || false) (gone || true) (over_at p.counter rests)
  by_made true e = record { found = over_there p.counter rests gone e ∙ ap Some (sym (or_true gone)); unmade = λ no. absurd cc }
  by_made false e = absurd (there e)

-- which process the entry is of
by_process : (P : Bool → Bool → Type 0) (process p : ProcName) → (bytes_eq process.node p.node ≡ false → P false false) → (process.node ≡ p.node → (process.counter ≡ p.counter → ⊥) → P true false) → (process.node ≡ p.node → process.counter ≡ p.counter → P true true) → P (bytes_eq process.node p.node) (bytes_eq process.node p.node && process.counter == p.counter)
by_process P process p away other same = by_node (bytes_eq process.node p.node) refl where
  by_number : (b : Bool) → (process.counter == p.counter) ≡ b → process.node ≡ p.node → P true b
  by_number true h n = same n (number_is process.counter p.counter h)
  by_number false h n = other n (λ is. let clash : true ≡ false = sym (ap (λ (k : ℕ). k == p.counter) is ∙ number_same p.counter) ∙ h in absurd cc)

  by_node : (b : Bool) → bytes_eq process.node p.node ≡ b → P b (b && process.counter == p.counter)
  by_node true h = by_number (process.counter == p.counter) refl ((bytes_eq-Decides process.node p.node).0 h)
  by_node false h = away h

stopped_one : (p : ProcName) (before : List Entry) (process : ProcName) (made gone : Bool) → slice_get (ends_told process.node before) process.counter ≡ Some false → Stands p made gone (rests_told p.node before)
    → Stands p (made || false) (gone || (bytes_eq process.node p.node && process.counter == p.counter)) (cond (bytes_eq process.node p.node) (over_at process.counter (rests_told p.node before)) (rests_told p.node before))
stopped_one p before process made gone a s = by_process (λ here is. Stands p (made || false) (gone || is) (cond here (over_at process.counter (rests_told p.node before)) (rests_told p.node before))) process p
    (λ h. same_stands p made gone (rests_told p.node before) s)
    (λ n d. let t = same_stands p made gone (rests_told p.node before) s in record { found = over_elsewhere process.counter p.counter (rests_told p.node before) d ∙ t.found; unmade = t.unmade })
    (λ n c. subst (λ (k : ℕ). Stands p (made || false) (gone || true) (over_at k (rests_told p.node before))) (sym c)
    (stops_stand p made gone (rests_told p.node before) (both_there (rests_told p.node before) (ends_told p.node before) p.counter false (told_length p.node before) (ap (slice_get (ends_told p.node before)) (sym c) ∙ ap (λ (m : List ℕ). slice_get (ends_told m before) process.counter) (sym n) ∙ a)) s))

one_stands : (p : ProcName) (before : List Entry) (x : Entry) (made gone : Bool) → IsAllowed before x → is_shutting x ≡ false → Stands p made gone (rests_told p.node before) → Stands p (made || makes p x) (gone || stops p x) (rests_moved p.node x (rests_told p.node before))
one_stands p before (entries.Made process spawn label) made gone a o s = by_process (λ here is. Stands p (made || is) (gone || false) (cond here (rests_told p.node before ++ false ∷ []) (rests_told p.node before))) process p
    (λ h. same_stands p made gone (rests_told p.node before) s)
    (λ n d. let t = same_stands p made gone (rests_told p.node before) s in record { found = more_elsewhere p.counter (rests_told p.node before) (λ is. d (at_end n ∙ sym is)) ∙ t.found; unmade = t.unmade })
    (λ n c. makes_stand p made gone (rests_told p.node before) (sym c ∙ at_end n) s) where
      at_end : process.node ≡ p.node → process.counter ≡ length (rests_told p.node before)
      at_end n = a ∙ ap (λ (m : List ℕ). length (ends_told m before)) n ∙ sym (told_length p.node before)
one_stands p before (entries.Doom process text) made gone a o s = stopped_one p before process made gone a s
one_stands p before (entries.Over process reason) made gone a o s = subst (λ (b : Bool). Stands p (made || false) (gone || b) (rests_moved p.node (entries.Over process reason) (rests_told p.node before))) (sym (or_false (bytes_eq process.node p.node && process.counter == p.counter))) (stopped_one p before process made gone a s)
one_stands p before (entries.Shut node) made gone a o s = absurd cc
one_stands p before x made gone a o s = same_stands p made gone (rests_told p.node before) s

or_first : (a b c : Bool) → ((a || b) || c) ≡ (a || (b || c))
or_first true b c = refl
or_first false b c = refl

all_stand : (p : ProcName) (before rest : List Entry) (made gone : Bool) → AreAllowed before rest → AreOpen rest → Stands p made gone (rests_told p.node before) → Stands p (made || list_any (makes p) rest) (gone || list_any (stops p) rest) (rests_after p.node rest (rests_told p.node before))
all_stand p before [] made gone a o s = same_stands p made gone (rests_told p.node before) s
all_stand p before (x ∷ rest) made gone a o s = subst (λ (l : List Bool). Stands p (made || (makes p x || list_any (makes p) rest)) (gone || (stops p x || list_any (stops p) rest)) (rests_after p.node rest l)) (after_both p.node before (x ∷ []) [])
    (subst (λ (b : Bool). Stands p b (gone || (stops p x || list_any (stops p) rest)) (rests_after p.node rest (rests_told p.node (before ++ x ∷ [])))) (or_first made (makes p x) (list_any (makes p) rest))
    (subst (λ (b : Bool). Stands p ((made || makes p x) || list_any (makes p) rest) b (rests_after p.node rest (rests_told p.node (before ++ x ∷ [])))) (or_first gone (stops p x) (list_any (stops p) rest))
    (all_stand p (before ++ x ∷ []) rest (made || makes p x) (gone || stops p x) a.1 o.1
    (subst (λ (l : List Bool). Stands p (made || makes p x) (gone || stops p x) l) (sym (after_both p.node before (x ∷ []) [])) (one_stands p before x made gone a.0 o.0 s)))))

stops_apart : (p : ProcName) (log : List Entry) → list_any (stops p) log ≡ (list_any (ends p) log || list_any (dooms p) log)
stops_apart p [] = refl
stops_apart p (x ∷ log) = ap (λ b. stops p x || b) (stops_apart p log) ∙ by_tests (ends p x) (dooms p x) (list_any (ends p) log) where
  by_tests : (a b c : Bool) → ((a || b) || (c || list_any (dooms p) log)) ≡ ((a || c) || (b || list_any (dooms p) log))
  by_tests true b c = refl
  by_tests false true true = refl
  by_tests false true false = refl
  by_tests false false c = refl

-- ---- the answer to a line

-- the answer by whether the process is there, and acts no more
abbrev pub answer_by : Option Bool → Verdict
answer_by None = verdicts.Unknown
answer_by (Some true) = verdicts.Dead
answer_by (Some false) = verdicts.Ok

-- a process that isn't there, or acts no more, has that answer; of one that acts nothing is said
abbrev pub RefusedBy : Option Bool → Verdict → Type 0
RefusedBy None verdict = verdict ≡ verdicts.Unknown
RefusedBy (Some true) verdict = verdict ≡ verdicts.Dead
RefusedBy (Some false) verdict = Unit {0}

stand_so : (log : List Entry) (p : ProcName) → AreAllowed [] log → AreOpen log → Stands p (is_made log p) (list_any (stops p) log) (rests_told p.node log)
stand_so log p a o = all_stand p [] log false false a o (record { found = refl; unmade = λ no. refl })

over_so : (log : List Entry) (p : ProcName) → AreOpen log → is_over log p ≡ list_any (ends p) log
over_so log p o = ap (λ b. list_any (ends p) log || b) (none_shut p.node log o) ∙ or_false (list_any (ends p) log)

and_true : (b : Bool) → (b && true) ≡ b
and_true true = refl
and_true false = refl

gone_so : (log : List Entry) (p : ProcName) → AreOpen log → (is_over log p || is_doomed log p && true) ≡ list_any (stops p) log
gone_so log p o = ap (λ b. b || is_doomed log p && true) (over_so log p o) ∙ ap (λ b. list_any (ends p) log || b) (and_true (is_doomed log p)) ∙ sym (stops_apart p log)

pub end_answer : (journal : List Line) (log : List Entry) (p : ProcName) → AreAllowed [] log → AreOpen log → answer_to_process journal log p (lines.End p) ≡ answer_by (slice_get (rests_told p.node log) p.counter)
end_answer journal log p a o = by_tests (is_made log p) (list_any (stops p) log) (gone_so log p o) (stand_so log p a o).found where
  by_tests : (made stopped : Bool) → (is_over log p || is_doomed log p && true) ≡ stopped → slice_get (rests_told p.node log) p.counter ≡ cond made (Some stopped) None
      → cond (not made) verdicts.Unknown (cond (is_over log p || is_doomed log p && true) verdicts.Dead verdicts.Ok) ≡ answer_by (slice_get (rests_told p.node log) p.counter)
  by_tests false stopped g e = sym (ap answer_by e)
  by_tests true true g e = ap (λ b. cond b verdicts.Dead verdicts.Ok) g ∙ sym (ap answer_by e)
  by_tests true false g e = ap (λ b. cond b verdicts.Dead verdicts.Ok) g ∙ sym (ap answer_by e)

-- a process that isn't live is refused by what the log tells
pub refused_answer : (log : List Entry) (p : ProcName) (verdict more : Verdict) → AreAllowed [] log → AreOpen log → not (is_live log p) ≡ true → RefusedBy (slice_get (rests_told p.node log) p.counter) verdict
    → verdict ≡ cond (not (is_made log p)) verdicts.Unknown (cond (is_over log p || is_doomed log p && true) verdicts.Dead more)
refused_answer log p verdict more a o dead k = by_tests (is_made log p) (list_any (stops p) log) (gone_so log p o) dead (subst (λ (b : Option Bool). RefusedBy b verdict) (stand_so log p a o).found k) where
  neither : (b c : Bool) → (b || c && true) ≡ false → not (not b && not c) ≡ true → ⊥
  neither true c e h = absurd cc
  neither false true e h = absurd cc
  neither false false e h = absurd cc

  by_tests : (made stopped : Bool) → (is_over log p || is_doomed log p && true) ≡ stopped → not (made && not (is_over log p) && not (is_doomed log p)) ≡ true → RefusedBy (cond made (Some stopped) None) verdict
      → verdict ≡ cond (not made) verdicts.Unknown (cond (is_over log p || is_doomed log p && true) verdicts.Dead more)
  by_tests false stopped g h k = k
  by_tests true true g h k = k ∙ sym (ap (λ b. cond b verdicts.Dead more) g)
  by_tests true false g h k = absurd (neither (is_over log p) (is_doomed log p) g h)

-- who was made is there by what the log tells
pub there_so : (log : List Entry) (p : ProcName) → AreAllowed [] log → AreOpen log → is_some (slice_get (rests_told p.node log) p.counter) ≡ is_made log p
there_so log p a o = ap is_some (stand_so log p a o).found ∙ by_made (is_made log p) where
  by_made : (made : Bool) → is_some (cond made (Some (list_any (stops p) log)) None) ≡ made
  by_made true = refl
  by_made false = refl

-- the answer by whether the process is there, and acts no more; and another where it acts
abbrev pub answer_or : Verdict → Option Bool → Verdict
answer_or more None = verdicts.Unknown
answer_or more (Some true) = verdicts.Dead
answer_or more (Some false) = more

pub or_answer : (log : List Entry) (p : ProcName) (more : Verdict) → AreAllowed [] log → AreOpen log → cond (not (is_made log p)) verdicts.Unknown (cond (is_over log p || is_doomed log p && true) verdicts.Dead more) ≡ answer_or more (slice_get (rests_told p.node log) p.counter)
or_answer log p more a o = by_tests (is_made log p) (list_any (stops p) log) (gone_so log p o) (stand_so log p a o).found where
  by_tests : (made stopped : Bool) → (is_over log p || is_doomed log p && true) ≡ stopped → slice_get (rests_told p.node log) p.counter ≡ cond made (Some stopped) None
      → cond (not made) verdicts.Unknown (cond (is_over log p || is_doomed log p && true) verdicts.Dead more) ≡ answer_or more (slice_get (rests_told p.node log) p.counter)
  by_tests false stopped g e = sym (ap (answer_or more) e)
  by_tests true true g e = ap (λ b. cond b verdicts.Dead more) g ∙ sym (ap (answer_or more) e)
  by_tests true false g e = ap (λ b. cond b verdicts.Dead more) g ∙ sym (ap (answer_or more) e)
