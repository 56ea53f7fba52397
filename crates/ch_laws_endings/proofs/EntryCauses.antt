-- When an end has its cause by the log before it.
use Rattle.std.proofs.Common.{◌≡◌, ℕ, Bool, true, false, not, ◌&&◌, ◌||◌, List, [], ◌∷◌, ◌++◌, refl, sym, ap, ◌∙◌, subst, ◌==◌, arith}
use Rattle.std.proofs.lemmas.Bool.{and_parts}
use Rattle.std.proofs.lemmas.Bool.Decides.{nat_tests}
use Rattle.std.proofs.lemmas.Slice.Eq.{bytes_eq-Decides}
use Rattle.std.specs.List.{fold}
use Rattle.std.specs.Prelude.{Option, Some, None, codes}
use Rattle.std.specs.Str.{bytes_eq}
use Rattle.ch_ident.specs.declared.reason.Reason.{Reason}
use Rattle.ch_ident.specs.declared.reason.Reason.TheVariants as reasons
use Rattle.ch_model.specs.declared.entry.Entry.{Entry}
use Rattle.ch_model.specs.declared.entry.Entry.TheVariants as entries
use Rattle.ch_model.specs.declared.entry.Verdict.TheVariants as verdicts
use Rattle.ch_model.specs.declared.line.Line.{Line}
use Rattle.ch_model.specs.declared.line.What.{What}
use Rattle.ch_model.specs.declared.line.What.TheVariants as lines
use Rattle.ch_model.specs.declared.name.ProcName.{ProcName}
use Rattle.ch_model.specs.declared.name.RefName.{RefName}
use Rattle.ch_model.specs.AnswersOwn.{is_own}
use Rattle.ch_model.specs.Declarations.{has_label}
use Rattle.ch_model.specs.LifeRules.{ends_by, makes_unlabelled, unlabelled, ends_with_cause}
use Rattle.ch_model.specs.Logs.{or_else, some_and, last_entry, last_is, each_after}
use Rattle.ch_model.specs.Marks.{line_numbered, done_by, line_just_done}
use Rattle.ch_model.specs.Reasons.{same_reason}
use Rattle.ch_model.specs.Same.{same_process}
use Rattle.ch_laws_endings.proofs.WorldEnds.{makes_for, Caused, AreCaused}

pub both_hold : (a b : Bool) → a ≡ true → b ≡ true → (a && b) ≡ true
both_hold true true h g = refl
both_hold true false h g = g
both_hold false b h g = h

first_holds : (a b : Bool) → a ≡ true → (a || b) ≡ true
first_holds true b h = refl
first_holds false b h = absurd cc

second_holds : (a b : Bool) → b ≡ true → (a || b) ≡ true
second_holds true b h = refl
second_holds false b h = h

bytes_same : (a : List ℕ) → bytes_eq a a ≡ true
bytes_same a = (bytes_eq-Decides a a).1 refl

bytes_back : (a b : List ℕ) → bytes_eq a b ≡ true → bytes_eq b a ≡ true
bytes_back a b e = (bytes_eq-Decides b a).1 (sym ((bytes_eq-Decides a b).0 e))

number_same : (a : ℕ) → (a == a) ≡ true
number_same a = grind (arith, nat_tests)

number_back : (a b : ℕ) → (a == b) ≡ true → (b == a) ≡ true
number_back a b e = grind (arith, nat_tests)

process_back : (p q : ProcName) → same_process p q ≡ true → same_process q p ≡ true
process_back p q e = let parts = and_parts (bytes_eq p.node q.node) (p.counter == q.counter) e in
    both_hold (bytes_eq q.node p.node) (q.counter == p.counter) (bytes_back p.node q.node parts.0) (number_back p.counter q.counter parts.1)

-- ---- the last entry

fold_end : {A B : Type 0} (f : B → A → B) (a : B) (xs : List A) (y : A) → fold f a (xs ++ y ∷ []) ≡ f (fold f a xs) y
fold_end f a [] y = refl
fold_end f a (z ∷ ys) y = fold_end f (f a z) ys y

last_of_all : (log : List Entry) (x : Entry) → last_entry (log ++ x ∷ []) ≡ Some x
last_of_all log x = fold_end (λ found entry. or_else (Some entry) found) None log x

just_done : (journal : List Line) (log : List Entry) (number : ℕ) → line_just_done journal (log ++ entries.Line number verdicts.Ok ∷ []) ≡ line_numbered journal number
just_done journal log number = ap by_last (last_of_all log (entries.Line number verdicts.Ok)) where
  by_last : Option Entry → Option What
  by_last o = elim o as (λ o. Option What) [
    | None ↦ None
    | Some entry ↦ done_by journal entry
  ]

-- this process was made for a spawn directly before, if any was
abbrev pub IsLast : List Entry → Option ProcName → Type 0
IsLast log None = Unit {0}
IsLast log (Some p) = (spawn : RefName) × (label : List ℕ) × (last_entry log ≡ Some (entries.Made p (Some spawn) (Some label)))

pub makes_last : (log : List Entry) (x : Entry) → IsLast (log ++ x ∷ []) (makes_for x)
makes_last log (entries.Made process (Some spawn) (Some label)) = (spawn, label, last_of_all log (entries.Made process (Some spawn) (Some label)))
makes_last log (entries.Made process (Some spawn) None) = tt
makes_last log (entries.Made process None label) = tt
makes_last log x = tt

-- ---- causes

-- no line of the journal gives a label
abbrev pub Unlabelled : List Line → Type 0
Unlabelled journal = (x label : List ℕ) → has_label journal x label ≡ false

made_unlabelled : (journal : List Line) → Unlabelled journal → (log : List Entry) (p : ProcName) → IsLast log (Some p) → last_is (makes_unlabelled journal p) log ≡ true
made_unlabelled journal none log p is = ap (some_and (makes_unlabelled journal p)) is.2 ∙ both_hold (same_process p p) (not (has_label journal p.node is.1)) (both_hold (bytes_eq p.node p.node) (p.counter == p.counter) (bytes_same p.node) (number_same p.counter)) (ap not (none p.node is.1))

one_caused : (journal : List Line) → Unlabelled journal → (log : List Entry) (made : Option ProcName) (x : Entry) → IsLast log made → Caused made x → ends_with_cause journal log x ≡ true
one_caused journal none log made (entries.Over process reason) is c = second_holds (some_and (ends_by log process reason) (line_just_done journal log)) (last_is (makes_unlabelled journal process) log && same_reason reason unlabelled)
    (both_hold (last_is (makes_unlabelled journal process) log) (same_reason reason unlabelled) (made_unlabelled journal none log process (subst (IsLast log) c.0 is)) (ap (λ (r : Reason). same_reason r unlabelled) c.1 ∙ bytes_same (codes "unknown label")))
one_caused journal none log made x is c = refl

pub each_caused : (journal : List Line) → Unlabelled journal → (log : List Entry) (made : Option ProcName) (xs : List Entry) → IsLast log made → AreCaused made xs → each_after (ends_with_cause journal) log xs ≡ true
each_caused journal none log made [] is c = refl
each_caused journal none log made (x ∷ xs) is c = both_hold (ends_with_cause journal log x) (each_after (ends_with_cause journal) (log ++ x ∷ []) xs) (one_caused journal none log made x is c.0) (each_caused journal none (log ++ x ∷ []) (makes_for x) xs (makes_last log x) c.1)

-- the own entry of a line by which a process ends, directly after its mark
pub own_caused : (journal : List Line) (log : List Entry) (number : ℕ) (by : ProcName) (x : Entry) → line_numbered journal number ≡ Some (lines.End by) → is_own journal log (lines.End by) x ≡ true → ends_with_cause journal (log ++ entries.Line number verdicts.Ok ∷ []) x ≡ true
own_caused journal log number by (entries.Over process reason) found own =
    let parts = and_parts (same_process process by) (same_reason reason reasons.Normal) own in
    let now : List Entry = log ++ entries.Line number verdicts.Ok ∷ [] in
    first_holds (some_and (ends_by now process reason) (line_just_done journal now)) (last_is (makes_unlabelled journal process) now && same_reason reason unlabelled)
    (ap (some_and (ends_by now process reason)) (just_done journal log number ∙ found) ∙ both_hold (same_process by process) (same_reason reason reasons.Normal) (process_back process by parts.0) parts.1)
own_caused journal log number by x found own = absurd cc
