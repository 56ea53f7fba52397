-- Where the lines of a journal name processes of small counters, its log says messages by and to such alone.
use Rattle.std.proofs.Common.{◌≡◌, ◌<◌, ◌^◌, ℕ, Bool, true, false, cond, ◌&&◌, List, [], ◌∷◌, ◌++◌, refl, sym, subst}
use Rattle.std.proofs.lemmas.Bool.{and_parts, eqb-true}
use Rattle.std.specs.Option.{option_map}
use Rattle.std.specs.Prelude.{find, Option, Some, None, ◌==◌}
use Rattle.std.specs.Str.{bytes_eq}
use Rattle.ch_model.specs.declared.entry.Entry.{Entry}
use Rattle.ch_model.specs.declared.entry.Entry.TheVariants as entries
use Rattle.ch_model.specs.declared.entry.Verdict.{Verdict}
use Rattle.ch_model.specs.declared.entry.Verdict.TheVariants as verdicts
use Rattle.ch_model.specs.declared.line.Line.{Line}
use Rattle.ch_model.specs.declared.line.What.{What}
use Rattle.ch_model.specs.declared.line.What.TheVariants as lines
use Rattle.ch_model.specs.declared.name.TargetName.TheVariants as targets
use Rattle.ch_model.specs.AnswersOwn.{is_own}
use Rattle.ch_model.specs.HasAnswers.{is_own_of_last, stands_in_place}
use Rattle.ch_model.specs.Logs.{last_entry, some_and, each_after}
use Rattle.ch_model.specs.Marks.{line_numbered, done_by, line_just_done, in_settle}
use Rattle.ch_model.specs.Same.{same_process}
use Rattle.ch_model.specs.WorldState.{Named}
use Rattle.ch_laws_log.specs.Lines.{AllLines}
use Rattle.ch_laws_many.specs.ManyLines.{is_of_many}
use Rattle.ch_laws_messages.specs.SendsSends.{IsSmall, AreSmall, SaidSmall, SaysSmall}
use Rattle.ch_laws_messages.proofs.SendsCounts.{last_done, just_many, or_last}

numbered_small : (journal : List Line) → AreSmall journal → (number : ℕ) (what : What) → line_numbered journal number ≡ Some what → IsSmall what
numbered_small [] small number what e = absurd cc
numbered_small (line ∷ rest) small number what e = by_test (line.number == number) e (numbered_small rest small.1 number what) where
  by_test : (b : Bool) → option_map (λ (l : Line). l.what) (cond b (Some line) (find (λ (l : Line). l.number == number) rest)) ≡ Some what → (line_numbered rest number ≡ Some what → IsSmall what) → IsSmall what
  by_test true e more = let same : line.what ≡ what = cc in subst IsSmall same small.0
  by_test false e more = more e

done_small : (journal : List Line) → AreSmall journal → (entry : Entry) (what : What) → done_by journal entry ≡ Some what → IsSmall what
done_small journal small (entries.Line number answer) what e = by_answer answer e where
  by_answer : (answer : Verdict) → done_by journal (entries.Line number answer) ≡ Some what → IsSmall what
  by_answer verdicts.Ok e = numbered_small journal small number what e
  by_answer answer e = absurd cc
done_small journal small entry what e = absurd cc

last_small : (journal : List Line) → AreSmall journal → (o : Option Entry) (what : What) → last_done journal o ≡ Some what → IsSmall what
last_small journal small None what e = absurd cc
last_small journal small (Some entry) what e = done_small journal small entry what e

module _ (journal : List Line) (known : List Named) (many : AllLines (is_of_many known) journal) (small : AreSmall journal) where
  said_small : (before : List Entry) (entry : Entry) → stands_in_place journal before entry ≡ true → SaidSmall entry
  said_small before (entries.Said by (targets.Process to) epoch index mark body) place =
      by_line (line_just_done journal before) (just_many known journal many (last_entry before)) (last_small journal small (last_entry before)) (or_last (is_own_of_last journal before (entries.Said by (targets.Process to) epoch index mark body)) (in_settle journal before) place)
    where
      by_what : (what : What) → is_of_many known what ≡ true → IsSmall what → is_own journal before what (entries.Said by (targets.Process to) epoch index mark body) ≡ true → (by.counter < 2 ^ 32) × (to.counter < 2 ^ 32)
      by_what (lines.Send p (targets.Process q) word bytes) of fits own =
          let parts = and_parts (same_process by p) (same_process to q) (and_parts (same_process by p && same_process to q) (bytes_eq mark word) (and_parts (same_process by p && same_process to q && bytes_eq mark word) (bytes_eq body bytes) own).0).0 in
          (subst (λ (n : ℕ). n < 2 ^ 32) (sym (eqb-true by.counter p.counter (and_parts (bytes_eq by.node p.node) (by.counter == p.counter) parts.0).1)) fits.0, subst (λ (n : ℕ). n < 2 ^ 32) (sym (eqb-true to.counter q.counter (and_parts (bytes_eq to.node q.node) (to.counter == q.counter) parts.1).1)) fits.1)
      by_what what of fits own = absurd cc

      by_line : (o : Option What) → ((what : What) → o ≡ Some what → is_of_many known what ≡ true) → ((what : What) → o ≡ Some what → IsSmall what) → some_and (λ what. is_own journal before what (entries.Said by (targets.Process to) epoch index mark body)) o ≡ true → (by.counter < 2 ^ 32) × (to.counter < 2 ^ 32)
      by_line None of fits own = absurd cc
      by_line (Some what) of fits own = by_what what (of what refl) (fits what refl) own
  said_small before entry place = tt

  says_from : (before log : List Entry) → each_after (stands_in_place journal) before log ≡ true → SaysSmall log
  says_from before [] place = tt
  says_from before (entry ∷ log) place = let parts = and_parts (stands_in_place journal before entry) (each_after (stands_in_place journal) (before ++ entry ∷ []) log) place in (said_small before entry parts.0, says_from (before ++ entry ∷ []) log parts.1)

  pub says_small : (log : List Entry) → each_after (stands_in_place journal) [] log ≡ true → SaysSmall log
  says_small log place = says_from [] log place
