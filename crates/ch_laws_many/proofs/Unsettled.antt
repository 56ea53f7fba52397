-- Where no line settles, nothing is asked of settling.
use Rattle.std.proofs.Common.{◌≡◌, ℕ, Bool, true, false, cond, not, ◌&&◌, ◌||◌, List, [], ◌∷◌, ◌++◌, length, refl, ap, ◌∙◌, ◌==◌}
use Rattle.std.specs.Option.{option_map}
use Rattle.std.specs.Prelude.{find, Option, Some, None}
use Rattle.ch_model.specs.declared.entry.Entry.{Entry}
use Rattle.ch_model.specs.declared.entry.Entry.TheVariants as entries
use Rattle.ch_model.specs.declared.entry.Verdict.TheVariants as verdicts
use Rattle.ch_model.specs.declared.line.Line.{Line}
use Rattle.ch_model.specs.declared.line.What.{What}
use Rattle.ch_model.specs.declared.line.What.TheVariants as lines
use Rattle.ch_model.specs.HasAnswers.{ends_settled, has_settled_last, settles_whole}
use Rattle.ch_model.specs.Logs.{last_of, some_and, none_or, each_after, each_between_after}
use Rattle.ch_model.specs.Marks.{line_numbered, done_by, mark_of, is_settle, in_settle}
use Rattle.ch_model.specs.Sockets.{unread}
use Rattle.ch_model.specs.WorldState.{Named}
use Rattle.ch_laws_log.specs.Lines.{AllLines}
use Rattle.ch_laws_many.specs.ManyLines.{is_of_many}
use Rattle.ch_laws_many.proofs.Led.{AreCalm}

-- no line of a number settles
pub never_settles : (known : List Named) (journal : List Line) (number : ℕ) → AllLines (is_of_many known) journal → some_and is_settle (line_numbered journal number) ≡ false
never_settles known [] number all = refl
never_settles known (line ∷ rest) number all = by_test (line.number == number) (never_settles known rest number all.1) where
  no_settle : (what : What) → is_of_many known what ≡ true → is_settle what ≡ false
  no_settle lines.Settle e = absurd cc
  no_settle what e = refl

  by_test : (b : Bool) → some_and is_settle (line_numbered rest number) ≡ false → some_and is_settle (option_map (λ (l : Line). l.what) (cond b (Some line) (find (λ (l : Line). l.number == number) rest))) ≡ false
  by_test true more = no_settle line.what all.0
  by_test false more = more

-- so nothing stands in a settle
pub not_in_settle : (known : List Named) (journal : List Line) (log : List Entry) → AllLines (is_of_many known) journal → in_settle journal log ≡ false
not_in_settle known journal log all = by_mark (last_of mark_of log) where
  by_entry : (mark : Entry) → some_and is_settle (done_by journal mark) ≡ false
  by_entry (entries.Line number verdicts.Ok) = never_settles known journal number all
  by_entry (entries.Line number verdicts.Unknown) = refl
  by_entry (entries.Line number answer) = refl
  by_entry (entries.Fed sock end count) = refl
  by_entry entry = refl

  by_mark : (o : Option Entry) → some_and is_settle (elim o as (λ o. Option What) [
    | None ↦ None
    | Some mark ↦ done_by journal mark
  ]) ≡ false
  by_mark None = refl
  by_mark (Some mark) = by_entry mark

pub each_whole : (known : List Named) (journal : List Line) → AllLines (is_of_many known) journal → (before log : List Entry) → each_after (settles_whole journal) before log ≡ true
each_whole known journal all before [] = refl
each_whole known journal all before (x ∷ log) = ap (λ b. b && each_after (settles_whole journal) (before ++ x ∷ []) log) (one x) ∙ each_whole known journal all (before ++ x ∷ []) log where
  one : (y : Entry) → settles_whole journal before y ≡ true
  one (entries.Fed sock end count) = ap (λ b. not b || count == length (unread journal before sock end)) (not_in_settle known journal before all)
  one y = refl

pub each_last : (known : List Named) (journal : List Line) → AllLines (is_of_many known) journal → (before log : List Entry) → AreCalm log → each_between_after (has_settled_last journal) before log ≡ true
each_last known journal all before [] calm = refl
each_last known journal all before (x ∷ log) calm = ap (λ b. b && each_between_after (has_settled_last journal) (before ++ x ∷ []) log) (one x calm) ∙ each_last known journal all (before ++ x ∷ []) log calm.1 where
  unasked : (o : Option What) → some_and is_settle o ≡ false → none_or (λ what. not (is_settle what) || ends_settled log) o ≡ true
  unasked None e = refl
  unasked (Some what) e = ap (λ b. not b || ends_settled log) e

  one : (y : Entry) → AreCalm (y ∷ log) → has_settled_last journal before y log ≡ true
  one (entries.Line number verdicts.Ok) c = unasked (line_numbered journal number) (never_settles known journal number all)
  one (entries.Line number verdicts.Unknown) c = refl
  one (entries.Line number answer) c = refl
  one entries.Settled c = absurd cc
  one y c = refl
