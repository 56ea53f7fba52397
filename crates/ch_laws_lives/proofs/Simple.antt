-- In the log of a journal of many nodes no node is shut, and nothing is watched.
use Rattle.std.proofs.Common.{◌≡◌, ℕ, Bool, true, false, cond, ◌||◌, ◌==◌, List, [], ◌∷◌, ◌++◌, refl, sym, ap, ◌∙◌}
use Rattle.std.proofs.lemmas.Bool.{and_parts}
use Rattle.std.specs.Option.{option_map}
use Rattle.std.specs.Prelude.{find, Option, Some, None}
use Rattle.ch_watch.specs.declared.waiting.Kind.{Kind}
use Rattle.ch_model.specs.declared.entry.Entry.{Entry}
use Rattle.ch_model.specs.declared.entry.Entry.TheVariants as entries
use Rattle.ch_model.specs.declared.entry.Verdict.TheVariants as verdicts
use Rattle.ch_model.specs.declared.line.Line.{Line}
use Rattle.ch_model.specs.declared.line.What.{What}
use Rattle.ch_model.specs.declared.line.What.TheVariants as lines
use Rattle.ch_model.specs.declared.name.ProcName.{ProcName}
use Rattle.ch_model.specs.declared.name.RefName.{RefName}
use Rattle.ch_model.specs.AnswersOwn.{is_own}
use Rattle.ch_model.specs.HasAnswers.{stands_in_place}
use Rattle.ch_model.specs.Logs.{each_after, some_and, last_entry}
use Rattle.ch_model.specs.Marks.{done_by, line_just_done, line_numbered}
use Rattle.ch_model.specs.WorldState.{Named}
use Rattle.ch_laws_log.specs.Lines.{AllLines}
use Rattle.ch_laws_many.specs.ManyLines.{is_of_many}
use Rattle.ch_laws_lives.proofs.LogLives.{is_simple, AreSimple}

-- what no line of the journal passes, the line done directly before doesn't
numbered_none : (known : List Named) (test : What → Bool) (journal : List Line) (number : ℕ) → ((what : What) → is_of_many known what ≡ true → test what ≡ false) → AllLines (is_of_many known) journal → some_and test (line_numbered journal number) ≡ false
numbered_none known test [] number k all = refl
numbered_none known test (line ∷ rest) number k all = by_test (line.number == number) (numbered_none known test rest number k all.1) where
  by_test : (b : Bool) → some_and test (line_numbered rest number) ≡ false → some_and test (option_map (λ (l : Line). l.what) (cond b (Some line) (find (λ (l : Line). l.number == number) rest))) ≡ false
  by_test true more = k line.what all.0
  by_test false more = more

done_none : (known : List Named) (test : What → Bool) (journal : List Line) (log : List Entry) → ((what : What) → is_of_many known what ≡ true → test what ≡ false) → AllLines (is_of_many known) journal → some_and test (line_just_done journal log) ≡ false
done_none known test journal log k all = by_last (last_entry log) where
  by_entry : (x : Entry) → some_and test (done_by journal x) ≡ false
  by_entry (entries.Line number verdicts.Ok) = numbered_none known test journal number k all
  by_entry (entries.Line number verdicts.Unknown) = refl
  by_entry (entries.Line number answer) = refl
  by_entry x = refl

  by_last : (o : Option Entry) → some_and test (elim o as (λ o. Option What) [
    | None ↦ None
    | Some x ↦ done_by journal x
  ]) ≡ false
  by_last None = refl
  by_last (Some x) = by_entry x

no_own_shut : (known : List Named) (journal : List Line) (log : List Entry) (node : List ℕ) (what : What) → is_of_many known what ≡ true → is_own journal log what (entries.Shut node) ≡ false
no_own_shut known journal log node (lines.Node name address unique) of = refl
no_own_shut known journal log node (lines.Proc x) of = refl
no_own_shut known journal log node (lines.Send by to mark body) of = refl
no_own_shut known journal log node (lines.Recv by mark) of = refl
no_own_shut known journal log node (lines.End by) of = refl
no_own_shut known journal log node (lines.Join sock) of = refl
no_own_shut known journal log node (lines.Come sock) of = refl
no_own_shut known journal log node (lines.Feed sock end count) of = refl
no_own_shut known journal log node what of = absurd cc

no_own_watch : (known : List Named) (journal : List Line) (log : List Entry) (watch : RefName) (by target : ProcName) (kind : Kind) (what : What) → is_of_many known what ≡ true → is_own journal log what (entries.Watch watch by target kind) ≡ false
no_own_watch known journal log watch by target kind (lines.Node name address unique) of = refl
no_own_watch known journal log watch by target kind (lines.Proc x) of = refl
no_own_watch known journal log watch by target kind (lines.Send p to mark body) of = refl
no_own_watch known journal log watch by target kind (lines.Recv p mark) of = refl
no_own_watch known journal log watch by target kind (lines.End p) of = refl
no_own_watch known journal log watch by target kind (lines.Join sock) of = refl
no_own_watch known journal log watch by target kind (lines.Come sock) of = refl
no_own_watch known journal log watch by target kind (lines.Feed sock end count) of = refl
no_own_watch known journal log watch by target kind what of = absurd cc

one_simple : (known : List Named) (journal : List Line) → AllLines (is_of_many known) journal → (before : List Entry) (x : Entry) → stands_in_place journal before x ≡ true → is_simple x ≡ true
one_simple known journal all before (entries.Shut node) h =
    let none : (some_and (λ what. is_own journal before what (entries.Shut node)) (line_just_done journal before) || false) ≡ false = ap (λ b. b || false) (done_none known (λ what. is_own journal before what (entries.Shut node)) journal before (no_own_shut known journal before node) all) in sym none ∙ h
one_simple known journal all before (entries.Watch watch by target kind) h =
    let none : (some_and (λ what. is_own journal before what (entries.Watch watch by target kind)) (line_just_done journal before) || false) ≡ false = ap (λ b. b || false) (done_none known (λ what. is_own journal before what (entries.Watch watch by target kind)) journal before (no_own_watch known journal before watch by target kind) all) in sym none ∙ h
one_simple known journal all before x h = refl

pub all_simple : (known : List Named) (journal : List Line) → AllLines (is_of_many known) journal → (before log : List Entry) → each_after (stands_in_place journal) before log ≡ true → AreSimple log
all_simple known journal all before [] h = tt
all_simple known journal all before (x ∷ log) h = let parts = and_parts (stands_in_place journal before x) (each_after (stands_in_place journal) (before ++ x ∷ []) log) h in (one_simple known journal all before x parts.0, all_simple known journal all (before ++ x ∷ []) log parts.1)
