-- In the log of a journal of many nodes each end has its cause.
use Rattle.std.proofs.Common.{◌≡◌, ℕ, Bool, true, false, ◌||◌, List, [], ◌∷◌, ◌++◌, Ok, Err, refl, sym, ap, ◌∙◌, subst}
use Rattle.std.specs.Prelude.{Some, None}
use Rattle.ch_model.specs.declared.entry.Entry.{Entry}
use Rattle.ch_model.specs.declared.entry.Entry.TheVariants as entries
use Rattle.ch_model.specs.declared.entry.Verdict.{Verdict}
use Rattle.ch_model.specs.declared.entry.Verdict.TheVariants as verdicts
use Rattle.ch_model.specs.declared.line.Line.{Line}
use Rattle.ch_model.specs.declared.line.What.{What}
use Rattle.ch_model.specs.declared.line.What.TheVariants as lines
use Rattle.ch_model.specs.declared.name.ProcName.{ProcName}
use Rattle.ch_model.specs.Declarations.{gives_label, has_label}
use Rattle.ch_model.specs.LifeRules.{ends_with_cause}
use Rattle.ch_model.specs.Logs.{each_after}
use Rattle.ch_model.specs.Marks.{line_numbered}
use Rattle.ch_model.specs.Settle.{Happened}
use Rattle.ch_model.specs.World.{◌>>=◌, names_of, world_new, world_step, line_answered, log_from, log_of}
use Rattle.ch_model.specs.WorldHappenings.{Answered}
use Rattle.ch_model.specs.WorldLines.{line_done}
use Rattle.ch_model.specs.WorldState.{Named, World}
use Rattle.ch_laws_log.specs.Lines.{AllLines}
use Rattle.ch_laws_log.proofs.Agreeing.{Good}
use Rattle.ch_laws_log.proofs.Blocks.{each_append, RefusedAlone, AnsweredAlone, OwnFirst, AnsweredOwn, Found, found_all}
use Rattle.ch_laws_log.proofs.Homes.{Housed, fresh_housed}
use Rattle.ch_laws_log.proofs.Kept.{LedOn}
use Rattle.ch_laws_log.proofs.NodeEntries.{node_line_own, both_kept}
use Rattle.ch_laws_log.proofs.OwnEntries.{line_alone}
use Rattle.ch_laws_log.proofs.Told.{fresh}
use Rattle.ch_laws_many.specs.ManyLines.{is_of_many}
use Rattle.ch_laws_many.proofs.Reached.{IsJournal}
use Rattle.ch_laws_endings.proofs.EntryCauses.{both_hold, makes_last, Unlabelled, each_caused, own_caused}
use Rattle.ch_laws_endings.proofs.WorldEnds.{makes_for, RestCaused, AnsweredCaused, AnsweredRest, IsCaused, line_caused}

-- such a journal gives no labels
none_labelled : (known : List Named) (journal : List Line) → AllLines (is_of_many known) journal → Unlabelled journal
none_labelled known [] all x label = refl
none_labelled known (line ∷ rest) all x label = ap (λ b. b || has_label rest x label) (none line.what all.0) ∙ none_labelled known rest all.1 x label where
  none : (what : What) → is_of_many known what ≡ true → gives_label x label what ≡ false
  none (lines.Label node word) of = absurd cc
  none what of = refl

-- ---- one line

abbrev Passes : List Line → List Entry → Happened → Type 0
Passes journal log (Ok done) = each_after (ends_with_cause journal) log done.0 ≡ true
Passes journal log (Err stop) = Unit {0}

-- a line by which no process ends
none_ends : (journal : List Line) → Unlabelled journal → (log : List Entry) (number : ℕ) (done : Answered) → AnsweredCaused done → Passes journal log (line_answered number done)
none_ends journal none log number (Ok done) c = each_caused journal none (log ++ entries.Line number done.0.0 ∷ []) None done.0.1 tt c
none_ends journal none log number (Err stop) c = tt

-- a line by which a process ends
one_ends : (journal : List Line) → Unlabelled journal → (log : List Entry) (number : ℕ) (by : ProcName) (answer : Verdict) (told : List Entry) → line_numbered journal number ≡ Some (lines.End by) → OwnFirst journal log (lines.End by) answer told → RefusedAlone answer told → RestCaused told
    → each_after (ends_with_cause journal) (log ++ entries.Line number answer ∷ []) told ≡ true
one_ends journal none log number by answer [] found own alone c = refl
one_ends journal none log number by verdicts.Ok (x ∷ rest) found own alone c =
    let now : List Entry = log ++ entries.Line number verdicts.Ok ∷ [] in
    both_hold (ends_with_cause journal now x) (each_after (ends_with_cause journal) (now ++ x ∷ []) rest) (own_caused journal log number by x found own) (each_caused journal none (now ++ x ∷ []) (makes_for x) rest (makes_last now x) c)
one_ends journal none log number by verdicts.Unknown (x ∷ rest) found own alone c = absurd cc
one_ends journal none log number by answer (x ∷ rest) found own alone c = absurd cc

end_passes : (journal : List Line) → Unlabelled journal → (log : List Entry) (number : ℕ) (by : ProcName) (done : Answered) → line_numbered journal number ≡ Some (lines.End by) → AnsweredOwn journal log (lines.End by) done → AnsweredAlone done → AnsweredRest done → Passes journal log (line_answered number done)
end_passes journal none log number by (Ok done) found own alone c = one_ends journal none log number by done.0.0 done.0.1 found own alone c
end_passes journal none log number by (Err stop) found own alone c = tt

-- what lines keep of the log and the world
abbrev Kept : List Line → List Entry → World → Type 0
Kept journal log world = Good journal log world × Housed journal world

event_passes : (journal : List Line) → IsJournal journal → (log : List Entry) (number : ℕ) (what : What) (world : World) → is_of_many (names_of journal) what ≡ true → line_numbered journal number ≡ Some what → Kept journal log world → IsCaused what (line_done what world) → Passes journal log (line_answered number (line_done what world))
event_passes journal j log number (lines.End by) world of found k c = end_passes journal (none_labelled (names_of journal) journal j.lines) log number by (line_done (lines.End by) world) found (node_line_own journal j.apart log (lines.End by) world of k) (line_alone journal log (lines.End by) world refl k.0) c
event_passes journal j log number what world of found k c = none_ends journal (none_labelled (names_of journal) journal j.lines) log number (line_done what world) c

step_passes : (journal : List Line) → IsJournal journal → (log : List Entry) (number : ℕ) (what : What) (world : World) → is_of_many (names_of journal) what ≡ true → line_numbered journal number ≡ Some what → Kept journal log world → Passes journal log (world_step world (record { number = number; what = what }))
step_passes journal j log number (lines.Node name address unique) world of found k = refl
step_passes journal j log number (lines.Away name address unique) world of found k = absurd cc
step_passes journal j log number (lines.Label node label) world of found k = absurd cc
step_passes journal j log number (lines.Stranger name host) world of found k = absurd cc
step_passes journal j log number lines.Settle world of found k = absurd cc
step_passes journal j log number what world of found k = event_passes journal j log number what world of found k (line_caused (names_of journal) what world of)

-- ---- lines

all_pass : (journal : List Line) → IsJournal journal → (rest : List Line) (log : List Entry) (world : World) → Found journal rest → AllLines (is_of_many (names_of journal)) rest → Kept journal log world → Passes journal log (log_from world rest)
all_pass journal j [] log world found of k = refl
all_pass journal j (line ∷ rest) log world found of k =
    by_step (world_step world line) (step_passes journal j log line.number line.what world of.0 found.0 k) (both_kept journal log world line.number line.what k) (λ l w h. all_pass journal j rest l w found.1 of.1 h) where
      by_rest : (told : List Entry) (more : Happened) → each_after (ends_with_cause journal) log told ≡ true → Passes journal (log ++ told) more → Passes journal log (more >>= λ more. Ok (told ++ more.0, more.1))
      by_rest told (Ok more) p q = each_append (ends_with_cause journal) log told more.0 p q
      by_rest told (Err stop) p q = tt

      by_step : (one : Happened) → Passes journal log one → LedOn (Kept journal) log one → ((l : List Entry) (w : World) → Kept journal l w → Passes journal l (log_from w rest)) → Passes journal log (one >>= λ done. log_from done.1 rest >>= λ more. Ok (done.0 ++ more.0, more.1))
      by_step (Ok done) p g more = by_rest done.0 (log_from done.1 rest) p (more (log ++ done.0) done.1 g)
      by_step (Err stop) p g more = tt

first_found : (journal front rest : List Line) → Found journal (front ++ rest) → Found journal front
first_found journal [] rest f = tt
first_found journal (line ∷ front) rest f = (f.0, first_found journal front rest f.1)

first_lines : (test : What → Bool) (front rest : List Line) → AllLines test (front ++ rest) → AllLines test front
first_lines test [] rest all = tt
first_lines test (line ∷ front) rest all = (all.0, first_lines test front rest all.1)

-- after any first lines each end has its cause
pub fronts_caused : (journal : List Line) → IsJournal journal → (front rest : List Line) → front ++ rest ≡ journal → (log : List Entry) (world : World) → log_from (world_new journal) front ≡ Ok (log, world) → each_after (ends_with_cause journal) [] log ≡ true
fronts_caused journal j front rest cut log world is = subst (Passes journal []) is
    (all_pass journal j front [] (world_new journal) (first_found journal front rest (subst (Found journal) (sym cut) (found_all 1 journal j.numbered))) (first_lines (is_of_many (names_of journal)) front rest (subst (AllLines (is_of_many (names_of journal))) (sym cut) j.lines)) (fresh journal, fresh_housed journal))

-- in the whole log each end has its cause
pub log_caused : (journal : List Line) → IsJournal journal → (log : List Entry) → log_of journal ≡ Ok log → each_after (ends_with_cause journal) [] log ≡ true
log_caused journal j log is = by_log (log_from (world_new journal) journal) (all_pass journal j journal [] (world_new journal) (found_all 1 journal j.numbered) j.lines (fresh journal, fresh_housed journal)) is where
  by_log : (done : Happened) → Passes journal [] done → (done >>= λ done. Ok done.0) ≡ Ok log → each_after (ends_with_cause journal) [] log ≡ true
  by_log (Ok done) p e = let same : done.0 ≡ log = cc in subst (λ (l : List Entry). each_after (ends_with_cause journal) [] l ≡ true) same p
  by_log (Err stop) p e = absurd cc
