-- Where an event line isn't done, nothing follows its mark: so it is of each line, as the ends' hosts hear what the world has happen to them.
use Rattle.std.proofs.Common.{◌≡◌, ℕ, Bool, true, false, ◌&&◌, ◌||◌, List, [], ◌∷◌, ◌++◌, Ok, Err, refl, sym, ap, ◌∙◌, subst}
use Rattle.std.specs.List.{fold}
use Rattle.std.specs.Prelude.{Option, Some, None, IsTrue}
use Rattle.ch_model.specs.declared.entry.Entry.{Entry}
use Rattle.ch_model.specs.declared.entry.Entry.TheVariants as entries
use Rattle.ch_model.specs.declared.entry.Verdict.{Verdict}
use Rattle.ch_model.specs.declared.entry.Verdict.TheVariants as verdicts
use Rattle.ch_model.specs.declared.line.Line.{Line}
use Rattle.ch_model.specs.declared.line.What.{What}
use Rattle.ch_model.specs.declared.line.What.TheVariants as lines
use Rattle.ch_model.specs.HasAnswers.{is_of_done}
use Rattle.ch_model.specs.Logs.{last_of, or_else, some_and, each_after}
use Rattle.ch_model.specs.Marks.{line_numbered, done_by, is_mark, mark_of, current_line}
use Rattle.ch_model.specs.Settle.{Happened, settles, weight_of, from_start}
use Rattle.ch_model.specs.World.{◌>>=◌, world_new, event_step, world_step, line_answered, line_settled, log_from, log_of}
use Rattle.ch_model.specs.WorldHappenings.{Answered, joins, refuses, feeds, loses}
use Rattle.ch_model.specs.WorldLines.{can_join, can_refuse, can_feed, is_at_work, line_done}
use Rattle.ch_model.specs.WorldState.{World}
use Rattle.ch_laws_log.specs.Lines.{AreNumbered}
use Rattle.ch_laws_log.proofs.Blocks.{RefusedAlone, AnsweredAlone, Found, found_all, each_append}
use Rattle.ch_laws_log.proofs.Kept.{LedOn}
use Rattle.ch_laws_log.proofs.Marks.{Unmarked, AnsweredUnmarked, SettledUnmarked, both, done_unmarked, settled_unmarked}
use Rattle.ch_laws_log.proofs.OwnEntries.{alone_done, on_socket_alone, line_alone}
use Rattle.ch_laws_ends.proofs.Heard.{joins_done, refuses_done, feeds_done, loses_done}
use Rattle.ch_laws_ends.proofs.Lines.{step_sure, fresh_sure}
use Rattle.ch_laws_ends.proofs.Told.{Sure}

-- ---- what is no mark

pub both_hold : (a b : Bool) → a ≡ true → b ≡ true → (a && b) ≡ true
both_hold true true h g = refl
both_hold true false h g = g
both_hold false b h g = h

pub unmarked_parts : (x : Entry) (rest : List Entry) → Unmarked (x ∷ rest) → (is_mark x ≡ false) × Unmarked rest
unmarked_parts (entries.Line number answer) rest u = absurd cc
unmarked_parts x rest u = (refl, u)

-- what is no mark passes
each_unmarked : (test : List Entry → Entry → Bool) (journal : List Line) (what : What) → (log more : List Entry) → current_line journal log ≡ Some what → ((l : List Entry) (x : Entry) → current_line journal l ≡ Some what → is_mark x ≡ false → test l x ≡ true) → Unmarked more → each_after test log more ≡ true
each_unmarked test journal what log [] c holds u = refl
each_unmarked test journal what log (x ∷ more) c holds u = both_hold (test log x) (each_after test (log ++ x ∷ []) more) (holds log x c (unmarked_parts x more u).0)
    (each_unmarked test journal what (log ++ x ∷ []) more (still x (unmarked_parts x more u).0 ∙ c) holds (unmarked_parts x more u).1) where
      fold_end : {A B : Type 0} (f : B → A → B) (a : B) (xs : List A) (y : A) → fold f a (xs ++ y ∷ []) ≡ f (fold f a xs) y
      fold_end f a [] y = refl
      fold_end f a (z ∷ ys) y = fold_end f (f a z) ys y

      by_mark : Option Entry → Option What
      by_mark found = elim found [
        | None ↦ None
        | Some mark ↦ done_by journal mark
      ]

      no_mark : (y : Entry) → is_mark y ≡ false → mark_of y ≡ None
      no_mark (entries.Line number answer) e = absurd cc
      no_mark y e = refl

      still : (y : Entry) → is_mark y ≡ false → current_line journal (log ++ y ∷ []) ≡ current_line journal log
      still y e = ap by_mark (fold_end (λ found entry. or_else (mark_of entry) found) None log y ∙ ap (λ o. or_else o (last_of mark_of log)) (no_mark y e))

fold_end : {A B : Type 0} (f : B → A → B) (a : B) (xs : List A) (y : A) → fold f a (xs ++ y ∷ []) ≡ f (fold f a xs) y
fold_end f a [] y = refl
fold_end f a (z ∷ ys) y = fold_end f (f a z) ys y

by_mark : List Line → Option Entry → Option What
by_mark journal found = elim found [
  | None ↦ None
  | Some mark ↦ done_by journal mark
]

-- a line that was marked as done is the current one
done_now : (journal : List Line) (log : List Entry) (number : ℕ) → current_line journal (log ++ entries.Line number verdicts.Ok ∷ []) ≡ line_numbered journal number
unfolding by_mark
done_now journal log number = ap (by_mark journal) (fold_end (λ found entry. or_else (mark_of entry) found) None log (entries.Line number verdicts.Ok))

-- ---- each entry that is no mark stands after a line that was done

only_mark : (journal : List Line) (log : List Entry) (number : ℕ) (answer : Verdict) (more : List Entry) → more ≡ [] → each_after (is_of_done journal) log (entries.Line number answer ∷ more) ≡ true
only_mark journal log number answer more e = subst (λ (l : List Entry). each_after (is_of_done journal) log (entries.Line number answer ∷ l) ≡ true) (sym e) refl

done_passes : (journal : List Line) (log : List Entry) (number : ℕ) (what : What) (answer : Verdict) (more : List Entry) → line_numbered journal number ≡ Some what → Unmarked more → RefusedAlone answer more → each_after (is_of_done journal) log (entries.Line number answer ∷ more) ≡ true
done_passes journal log number what verdicts.Ok more found u r = each_unmarked (is_of_done journal) journal what (log ++ entries.Line number verdicts.Ok ∷ []) more (done_now journal log number ∙ found)
    (λ l x c e. ap (λ b. b || some_and (λ what. true) (current_line journal l)) e ∙ ap (λ (o : Option What). some_and (λ what. true) o) c) u
done_passes journal log number what verdicts.Unknown more found u r = only_mark journal log number verdicts.Unknown more r
done_passes journal log number what verdicts.Dead more found u r = only_mark journal log number verdicts.Dead more r
done_passes journal log number what verdicts.Hale more found u r = only_mark journal log number verdicts.Hale more r
done_passes journal log number what verdicts.Taken more found u r = only_mark journal log number verdicts.Taken more r
done_passes journal log number what verdicts.NoName more found u r = only_mark journal log number verdicts.NoName more r
done_passes journal log number what verdicts.NoRef more found u r = only_mark journal log number verdicts.NoRef more r
done_passes journal log number what verdicts.Empty more found u r = only_mark journal log number verdicts.Empty more r
done_passes journal log number what verdicts.Long more found u r = only_mark journal log number verdicts.Long more r
done_passes journal log number what verdicts.Full more found u r = only_mark journal log number verdicts.Full more r
done_passes journal log number what verdicts.Spent more found u r = only_mark journal log number verdicts.Spent more r
done_passes journal log number what verdicts.Nothing more found u r = only_mark journal log number verdicts.Nothing more r

abbrev Passes : List Line → List Entry → Happened → Type 0
Passes journal log (Ok done) = each_after (is_of_done journal) log done.0 ≡ true
Passes journal log (Err stop) = Unit {0}

answered_passes : (journal : List Line) (log : List Entry) (number : ℕ) (what : What) (done : Answered) → line_numbered journal number ≡ Some what → AnsweredUnmarked done → AnsweredAlone done → Passes journal log (line_answered number done)
answered_passes journal log number what (Ok done) found u r = done_passes journal log number what done.0.0 done.0.1 found u r
answered_passes journal log number what (Err stop) found u r = tt

settled_passes : (journal : List Line) (log : List Entry) (number : ℕ) (what : What) (world : World) (done : Option Happened) → line_numbered journal number ≡ Some what → SettledUnmarked done → Passes journal log (line_settled number world done)
settled_passes journal log number what world None found u = refl
settled_passes journal log number what world (Some (Ok done)) found u = done_passes journal log number what verdicts.Ok (done.0 ++ entries.Settled ∷ []) found (both done.0 (entries.Settled ∷ []) u refl) tt
settled_passes journal log number what world (Some (Err stop)) found u = tt

-- what a line does is told only where it is done
line_tells_alone : (journal : List Line) (log : List Entry) (what : What) (world : World) → Sure journal log world → AnsweredAlone (line_done what world)
line_tells_alone journal log (lines.Join sock) world s = on_socket_alone sock can_join joins world (λ socket is can. alone_done (joins socket world) (joins_done journal log world socket s is can))
line_tells_alone journal log (lines.Refuse sock) world s = on_socket_alone sock can_refuse refuses world (λ socket is can. alone_done (refuses socket world) (refuses_done journal log world socket s is can))
line_tells_alone journal log (lines.Feed sock end count) world s = on_socket_alone sock (can_feed end) (feeds end count) world (λ socket is can. alone_done (feeds end count socket world) (feeds_done journal log world end count socket s is can))
line_tells_alone journal log (lines.Lose sock end) world s = on_socket_alone sock (is_at_work end) (loses end) world (λ socket is can. alone_done (loses end socket world) (loses_done journal log world end socket s is can))
line_tells_alone journal log what world s = line_alone journal log what world refl s.ends.sorted.0

event_passes : (journal : List Line) (log : List Entry) (number : ℕ) (what : What) (world : World) → line_numbered journal number ≡ Some what → Sure journal log world → Passes journal log (event_step number what world)
event_passes journal log number lines.Settle world found s = settled_passes journal log number lines.Settle world (settles world) found (settled_unmarked (weight_of world) from_start world)
event_passes journal log number what world found s = answered_passes journal log number what (line_done what world) found (done_unmarked what world) (line_tells_alone journal log what world s)

step_passes : (journal : List Line) (log : List Entry) (number : ℕ) (what : What) (world : World) → line_numbered journal number ≡ Some what → Sure journal log world → Passes journal log (world_step world (record { number = number; what = what }))
step_passes journal log number (lines.Node name address unique) world found s = refl
step_passes journal log number (lines.Away name address unique) world found s = refl
step_passes journal log number (lines.Label node label) world found s = refl
step_passes journal log number (lines.Stranger name host) world found s = refl
step_passes journal log number what world found s = event_passes journal log number what world found s

all_pass : (journal rest : List Line) (log : List Entry) (world : World) → Found journal rest → Sure journal log world → Passes journal log (log_from world rest)
all_pass journal [] log world found s = refl
all_pass journal (line ∷ rest) log world found s = by_step (world_step world line) (step_passes journal log line.number line.what world found.0 s) (step_sure journal log world line.number line.what s) (λ l w more. all_pass journal rest l w found.1 more) where
  by_rest : (told : List Entry) (more : Happened) → each_after (is_of_done journal) log told ≡ true → Passes journal (log ++ told) more → Passes journal log (more >>= λ more. Ok (told ++ more.0, more.1))
  by_rest told (Ok more) p q = each_append (is_of_done journal) log told more.0 p q
  by_rest told (Err stop) p q = tt

  by_step : (one : Happened) → Passes journal log one → LedOn (Sure journal) log one → ((l : List Entry) (w : World) → Sure journal l w → Passes journal l (log_from w rest)) → Passes journal log (one >>= λ done. log_from done.1 rest >>= λ more. Ok (done.0 ++ more.0, more.1))
  by_step (Ok done) p s more = by_rest done.0 (log_from done.1 rest) p (more (log ++ done.0) done.1 s)
  by_step (Err stop) p s more = tt

pub all_alone : (least : ℕ) (journal : List Line) (log : List Entry) → AreNumbered least journal → log_of journal ≡ Ok log → IsTrue (each_after (is_of_done journal) [] log)
all_alone least journal log numbered is = by_log (log_from (world_new journal) journal) (all_pass journal journal [] (world_new journal) (found_all least journal numbered) (fresh_sure journal)) is where
  by_log : (done : Happened) → Passes journal [] done → (done >>= λ done. Ok done.0) ≡ Ok log → IsTrue (each_after (is_of_done journal) [] log)
  by_log (Ok done) p e = let same : done.0 ≡ log = cc in subst (λ (l : List Entry). each_after (is_of_done journal) [] l ≡ true) same p
  by_log (Err stop) p e = absurd cc
