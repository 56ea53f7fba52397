-- The lines of many nodes whose answer shows from who acts alone are answered as the log before them shows.
use Rattle.std.proofs.Common.{◌≡◌, Bool, true, false, not, ◌&&◌, ◌||◌, List, [], ◌∷◌, ◌++◌, Ok, Err, refl, sym, ap, ◌∙◌, subst, append_assoc}
use Rattle.std.proofs.lemmas.List.{append-nil}
use Rattle.std.proofs.lemmas.Bool.{and_parts}
use Rattle.std.specs.Prelude.{ℕ, Option, Some}
use Rattle.ch_model.specs.declared.entry.Entry.{Entry}
use Rattle.ch_model.specs.declared.entry.Entry.TheVariants as entries
use Rattle.ch_model.specs.declared.entry.Verdict.{Verdict}
use Rattle.ch_model.specs.declared.entry.Verdict.TheVariants as verdicts
use Rattle.ch_model.specs.declared.line.Line.{Line}
use Rattle.ch_model.specs.declared.line.What.{What}
use Rattle.ch_model.specs.declared.line.What.TheVariants as lines
use Rattle.ch_model.specs.declared.name.TargetName.TheVariants as targets
use Rattle.ch_model.specs.Answers.{answer_to}
use Rattle.ch_model.specs.HasAnswers.{same_answer}
use Rattle.ch_model.specs.Logs.{some_and, each_after, each_between_after}
use Rattle.ch_model.specs.Marks.{line_numbered}
use Rattle.ch_model.specs.Settle.{Happened}
use Rattle.ch_model.specs.World.{◌>>=◌, names_of, nodes_of, first_of_hosts, world_new, world_step, line_answered, log_from, log_of}
use Rattle.ch_model.specs.WorldHappenings.{Answered}
use Rattle.ch_model.specs.WorldLines.{line_done}
use Rattle.ch_model.specs.WorldState.{Named, World}
use Rattle.ch_laws_world.proofs.Journals.{step_grows, grown}
use Rattle.ch_laws_log.specs.Declared.{is_declared}
use Rattle.ch_laws_log.specs.Lines.{AllLines}
use Rattle.ch_laws_log.proofs.Blocks.{Found, found_all}
use Rattle.ch_laws_log.proofs.Kept.{LedOn}
use Rattle.ch_laws_log.proofs.Marks.{Unmarked, AnsweredUnmarked, done_unmarked}
use Rattle.ch_laws_many.specs.ManyLines.{is_of_many, AreNamedApart}
use Rattle.ch_laws_many.proofs.Addresses.{fresh_homed}
use Rattle.ch_laws_many.proofs.Answering.{AnsweredAs, answers_of_marks}
use Rattle.ch_laws_many.proofs.Awake.{StaysOn, step_stays}
use Rattle.ch_laws_many.proofs.Following.{AreStill, still_open, RestStill, AnsweredRest, line_rest}
use Rattle.ch_laws_many.proofs.Led.{GoesOn, step_goes}
use Rattle.ch_laws_many.proofs.Reached.{IsJournal, AreOpen, open_both, named, Test, Passes, MarkPasses, unmarked_parts, as_each}
use Rattle.ch_laws_lives.proofs.WorldLives as world_lives
use Rattle.ch_laws_acting.specs.Logs.{is_of_lives, is_answered_by_lives}
use Rattle.ch_laws_acting.proofs.Ends.{Ready, end_answered, take_refused}
use Rattle.ch_laws_acting.proofs.Sends.{send_answered}
use Rattle.ch_laws_acting.proofs.WorldRests.{LivedOn, fresh_alive, step_lives}

-- ---- what a journal reaches

fresh_ready : (journal : List Line) → IsJournal journal → AreNamedApart (names_of journal) → Ready journal [] (world_new journal)
fresh_ready journal j apart = record {
  set = record { names = refl; homed = fresh_homed journal (named journal j); numbered = tt; led = λ s socket e. absurd cc };
  homes = refl;
  seats = refl;
  unshut = tt;
  lives = world_lives.fresh_alive journal apart;
  rests = fresh_alive journal j.apart apart;
}

abbrev HappenedOpen : Happened → Type 0
HappenedOpen (Ok done) = AreOpen done.0
HappenedOpen (Err stop) = Unit {0}

all_open : (xs : List Entry) → AreStill xs → AreOpen xs
all_open [] s = tt
all_open (x ∷ xs) s = (still_open x s.0, all_open xs s.1)

answered_open : (number : ℕ) (done : Answered) → AnsweredRest done → HappenedOpen (line_answered number done)
answered_open number (Ok done) s = (refl, rest_open done.0.1 s) where
  rest_open : (xs : List Entry) → RestStill xs → AreOpen xs
  rest_open [] s = tt
  rest_open (x ∷ xs) s = (s.0, all_open xs s.1)
answered_open number (Err stop) s = tt

step_open : (known : List Named) (number : ℕ) (what : What) (world : World) → is_of_many known what ≡ true → HappenedOpen (world_step world (record { number = number; what = what }))
step_open known number (lines.Node name address unique) world of = tt
step_open known number (lines.Away name address unique) world of = absurd cc
step_open known number (lines.Label node label) world of = absurd cc
step_open known number (lines.Stranger name host) world of = absurd cc
step_open known number lines.Settle world of = absurd cc
step_open known number what world of = answered_open number (line_done what world) (line_rest known what world of)

ready_kept : (journal : List Line) → IsJournal journal → (log : List Entry) (world : World) (number : ℕ) (what : What) → is_of_many (names_of journal) what ≡ true → Ready journal log world → LedOn (Ready journal) log (world_step world (record { number = number; what = what }))
ready_kept journal j log world number what of r = by_done (world_step world (record { number = number; what = what })) refl (step_goes (names_of journal) (named journal j) number what world of r.set) (step_stays (names_of journal) number what world of) (step_open (names_of journal) number what world of)
    (world_lives.step_lives (names_of journal) log number what world of r.lives) (step_lives (names_of journal) (first_of_hosts [] (nodes_of journal)) log number what world of r.rests) where
      by_done : (done : Happened) → world_step world (record { number = number; what = what }) ≡ done → GoesOn (names_of journal) done → StaysOn world done → HappenedOpen done → world_lives.LivedOn (names_of journal) log done → LivedOn (names_of journal) (first_of_hosts [] (nodes_of journal)) log done → LedOn (Ready journal) log done
      by_done (Ok done) is g t o l m = record {
        set = g.1;
        homes = (grown world done.1 done.0 (world_step world (record { number = number; what = what })) (step_grows world (record { number = number; what = what }) r.set.numbered) is).homes ∙ r.homes;
        seats = t ∙ r.seats;
        unshut = open_both log done.0 r.unshut o;
        lives = l;
        rests = m;
      }
      by_done (Err stop) is g t o l m = tt

-- ---- each line passes

-- the test, which asks nothing of what follows
abbrev by_lives : List Line → Test
by_lives journal log x rest = is_answered_by_lives journal log x

both_hold : (a b : Bool) → a ≡ true → b ≡ true → (a && b) ≡ true
both_hold true true h g = refl
both_hold true false h g = g
both_hold false b h g = h

nothing_passes : (journal : List Line) (log after : List Entry) → each_between_after (by_lives journal) (log ++ []) after ≡ true → each_between_after (by_lives journal) log after ≡ true
nothing_passes journal log after h = subst (λ (l : List Entry). each_between_after (by_lives journal) l after ≡ true) (append-nil log) h

skipped : (journal : List Line) (log more after : List Entry) → Unmarked more → each_between_after (by_lives journal) (log ++ more) after ≡ true → each_between_after (by_lives journal) log (more ++ after) ≡ true
skipped journal log [] after u h = nothing_passes journal log after h
skipped journal log (x ∷ more) after u h = both_hold (is_answered_by_lives journal log x) (each_between_after (by_lives journal) (log ++ x ∷ []) (more ++ after)) (answers_of_marks journal (is_of_lives log) log x (more ++ after) (unmarked_parts x more u).0)
    (skipped journal (log ++ x ∷ []) more after (unmarked_parts x more u).1 (subst (λ (l : List Entry). each_between_after (by_lives journal) l after ≡ true) (sym (append_assoc log (x ∷ []) more)) h))

answered_pass : (journal : List Line) (log : List Entry) (number : ℕ) (done : Answered) → AnsweredUnmarked done → MarkPasses (by_lives journal) log number done → Passes (by_lives journal) log (line_answered number done)
answered_pass journal log number (Ok done) u m = λ after h. both_hold (is_answered_by_lives journal log (entries.Line number done.0.0)) (each_between_after (by_lives journal) (log ++ entries.Line number done.0.0 ∷ []) (done.0.1 ++ after)) (m after)
    (skipped journal (log ++ entries.Line number done.0.0 ∷ []) done.0.1 after u (subst (λ (l : List Entry). each_between_after (by_lives journal) l after ≡ true) (sym (append_assoc log (entries.Line number done.0.0 ∷ []) done.0.1)) h))
answered_pass journal log number (Err stop) u m = tt

same_self : (v : Verdict) → same_answer v v ≡ true
same_self verdicts.Ok = refl
same_self verdicts.Unknown = refl
same_self verdicts.Dead = refl
same_self verdicts.Hale = refl
same_self verdicts.Taken = refl
same_self verdicts.NoName = refl
same_self verdicts.NoRef = refl
same_self verdicts.Empty = refl
same_self verdicts.Long = refl
same_self verdicts.Full = refl
same_self verdicts.Spent = refl
same_self verdicts.Nothing = refl

mark_passes : (journal : List Line) (log : List Entry) (number : ℕ) (what : What) → line_numbered journal number ≡ Some what → (b : Bool) → is_of_lives log what ≡ b → (done : Answered) → (b ≡ true → AnsweredAs journal log what done) → MarkPasses (by_lives journal) log number done
mark_passes journal log number what found b is (Ok done) so = λ after. ap (λ (o : Option What). not (some_and (is_of_lives log) o) || some_and (λ w. same_answer done.0.0 (answer_to journal log w)) o) found ∙ ap (λ c. not c || same_answer done.0.0 (answer_to journal log what)) is ∙ by_such b so where
  by_such : (c : Bool) → (c ≡ true → done.0.0 ≡ answer_to journal log what) → (not c || same_answer done.0.0 (answer_to journal log what)) ≡ true
  by_such false so = refl
  by_such true so = ap (λ (v : Verdict). same_answer done.0.0 v) (sym (so refl)) ∙ same_self done.0.0
mark_passes journal log number what found b is (Err stop) so = tt

one_answered : (journal : List Line) → IsJournal journal → (log : List Entry) (what : What) (world : World) → is_of_many (names_of journal) what ≡ true → Ready journal log world → is_of_lives log what ≡ true → AnsweredAs journal log what (line_done what world)
one_answered journal j log (lines.Send by (targets.Process to) mark body) world of r e = send_answered journal j log world by to mark body (and_parts (is_declared (names_of journal) by.node) (is_declared (names_of journal) to.node) of).0 r e
one_answered journal j log (lines.Recv by mark) world of r e = take_refused journal j log world by mark of e r
one_answered journal j log (lines.End by) world of r e = end_answered journal j log world by of r
one_answered journal j log what world of r e = absurd cc

step_passes : (journal : List Line) → IsJournal journal → (log : List Entry) (number : ℕ) (what : What) (world : World) → is_of_many (names_of journal) what ≡ true → line_numbered journal number ≡ Some what → Ready journal log world → Passes (by_lives journal) log (world_step world (record { number = number; what = what }))
step_passes journal j log number (lines.Node name address unique) world of found r = nothing_passes journal log
step_passes journal j log number (lines.Away name address unique) world of found r = absurd cc
step_passes journal j log number (lines.Label node label) world of found r = absurd cc
step_passes journal j log number (lines.Stranger name host) world of found r = absurd cc
step_passes journal j log number lines.Settle world of found r = absurd cc
step_passes journal j log number what world of found r = answered_pass journal log number (line_done what world) (done_unmarked what world) (mark_passes journal log number what found (is_of_lives log what) refl (line_done what world) (λ e. one_answered journal j log what world of r e))

all_pass : (journal : List Line) → IsJournal journal → (rest : List Line) (log : List Entry) (world : World) → Found journal rest → AllLines (is_of_many (names_of journal)) rest → Ready journal log world → Passes (by_lives journal) log (log_from world rest)
all_pass journal j [] log world found of r = nothing_passes journal log
all_pass journal j (line ∷ rest) log world found of r =
    by_step (world_step world line) (step_passes journal j log line.number line.what world of.0 found.0 r) (ready_kept journal j log world line.number line.what of.0 r) (λ l w h. all_pass journal j rest l w found.1 of.1 h) where
      by_rest : (told : List Entry) (w : World) (more : Happened) → Passes (by_lives journal) log (Ok (told, w)) → Passes (by_lives journal) (log ++ told) more → Passes (by_lives journal) log (more >>= λ more. Ok (told ++ more.0, more.1))
      by_rest told w (Ok more) p q = λ after h. subst (λ (l : List Entry). each_between_after (by_lives journal) log l ≡ true) (sym (append_assoc told more.0 after))
          (p (more.0 ++ after) (q after (subst (λ (l : List Entry). each_between_after (by_lives journal) l after ≡ true) (sym (append_assoc log told more.0)) h)))
      by_rest told w (Err stop) p q = tt

      by_step : (one : Happened) → Passes (by_lives journal) log one → LedOn (Ready journal) log one → ((l : List Entry) (w : World) → Ready journal l w → Passes (by_lives journal) l (log_from w rest)) → Passes (by_lives journal) log (one >>= λ done. log_from done.1 rest >>= λ more. Ok (done.0 ++ more.0, more.1))
      by_step (Ok done) p g more = by_rest done.0 done.1 (log_from done.1 rest) p (more (log ++ done.0) done.1 g)
      by_step (Err stop) p g more = tt

pub all_answered : (journal : List Line) → IsJournal journal → AreNamedApart (names_of journal) → (log : List Entry) → log_of journal ≡ Ok log → each_after (is_answered_by_lives journal) [] log ≡ true
all_answered journal j apart log is = sym (as_each (is_answered_by_lives journal) [] log) ∙ by_log (log_from (world_new journal) journal) (all_pass journal j journal [] (world_new journal) (found_all 1 journal j.numbered) j.lines (fresh_ready journal j apart)) is where
  by_log : (done : Happened) → Passes (by_lives journal) [] done → (done >>= λ done. Ok done.0) ≡ Ok log → each_between_after (by_lives journal) [] log ≡ true
  by_log (Ok done) p e = let same : done.0 ≡ log = cc in subst (λ (l : List Entry). each_between_after (by_lives journal) [] l ≡ true) (append-nil done.0 ∙ same) (p [] refl)
  by_log (Err stop) p e = absurd cc
