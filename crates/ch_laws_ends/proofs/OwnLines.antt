-- Each line of a journal that feeds, or happens to a socket, has its own entry first where it is done.
use Rattle.std.proofs.Common.{◌≡◌, ℕ, Bool, true, false, not, ◌||◌, List, [], ◌∷◌, ◌++◌, Ok, Err, refl, sym, ap, ◌∙◌, subst, append_assoc}
use Rattle.std.proofs.lemmas.List.{append-nil}
use Rattle.std.specs.Prelude.{Option, Some, None, IsTrue}
use Rattle.ch_model.specs.declared.entry.Entry.{Entry}
use Rattle.ch_model.specs.declared.entry.Entry.TheVariants as entries
use Rattle.ch_model.specs.declared.entry.Verdict.{Verdict}
use Rattle.ch_model.specs.declared.entry.Verdict.TheVariants as verdicts
use Rattle.ch_model.specs.declared.line.Line.{Line}
use Rattle.ch_model.specs.declared.line.What.{What}
use Rattle.ch_model.specs.declared.line.What.TheVariants as lines
use Rattle.ch_model.specs.AnswersOwn.{is_own, has_own}
use Rattle.ch_model.specs.HasAnswers.{is_followed_by_own}
use Rattle.ch_model.specs.Logs.{some_and, next_is, each_between_after}
use Rattle.ch_model.specs.Marks.{line_numbered, is_mark}
use Rattle.ch_model.specs.Settle.{Happened, settles, weight_of, from_start}
use Rattle.ch_model.specs.World.{◌>>=◌, world_new, event_step, world_step, line_answered, line_settled, log_from}
use Rattle.ch_model.specs.WorldHappenings.{Answered}
use Rattle.ch_model.specs.WorldLines.{line_done}
use Rattle.ch_model.specs.WorldState.{World}
use Rattle.ch_laws_world.specs.Grows.{Numbered, Grows}
use Rattle.ch_laws_world.proofs.Journals.{step_grows, lines_grow}
use Rattle.ch_laws_world.proofs.Sockets.{AllGrow, onward}
use Rattle.ch_laws_log.specs.Agrees.{AllPlaced}
use Rattle.ch_laws_log.specs.Lines.{AreNumbered}
use Rattle.ch_laws_log.proofs.Blocks.{OwnFirst, AnsweredOwn, Found, found_all}
use Rattle.ch_laws_log.proofs.Kept.{LedOn, step_led}
use Rattle.ch_laws_log.proofs.Marks.{Unmarked, AnsweredUnmarked, SettledUnmarked, both, done_unmarked, settled_unmarked}
use Rattle.ch_laws_log.proofs.OwnEntries.{line_own}
use Rattle.ch_laws_log.proofs.Told.{any_line}
use Rattle.ch_laws_ends.specs.Lines.{begins_at_sockets, has_own_at_sockets}
use Rattle.ch_laws_ends.proofs.Alone.{both_hold, unmarked_parts}
use Rattle.ch_laws_ends.proofs.FedOwn.{feeds_own}
use Rattle.ch_laws_ends.proofs.Lines.{step_sure, fresh_sure}
use Rattle.ch_laws_ends.proofs.Mirrored.{WithCuts, keeps_cuts, no_cuts, opener_mirrored}
use Rattle.ch_laws_ends.proofs.SocketLines.{placed_before}
use Rattle.ch_laws_ends.proofs.Told.{Sure}

-- ---- marks and what follows them

abbrev PassesBetween : List Line → List Entry → Happened → Type 0
PassesBetween journal log (Ok done) = (after : List Entry) → each_between_after (has_own_at_sockets journal) (log ++ done.0) after ≡ true → each_between_after (has_own_at_sockets journal) log (done.0 ++ after) ≡ true
PassesBetween journal log (Err stop) = Unit {0}

-- what is no mark asks nothing of what follows
no_mark_passes : (journal : List Line) (log : List Entry) (x : Entry) (rest : List Entry) → is_mark x ≡ false → has_own_at_sockets journal log x rest ≡ true
no_mark_passes journal log (entries.Line number answer) rest e = absurd cc
no_mark_passes journal log x rest e = refl

skipped : (journal : List Line) (log more after : List Entry) → Unmarked more → each_between_after (has_own_at_sockets journal) (log ++ more) after ≡ true → each_between_after (has_own_at_sockets journal) log (more ++ after) ≡ true
skipped journal log [] after u h = subst (λ (l : List Entry). each_between_after (has_own_at_sockets journal) l after ≡ true) (append-nil log) h
skipped journal log (x ∷ more) after u h = both_hold (has_own_at_sockets journal log x (more ++ after)) (each_between_after (has_own_at_sockets journal) (log ++ x ∷ []) (more ++ after)) (no_mark_passes journal log x (more ++ after) (unmarked_parts x more u).0)
    (skipped journal (log ++ x ∷ []) more after (unmarked_parts x more u).1 (subst (λ (l : List Entry). each_between_after (has_own_at_sockets journal) l after ≡ true) (sym (append_assoc log (x ∷ []) more)) h))

still_next : (a : Bool) (p : Entry → Bool) (more after : List Entry) → (a || next_is p more) ≡ true → (a || next_is p (more ++ after)) ≡ true
still_next true p more after h = refl
still_next false p [] after h = absurd cc
still_next false p (x ∷ more) after h = h

marked_passes : (journal : List Line) (log : List Entry) (number : ℕ) (what : What) (answer : Verdict) (more after : List Entry) → line_numbered journal number ≡ Some what → (begins_at_sockets what ≡ true → OwnFirst journal log what answer more) → has_own_at_sockets journal log (entries.Line number answer) (more ++ after) ≡ true
marked_passes journal log number what verdicts.Ok more after found own = ap (some_and (λ (w : What). not (begins_at_sockets w) || is_followed_by_own journal log (more ++ after) w)) found ∙ by_test (begins_at_sockets what) own where
  by_test : (b : Bool) → (b ≡ true → (not (has_own log what) || next_is (is_own journal log what) more) ≡ true) → (not b || is_followed_by_own journal log (more ++ after) what) ≡ true
  by_test true own = still_next (not (has_own log what)) (is_own journal log what) more after (own refl)
  by_test false own = refl
marked_passes journal log number what verdicts.Unknown more after found own = refl
marked_passes journal log number what answer more after found own = refl

block_passes : (journal : List Line) (log : List Entry) (number : ℕ) (what : What) (answer : Verdict) (more after : List Entry) → line_numbered journal number ≡ Some what → Unmarked more → (begins_at_sockets what ≡ true → OwnFirst journal log what answer more)
    → each_between_after (has_own_at_sockets journal) (log ++ entries.Line number answer ∷ more) after ≡ true → each_between_after (has_own_at_sockets journal) log (entries.Line number answer ∷ more ++ after) ≡ true
block_passes journal log number what answer more after found u own h = both_hold (has_own_at_sockets journal log (entries.Line number answer) (more ++ after)) (each_between_after (has_own_at_sockets journal) (log ++ entries.Line number answer ∷ []) (more ++ after))
    (marked_passes journal log number what answer more after found own)
    (skipped journal (log ++ entries.Line number answer ∷ []) more after u (subst (λ (l : List Entry). each_between_after (has_own_at_sockets journal) l after ≡ true) (sym (append_assoc log (entries.Line number answer ∷ []) more)) h))

answered_between : (journal : List Line) (log : List Entry) (number : ℕ) (what : What) (done : Answered) → line_numbered journal number ≡ Some what → AnsweredUnmarked done → (begins_at_sockets what ≡ true → AnsweredOwn journal log what done) → PassesBetween journal log (line_answered number done)
answered_between journal log number what (Ok done) found u own = λ after h. block_passes journal log number what done.0.0 done.0.1 after found u own h
answered_between journal log number what (Err stop) found u own = tt

settled_between : (journal : List Line) (log : List Entry) (number : ℕ) (world : World) (done : Option Happened) → line_numbered journal number ≡ Some lines.Settle → SettledUnmarked done → PassesBetween journal log (line_settled number world done)
settled_between journal log number world None found u = λ after h. block_passes journal log number lines.Settle verdicts.Ok [] after found refl (λ of. refl) h
settled_between journal log number world (Some (Ok done)) found u = λ after h. block_passes journal log number lines.Settle verdicts.Ok (done.0 ++ entries.Settled ∷ []) after found (both done.0 (entries.Settled ∷ []) u refl) (λ of. refl) h
settled_between journal log number world (Some (Err stop)) found u = tt

-- ---- lines

line_begins : (journal : List Line) (log : List Entry) (what : What) (world : World) → begins_at_sockets what ≡ true → Sure journal log world → WithCuts journal log world → AllPlaced journal world → AnsweredOwn journal log what (line_done what world)
line_begins journal log (lines.Feed s e count) world of sure cuts placed = feeds_own journal log world s e count sure placed (λ socket found. opener_mirrored journal log world s socket cuts.1 sure found)
line_begins journal log what world of sure cuts placed = line_own journal log what world of sure.ends.sorted.0

event_between : (journal : List Line) (log : List Entry) (number : ℕ) (what : What) (world : World) → line_numbered journal number ≡ Some what → Sure journal log world → WithCuts journal log world → AllPlaced journal world → PassesBetween journal log (event_step number what world)
event_between journal log number lines.Settle world found sure cuts placed = settled_between journal log number world (settles world) found (settled_unmarked (weight_of world) from_start world)
event_between journal log number what world found sure cuts placed = answered_between journal log number what (line_done what world) found (done_unmarked what world) (λ of. line_begins journal log what world of sure cuts placed)

nothing_between : (journal : List Line) (log after : List Entry) → each_between_after (has_own_at_sockets journal) (log ++ []) after ≡ true → each_between_after (has_own_at_sockets journal) log after ≡ true
nothing_between journal log after h = subst (λ (l : List Entry). each_between_after (has_own_at_sockets journal) l after ≡ true) (append-nil log) h

step_between : (journal : List Line) (log : List Entry) (number : ℕ) (what : What) (world : World) → line_numbered journal number ≡ Some what → Sure journal log world → WithCuts journal log world → AllPlaced journal world → PassesBetween journal log (world_step world (record { number = number; what = what }))
step_between journal log number (lines.Node name address unique) world found sure cuts placed = nothing_between journal log
step_between journal log number (lines.Away name address unique) world found sure cuts placed = nothing_between journal log
step_between journal log number (lines.Label node label) world found sure cuts placed = nothing_between journal log
step_between journal log number (lines.Stranger name host) world found sure cuts placed = nothing_between journal log
step_between journal log number what world found sure cuts placed = event_between journal log number what world found sure cuts placed

-- where the ends are placed in the end, the lines begin so
abbrev Begins : List Line → List Entry → Happened → Type 0
Begins journal log (Ok done) = AllPlaced journal done.1 → PassesBetween journal log (Ok done)
Begins journal log (Err stop) = Unit {0}

all_begin : (journal rest : List Line) (log : List Entry) (world : World) → Found journal rest → Sure journal log world → WithCuts journal log world → Numbered world.sockets → Begins journal log (log_from world rest)
all_begin journal [] log world found s c n = λ placed. nothing_between journal log
all_begin journal (line ∷ rest) log world found s c n =
    by_step (world_step world line) refl (step_sure journal log world line.number line.what s) (step_led (WithCuts journal) (keeps_cuts journal) log world line.number line.what (any_line line.what) c) (step_grows world line n) (all_begin journal rest) where
      More : Type 0
      More = (l : List Entry) (w : World) → Found journal rest → Sure journal l w → WithCuts journal l w → Numbered w.sockets → Begins journal l (log_from w rest)

      joined : (done more : List Entry × World) → PassesBetween journal log (Ok done) → PassesBetween journal (log ++ done.0) (Ok more) → PassesBetween journal log (Ok (done.0 ++ more.0, more.1))
      joined done more p q = λ after h. subst (λ (l : List Entry). each_between_after (has_own_at_sockets journal) log l ≡ true) (sym (append_assoc done.0 more.0 after))
          (p (more.0 ++ after) (q after (subst (λ (l : List Entry). each_between_after (has_own_at_sockets journal) l after ≡ true) (sym (append_assoc log done.0 more.0)) h)))

      by_rest : (done : List Entry × World) (more : Happened) → world_step world line ≡ Ok done → Grows world done.1 → AllGrow done.1 more → Begins journal (log ++ done.0) more → Begins journal log (more >>= λ more. Ok (done.0 ++ more.0, more.1))
      by_rest done (Ok more) is g h a = λ placed. joined done more
          (subst (λ (d : Happened). PassesBetween journal log d) is (step_between journal log line.number line.what world found.0 s c (placed_before journal world more.1 (onward world done.1 more.1 g h) placed))) (a placed)
      by_rest done (Err stop) is g h a = tt

      by_step : (one : Happened) → world_step world line ≡ one → LedOn (Sure journal) log one → LedOn (WithCuts journal) log one → AllGrow world one → More → Begins journal log (one >>= λ done. log_from done.1 rest >>= λ more. Ok (done.0 ++ more.0, more.1))
      by_step (Ok done) is s c g more = by_rest done (log_from done.1 rest) is g (lines_grow done.1 rest g.numbered) (more (log ++ done.0) done.1 found.1 s c g.numbered)
      by_step (Err stop) is s c g more = tt

pub sockets_begin : (least : ℕ) (journal : List Line) (log : List Entry) (world : World) → AreNumbered least journal → log_from (world_new journal) journal ≡ Ok (log, world) → AllPlaced journal world → IsTrue (each_between_after (has_own_at_sockets journal) [] log)
sockets_begin least journal log world numbered is placed = by_log (log_from (world_new journal) journal) (all_begin journal journal [] (world_new journal) (found_all least journal numbered) (fresh_sure journal) (no_cuts journal) tt) is where
  by_log : (done : Happened) → Begins journal [] done → done ≡ Ok (log, world) → IsTrue (each_between_after (has_own_at_sockets journal) [] log)
  by_log done a e = subst (λ (l : List Entry). each_between_after (has_own_at_sockets journal) [] l ≡ true) (append-nil log) (subst (λ (d : Happened). Begins journal [] d) e a placed [] refl)
