-- All that happens in a journal of many nodes keeps what each turn keeps.
use Rattle.std.specs.Prelude.{◌≡◌, ℕ, true, List, [], ◌∷◌, ◌++◌, Some, Ok, Err}
use Rattle.std.proofs.Common.{sym, subst, append_assoc}
use Rattle.ch_model.specs.declared.entry.Entry.{Entry}
use Rattle.ch_model.specs.declared.entry.Entry.TheVariants as entries
use Rattle.ch_model.specs.declared.entry.Verdict.{Verdict}
use Rattle.ch_model.specs.declared.line.Line.{Line}
use Rattle.ch_model.specs.declared.line.What.{What}
use Rattle.ch_model.specs.declared.line.What.TheVariants as lines
use Rattle.ch_model.specs.Marks.{line_numbered}
use Rattle.ch_model.specs.Settle.{Happened}
use Rattle.ch_model.specs.World.{◌>>=◌, names_of, world_new, world_step, line_answered, log_from}
use Rattle.ch_model.specs.WorldHappenings.{Answered}
use Rattle.ch_model.specs.WorldLines.{line_done}
use Rattle.ch_model.specs.WorldState.{World}
use Rattle.ch_laws_log.specs.Lines.{AllLines}
use Rattle.ch_laws_log.proofs.Blocks.{Found, found_all}
use Rattle.ch_laws_log.proofs.Kept.{Led, LedOn}
use Rattle.ch_laws_ends.proofs.Lines.{step_sure}
use Rattle.ch_laws_ends.proofs.Told.{Sure}
use Rattle.ch_laws_many.specs.ManyLines.{is_of_many}
use Rattle.ch_laws_many.proofs.Reached.{IsJournal}
use Rattle.ch_laws_calls.specs.Calls.{Claim, Anything, Both, AllRead, KeepsCalls}
use Rattle.ch_laws_calls.proofs.Happen.{WithRead, nothing_told}
use Rattle.ch_laws_calls.proofs.Lines.{Reaches, step_led, both_led, of_front, fresh_reaches}
use Rattle.ch_laws_calls.proofs.Together as calls
use Rattle.ch_laws_calls.specs.Turns.{KeepsTurns}
use Rattle.ch_laws_calls.proofs.TurnsHappen.{line_led}
use Rattle.ch_laws_calls.proofs.TurnsOfCalls.{silent, by_calls}
use Rattle.ch_laws_calls.proofs.TurnsTogether.{weaker, alike, given_first, given_with, while_given}

-- ---- one line

-- a line's mark comes first
mark_first : (J : Claim) (number : ℕ) (log : List Entry) (done : Answered) → ((answer : Verdict) → Led J (log ++ entries.Line number answer ∷ []) done) → LedOn J log (line_answered number done)
mark_first J number log (Ok done) each = subst (λ (l : List Entry). J l done.1) (append_assoc log (entries.Line number done.0.0 ∷ []) done.0.1) (each done.0.0)
mark_first J number log (Err stop) each = tt

module _ (journal : List Line) (J : Claim) (t : KeepsTurns journal Anything Anything J) where
  event_turns : (number : ℕ) (what : What) (log : List Entry) (world : World) → line_numbered journal number ≡ Some what → is_of_many (names_of journal) what ≡ true → Sure journal log world → AllRead world → J log world
      → LedOn J log (line_answered number (line_done what world))
  event_turns number what log world found of s read j = mark_first J number log (line_done what world)
      (λ answer. line_led journal J t log (log ++ entries.Line number answer ∷ []) world s read (t.marked log world number what answer found of tt j tt) what of)

  step_turns : (number : ℕ) (what : What) (log : List Entry) (world : World) → line_numbered journal number ≡ Some what → is_of_many (names_of journal) what ≡ true → Sure journal log world → AllRead world → J log world
      → LedOn J log (world_step world (record { number = number; what = what }))
  step_turns number (lines.Node name address unique) log world found of s read j = nothing_told J log world j
  step_turns number (lines.Away name address unique) log world found of s read j = absurd cc
  step_turns number (lines.Label node label) log world found of s read j = absurd cc
  step_turns number (lines.Stranger name host) log world found of s read j = absurd cc
  step_turns number lines.Settle log world found of s read j = absurd cc
  step_turns number what log world found of s read j = event_turns number what log world found of s read j

-- ---- all lines

-- what the lines of a journal reach by their calls
abbrev Calm : List Line → Claim
Calm journal = Reaches journal Anything

step_calm : (journal : List Line) (line : Line) (log : List Entry) (world : World) → is_of_many (names_of journal) line.what ≡ true → Calm journal log world → LedOn (Calm journal) log (world_step world line)
step_calm journal line log world of r = both_led (WithRead Anything) (Sure journal) log (world_step world line) (step_led journal Anything (silent journal) (names_of journal) line.number line.what log world of r.1 r.0) (step_sure journal log world line.number line.what r.1)

lines_turn : (journal : List Line) (J : Claim) → KeepsTurns journal Anything Anything J → (rest : List Line) (log : List Entry) (world : World) → Found journal rest → AllLines (is_of_many (names_of journal)) rest → Both J (Calm journal) log world
    → LedOn (Both J (Calm journal)) log (log_from world rest)
lines_turn journal J t [] log world found of r = nothing_told (Both J (Calm journal)) log world r
lines_turn journal J t (line ∷ rest) log world found of r = by_step (world_step world line)
    (both_led J (Calm journal) log (world_step world line) (step_turns journal J t line.number line.what log world found.0 of.0 r.1.1 r.1.0.1 r.0) (step_calm journal line log world of.0 r.1))
    (λ l w now. lines_turn journal J t rest l w found.1 of.1 now) where
      by_rest : (told : List Entry) (more : Happened) → LedOn (Both J (Calm journal)) (log ++ told) more → LedOn (Both J (Calm journal)) log (more >>= λ more. Ok (told ++ more.0, more.1))
      by_rest told (Ok more) l = subst (λ (all : List Entry). Both J (Calm journal) all more.1) (append_assoc log told more.0) l
      by_rest told (Err stop) l = tt

      by_step : (one : Happened) → LedOn (Both J (Calm journal)) log one → ((l : List Entry) (w : World) → Both J (Calm journal) l w → LedOn (Both J (Calm journal)) l (log_from w rest))
          → LedOn (Both J (Calm journal)) log (one >>= λ done. log_from done.1 rest >>= λ more. Ok (done.0 ++ more.0, more.1))
      by_step (Ok done) a more = by_rest done.0 (log_from done.1 rest) (more (log ++ done.0) done.1 a)
      by_step (Err stop) a more = tt

found_front : (journal front rest : List Line) → Found journal (front ++ rest) → Found journal front
found_front journal [] rest all = tt
found_front journal (line ∷ front) rest all = (all.0, found_front journal front rest all.1)

-- ---- after some lines

-- what each turn keeps holds after any first lines of a journal of many nodes
pub all_turns : (journal : List Line) → IsJournal journal → (J : Claim) → KeepsTurns journal Anything Anything J → J [] (world_new journal) → (front rest : List Line) → front ++ rest ≡ journal → (log : List Entry) (world : World) → log_from (world_new journal) front ≡ Ok (log, world) → J log world
all_turns journal is J t j front rest whole log world e = by_log (log_from (world_new journal) front)
    (lines_turn journal J t front [] (world_new journal) (found_front journal front rest (subst (Found journal) (sym whole) (found_all 1 journal is.numbered)))
    (of_front (is_of_many (names_of journal)) front rest (subst (AllLines (is_of_many (names_of journal))) (sym whole) is.lines)) (j, fresh_reaches journal Anything tt)) e where
      by_log : (done : Happened) → LedOn (Both J (Calm journal)) [] done → done ≡ Ok (log, world) → J log world
      by_log done l e = (subst (LedOn (Both J (Calm journal)) []) e l).0

-- What each call keeps is so at each moment: it may be given before each turn and after it.
pub turns_kept : (journal : List Line) → IsJournal journal → (S J : Claim) → KeepsCalls journal Anything Anything S → S [] (world_new journal) → KeepsTurns journal S S J → J [] (world_new journal)
    → (front rest : List Line) → front ++ rest ≡ journal → (log : List Entry) (world : World) → log_from (world_new journal) front ≡ Ok (log, world) → Both S J log world
turns_kept journal is S J k s t j = all_turns journal is (Both S J) (given_first (by_calls journal S k) t) (s, j)

-- what each call keeps where something is so of the log before and after, which was so of all that the log began with
while_calls : (journal : List Line) (P : List Entry → Type 0) → ((one two : List Entry) → P (one ++ two) → P one) → (S : Claim) → KeepsCalls journal (λ log world. P log) (λ log world. P log) S → KeepsTurns journal (λ log world. P log) (λ log world. P log) S
while_calls journal P cut S k = alike (λ log world p s now. s) (λ log world p s. s p) (weaker (λ log world p. tt) (λ log world p. tt) (by_calls journal (λ log world. P log → S log world) (calls.while_given cut k)))

-- Then both are kept where that is so, and hold where that is so in the end.
pub turns_kept_given : (journal : List Line) → IsJournal journal → (P : List Entry → Type 0) → ((one two : List Entry) → P (one ++ two) → P one) → (S J : Claim) → KeepsCalls journal (λ log world. P log) (λ log world. P log) S → S [] (world_new journal)
    → KeepsTurns journal (Both S (λ log world. P log)) (Both S (λ log world. P log)) J → J [] (world_new journal)
    → (front rest : List Line) → front ++ rest ≡ journal → (log : List Entry) (world : World) → log_from (world_new journal) front ≡ Ok (log, world) → P log → Both S J log world
turns_kept_given journal is P cut S J k s t j = all_turns journal is (λ log world. P log → Both S J log world) (while_given cut (given_with (while_calls journal P cut S k) t)) (λ p. (s, j))
