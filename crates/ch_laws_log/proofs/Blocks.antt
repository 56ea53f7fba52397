-- The log of some lines, line by line: each line's mark, and what it did.
use Rattle.std.proofs.Common.{◌≡◌, ℕ, ◌+◌, ◌≤◌, Bool, true, false, cond, not, ◌&&◌, ◌||◌, List, [], ◌∷◌, ◌++◌, Ok, Err, refl, sym, ap, ◌∙◌, subst, append_assoc, arith}
use Rattle.std.proofs.lemmas.Bool.{ne_eqb, eq-eqb}
use Rattle.std.proofs.lemmas.List.{append-nil}
use Rattle.std.specs.List.{fold}
use Rattle.std.specs.Option.{option_map}
use Rattle.std.specs.Prelude.{find, Option, Some, None, IsTrue, ◌==◌}
use Rattle.ch_model.specs.declared.entry.Entry.{Entry}
use Rattle.ch_model.specs.declared.entry.Entry.TheVariants as entries
use Rattle.ch_model.specs.declared.entry.Verdict.{Verdict}
use Rattle.ch_model.specs.declared.entry.Verdict.TheVariants as verdicts
use Rattle.ch_model.specs.declared.line.Line.{Line}
use Rattle.ch_model.specs.declared.line.What.{What}
use Rattle.ch_model.specs.declared.line.What.TheVariants as lines
use Rattle.ch_model.specs.AnswersOwn.{is_own, has_own}
use Rattle.ch_model.specs.HasAnswers.{is_of_done, is_followed_by_own, has_own_first}
use Rattle.ch_model.specs.Logs.{last_of, or_else, some_and, next_is, each_after, each_between_after}
use Rattle.ch_model.specs.Marks.{line_numbered, done_by, is_mark, mark_of, current_line}
use Rattle.ch_model.specs.Settle.{Happened, settles, weight_of, from_start}
use Rattle.ch_model.specs.World.{◌>>=◌, world_new, event_step, world_step, line_answered, line_settled, log_from, log_of}
use Rattle.ch_model.specs.WorldHappenings.{Answered}
use Rattle.ch_model.specs.WorldLines.{line_done}
use Rattle.ch_model.specs.WorldState.{World}
use Rattle.ch_laws_log.specs.Lines.{AllLines, AreNumbered}
use Rattle.ch_laws_log.proofs.Agreeing.{Good, keeps_good}
use Rattle.ch_laws_log.proofs.Kept.{LedOn, step_led}
use Rattle.ch_laws_log.proofs.Marks.{Unmarked, AnsweredUnmarked, SettledUnmarked, both, done_unmarked, settled_unmarked}
use Rattle.ch_laws_log.proofs.Told.{fresh, any_line}

-- ---- what is no mark

both_hold : (a b : Bool) → a ≡ true → b ≡ true → (a && b) ≡ true
both_hold true true h g = refl
both_hold true false h g = g
both_hold false b h g = h

unmarked_parts : (x : Entry) (rest : List Entry) → Unmarked (x ∷ rest) → (is_mark x ≡ false) × Unmarked rest
unmarked_parts (entries.Line number answer) rest u = absurd cc
unmarked_parts x rest u = (refl, u)

-- what is no mark passes
each_unmarked : (test : List Entry → Entry → Bool) (journal : List Line) (what : What) → (log more : List Entry) → current_line journal log ≡ Some what → ((l : List Entry) (x : Entry) → current_line journal l ≡ Some what → is_mark x ≡ false → test l x ≡ true) → Unmarked more → each_after test log more ≡ true
each_unmarked test journal what log [] c holds u = refl
each_unmarked test journal what log (x ∷ more) c holds u = both_hold (test log x) (each_after test (log ++ x ∷ []) more) (holds log x c (unmarked_parts x more u).0)
    (each_unmarked test journal what (log ++ x ∷ []) more (still x (unmarked_parts x more u).0 ∙ c) holds (unmarked_parts x more u).1) where
      fold_end : {A B : Type 0} (f : B → A → B) (a : B) (xs : List A) (y : A) → fold f a (xs ++ y ∷ []) ≡ f (fold f a xs) y
      fold_end f a [] y = refl
      fold_end f a (z ∷ ys) y = fold_end f (f a z) ys y

      by_mark : Option Entry → Option What
      by_mark found = elim found [
        | None ↦ None
        | Some mark ↦ done_by journal mark
      ]

      no_mark : (y : Entry) → is_mark y ≡ false → mark_of y ≡ None
      no_mark (entries.Line number answer) e = absurd cc
      no_mark y e = refl

      still : (y : Entry) → is_mark y ≡ false → current_line journal (log ++ y ∷ []) ≡ current_line journal log
      still y e = ap by_mark (fold_end (λ found entry. or_else (mark_of entry) found) None log y ∙ ap (λ o. or_else o (last_of mark_of log)) (no_mark y e))

pub each_append : (test : List Entry → Entry → Bool) (log xs ys : List Entry) → each_after test log xs ≡ true → each_after test (log ++ xs) ys ≡ true → each_after test log (xs ++ ys) ≡ true
each_append test log [] ys h g = subst (λ (l : List Entry). each_after test l ys ≡ true) (append-nil log) g
each_append test log (x ∷ xs) ys h g = both_hold (test log x) (each_after test (log ++ x ∷ []) (xs ++ ys)) (and_first (test log x) _ h)
    (each_append test (log ++ x ∷ []) xs ys (and_last (test log x) _ h) (subst (λ (l : List Entry). each_after test l ys ≡ true) (sym (append_assoc log (x ∷ []) xs)) g)) where
      and_first : (a b : Bool) → (a && b) ≡ true → a ≡ true
      and_first true b e = refl
      and_first false b e = e

      and_last : (a b : Bool) → (a && b) ≡ true → b ≡ true
      and_last true b e = e
      and_last false b e = absurd cc

fold_end : {A B : Type 0} (f : B → A → B) (a : B) (xs : List A) (y : A) → fold f a (xs ++ y ∷ []) ≡ f (fold f a xs) y
fold_end f a [] y = refl
fold_end f a (z ∷ ys) y = fold_end f (f a z) ys y

by_mark : List Line → Option Entry → Option What
by_mark journal found = elim found [
  | None ↦ None
  | Some mark ↦ done_by journal mark
]

-- a line that was marked as done is the current one
done_now : (journal : List Line) (log : List Entry) (number : ℕ) → current_line journal (log ++ entries.Line number verdicts.Ok ∷ []) ≡ line_numbered journal number
unfolding by_mark
done_now journal log number = ap (by_mark journal) (fold_end (λ found entry. or_else (mark_of entry) found) None log (entries.Line number verdicts.Ok))

-- ---- each entry that is no mark stands after a line that was done

-- what isn't done tells nothing
abbrev pub RefusedAlone : {A : Type 0} → Verdict → List A → Type 0
RefusedAlone verdicts.Ok told = Unit {0}
RefusedAlone answer told = told ≡ []

abbrev pub AnsweredAlone : Answered → Type 0
AnsweredAlone (Ok done) = RefusedAlone done.0.0 done.0.1
AnsweredAlone (Err stop) = Unit {0}

only_mark : (journal : List Line) (log : List Entry) (number : ℕ) (answer : Verdict) (more : List Entry) → more ≡ [] → each_after (is_of_done journal) log (entries.Line number answer ∷ more) ≡ true
only_mark journal log number answer more e = subst (λ (l : List Entry). each_after (is_of_done journal) log (entries.Line number answer ∷ l) ≡ true) (sym e) refl

done_passes : (journal : List Line) (log : List Entry) (number : ℕ) (what : What) (answer : Verdict) (more : List Entry) → line_numbered journal number ≡ Some what → Unmarked more → RefusedAlone answer more → each_after (is_of_done journal) log (entries.Line number answer ∷ more) ≡ true
done_passes journal log number what verdicts.Ok more found u r = each_unmarked (is_of_done journal) journal what (log ++ entries.Line number verdicts.Ok ∷ []) more (done_now journal log number ∙ found)
    (λ l x c e. ap (λ b. b || some_and (λ what. true) (current_line journal l)) e ∙ ap (λ (o : Option What). some_and (λ what. true) o) c) u
done_passes journal log number what verdicts.Unknown more found u r = only_mark journal log number verdicts.Unknown more r
done_passes journal log number what verdicts.Dead more found u r = only_mark journal log number verdicts.Dead more r
done_passes journal log number what verdicts.Hale more found u r = only_mark journal log number verdicts.Hale more r
done_passes journal log number what verdicts.Taken more found u r = only_mark journal log number verdicts.Taken more r
done_passes journal log number what verdicts.NoName more found u r = only_mark journal log number verdicts.NoName more r
done_passes journal log number what verdicts.NoRef more found u r = only_mark journal log number verdicts.NoRef more r
done_passes journal log number what verdicts.Empty more found u r = only_mark journal log number verdicts.Empty more r
done_passes journal log number what verdicts.Long more found u r = only_mark journal log number verdicts.Long more r
done_passes journal log number what verdicts.Full more found u r = only_mark journal log number verdicts.Full more r
done_passes journal log number what verdicts.Spent more found u r = only_mark journal log number verdicts.Spent more r
done_passes journal log number what verdicts.Nothing more found u r = only_mark journal log number verdicts.Nothing more r

abbrev Passes : List Line → List Entry → Happened → Type 0
Passes journal log (Ok done) = each_after (is_of_done journal) log done.0 ≡ true
Passes journal log (Err stop) = Unit {0}

answered_passes : (journal : List Line) (log : List Entry) (number : ℕ) (what : What) (done : Answered) → line_numbered journal number ≡ Some what → AnsweredUnmarked done → AnsweredAlone done → Passes journal log (line_answered number done)
answered_passes journal log number what (Ok done) found u r = done_passes journal log number what done.0.0 done.0.1 found u r
answered_passes journal log number what (Err stop) found u r = tt

settled_passes : (journal : List Line) (log : List Entry) (number : ℕ) (what : What) (world : World) (done : Option Happened) → line_numbered journal number ≡ Some what → SettledUnmarked done → Passes journal log (line_settled number world done)
settled_passes journal log number what world None found u = refl
settled_passes journal log number what world (Some (Ok done)) found u = done_passes journal log number what verdicts.Ok (done.0 ++ entries.Settled ∷ []) found (both done.0 (entries.Settled ∷ []) u refl) tt
settled_passes journal log number what world (Some (Err stop)) found u = tt

-- what a line does is told only where it is done
abbrev pub TellsAlone : List Line → (What → Bool) → Type 0
TellsAlone journal test = (log : List Entry) (what : What) (world : World) → test what ≡ true → Good journal log world → AnsweredAlone (line_done what world)

event_passes : (journal : List Line) (test : What → Bool) → TellsAlone journal test → (log : List Entry) (number : ℕ) (what : What) (world : World) → test what ≡ true → line_numbered journal number ≡ Some what → Good journal log world → Passes journal log (event_step number what world)
event_passes journal test alone log number lines.Settle world of found g = settled_passes journal log number lines.Settle world (settles world) found (settled_unmarked (weight_of world) from_start world)
event_passes journal test alone log number what world of found g = answered_passes journal log number what (line_done what world) found (done_unmarked what world) (alone log what world of g)

step_passes : (journal : List Line) (test : What → Bool) → TellsAlone journal test → (log : List Entry) (number : ℕ) (what : What) (world : World) → test what ≡ true → line_numbered journal number ≡ Some what → Good journal log world → Passes journal log (world_step world (record { number = number; what = what }))
step_passes journal test alone log number (lines.Node name address unique) world of found g = refl
step_passes journal test alone log number (lines.Away name address unique) world of found g = refl
step_passes journal test alone log number (lines.Label node label) world of found g = refl
step_passes journal test alone log number (lines.Stranger name host) world of found g = refl
step_passes journal test alone log number what world of found g = event_passes journal test alone log number what world of found g

-- the lines are found in the journal by their numbers
abbrev pub Found : List Line → List Line → Type 0
Found journal [] = Unit {0}
Found journal (line ∷ rest) = (line_numbered journal line.number ≡ Some line.what) × Found journal rest

all_pass : (journal : List Line) (test : What → Bool) → TellsAlone journal test → (rest : List Line) (log : List Entry) (world : World) → Found journal rest → AllLines test rest → Good journal log world → Passes journal log (log_from world rest)
all_pass journal test alone [] log world found of g = refl
all_pass journal test alone (line ∷ rest) log world found of g =
    by_step (world_step world line) (step_passes journal test alone log line.number line.what world of.0 found.0 g) (step_led (Good journal) (keeps_good journal) log world line.number line.what (any_line line.what) g) (λ l w h. all_pass journal test alone rest l w found.1 of.1 h) where
      by_rest : (told : List Entry) (more : Happened) → each_after (is_of_done journal) log told ≡ true → Passes journal (log ++ told) more → Passes journal log (more >>= λ more. Ok (told ++ more.0, more.1))
      by_rest told (Ok more) p q = each_append (is_of_done journal) log told more.0 p q
      by_rest told (Err stop) p q = tt

      by_step : (one : Happened) → Passes journal log one → LedOn (Good journal) log one → ((l : List Entry) (w : World) → Good journal l w → Passes journal l (log_from w rest)) → Passes journal log (one >>= λ done. log_from done.1 rest >>= λ more. Ok (done.0 ++ more.0, more.1))
      by_step (Ok done) p g more = by_rest done.0 (log_from done.1 rest) p (more (log ++ done.0) done.1 g)
      by_step (Err stop) p g more = tt

-- ---- numbers

found_later : (line : Line) (journal rest : List Line) (least : ℕ) → line.number + 1 ≤ least → AreNumbered least rest → Found journal rest → Found (line ∷ journal) rest
found_later line journal [] least h a found = tt
found_later line journal (x ∷ rest) least h a found = (
  ap (λ b. option_map (λ (l : Line). l.what) (cond b (Some line) (find (λ (l : Line). l.number == x.number) journal))) (ne_eqb line.number x.number (apart line.number least x.number h a.0)) ∙ found.0,
  found_later line journal rest (x.number + 1) (above line.number least x.number h a.0) a.1 found.1,
) where
  apart : (n l m : ℕ) → n + 1 ≤ l → l ≤ m → n ≡ m → ⊥
  apart n l m h g e = omega arith

  above : (n l m : ℕ) → n + 1 ≤ l → l ≤ m → n + 1 ≤ m + 1
  above n l m h g = omega arith

pub found_all : (least : ℕ) (journal : List Line) → AreNumbered least journal → Found journal journal
found_all least [] a = tt
found_all least (line ∷ rest) a = (
  ap (λ b. option_map (λ (l : Line). l.what) (cond b (Some line) (find (λ (l : Line). l.number == line.number) rest))) (eq-eqb line.number line.number refl),
  found_later line rest rest (line.number + 1) (same (line.number + 1)) a.1 (found_all (line.number + 1) rest a.1),
) where
  same : (n : ℕ) → n ≤ n
  same n = omega arith

pub all_alone : (least : ℕ) (journal : List Line) (test : What → Bool) (log : List Entry) → TellsAlone journal test → AreNumbered least journal → AllLines test journal → log_of journal ≡ Ok log → IsTrue (each_after (is_of_done journal) [] log)
all_alone least journal test log alone numbered of is = by_log (log_from (world_new journal) journal) (all_pass journal test alone journal [] (world_new journal) (found_all least journal numbered) of (fresh journal)) is where
  by_log : (done : Happened) → Passes journal [] done → (done >>= λ done. Ok done.0) ≡ Ok log → IsTrue (each_after (is_of_done journal) [] log)
  by_log (Ok done) p e = let same : done.0 ≡ log = cc in subst (λ (l : List Entry). each_after (is_of_done journal) [] l ≡ true) same p
  by_log (Err stop) p e = absurd cc

-- ---- a line that is done has its own entry first

-- where the line has an own entry, what it did begins with it
abbrev pub OwnFirst : List Line → List Entry → What → Verdict → List Entry → Type 0
OwnFirst journal log what verdicts.Ok more = (not (has_own log what) || next_is (is_own journal log what) more) ≡ true
OwnFirst journal log what answer more = Unit {0}

abbrev pub AnsweredOwn : List Line → List Entry → What → Answered → Type 0
AnsweredOwn journal log what (Ok done) = OwnFirst journal log what done.0.0 done.0.1
AnsweredOwn journal log what (Err stop) = Unit {0}

abbrev PassesBetween : List Line → List Entry → Happened → Type 0
PassesBetween journal log (Ok done) = (after : List Entry) → each_between_after (has_own_first journal) (log ++ done.0) after ≡ true → each_between_after (has_own_first journal) log (done.0 ++ after) ≡ true
PassesBetween journal log (Err stop) = Unit {0}

-- what is no mark asks nothing of what follows
no_mark_passes : (journal : List Line) (log : List Entry) (x : Entry) (rest : List Entry) → is_mark x ≡ false → has_own_first journal log x rest ≡ true
no_mark_passes journal log (entries.Line number answer) rest e = absurd cc
no_mark_passes journal log x rest e = refl

skipped : (journal : List Line) (log more after : List Entry) → Unmarked more → each_between_after (has_own_first journal) (log ++ more) after ≡ true → each_between_after (has_own_first journal) log (more ++ after) ≡ true
skipped journal log [] after u h = subst (λ (l : List Entry). each_between_after (has_own_first journal) l after ≡ true) (append-nil log) h
skipped journal log (x ∷ more) after u h = both_hold (has_own_first journal log x (more ++ after)) (each_between_after (has_own_first journal) (log ++ x ∷ []) (more ++ after)) (no_mark_passes journal log x (more ++ after) (unmarked_parts x more u).0)
    (skipped journal (log ++ x ∷ []) more after (unmarked_parts x more u).1 (subst (λ (l : List Entry). each_between_after (has_own_first journal) l after ≡ true) (sym (append_assoc log (x ∷ []) more)) h))

still_next : (a : Bool) (p : Entry → Bool) (more after : List Entry) → (a || next_is p more) ≡ true → (a || next_is p (more ++ after)) ≡ true
still_next true p more after h = refl
still_next false p [] after h = absurd cc
still_next false p (x ∷ more) after h = h

marked_passes : (journal : List Line) (log : List Entry) (number : ℕ) (what : What) (answer : Verdict) (more after : List Entry) → line_numbered journal number ≡ Some what → OwnFirst journal log what answer more → has_own_first journal log (entries.Line number answer) (more ++ after) ≡ true
marked_passes journal log number what verdicts.Ok more after found own = ap (some_and (is_followed_by_own journal log (more ++ after))) found ∙ still_next (not (has_own log what)) (is_own journal log what) more after own
marked_passes journal log number what verdicts.Unknown more after found own = refl
marked_passes journal log number what answer more after found own = refl

block_passes : (journal : List Line) (log : List Entry) (number : ℕ) (what : What) (answer : Verdict) (more after : List Entry) → line_numbered journal number ≡ Some what → Unmarked more → OwnFirst journal log what answer more
    → each_between_after (has_own_first journal) (log ++ entries.Line number answer ∷ more) after ≡ true → each_between_after (has_own_first journal) log (entries.Line number answer ∷ more ++ after) ≡ true
block_passes journal log number what answer more after found u own h = both_hold (has_own_first journal log (entries.Line number answer) (more ++ after)) (each_between_after (has_own_first journal) (log ++ entries.Line number answer ∷ []) (more ++ after))
    (marked_passes journal log number what answer more after found own)
    (skipped journal (log ++ entries.Line number answer ∷ []) more after u (subst (λ (l : List Entry). each_between_after (has_own_first journal) l after ≡ true) (sym (append_assoc log (entries.Line number answer ∷ []) more)) h))

answered_between : (journal : List Line) (log : List Entry) (number : ℕ) (what : What) (done : Answered) → line_numbered journal number ≡ Some what → AnsweredUnmarked done → AnsweredOwn journal log what done → PassesBetween journal log (line_answered number done)
answered_between journal log number what (Ok done) found u own = λ after h. block_passes journal log number what done.0.0 done.0.1 after found u own h
answered_between journal log number what (Err stop) found u own = tt

settled_between : (journal : List Line) (log : List Entry) (number : ℕ) (world : World) (done : Option Happened) → line_numbered journal number ≡ Some lines.Settle → SettledUnmarked done → PassesBetween journal log (line_settled number world done)
settled_between journal log number world None found u = λ after h. block_passes journal log number lines.Settle verdicts.Ok [] after found refl refl h
settled_between journal log number world (Some (Ok done)) found u = λ after h. block_passes journal log number lines.Settle verdicts.Ok (done.0 ++ entries.Settled ∷ []) after found (both done.0 (entries.Settled ∷ []) u refl) refl h
settled_between journal log number world (Some (Err stop)) found u = tt

-- such a line, where it is done, begins with its own entry
abbrev pub BeginsOwn : List Line → (List Entry → World → Type 0) → (What → Bool) → Type 0
BeginsOwn journal I test = (log : List Entry) (what : What) (world : World) → test what ≡ true → I log world → AnsweredOwn journal log what (line_done what world)

-- each line keeps what holds of the log and the world
abbrev pub AllKeep : (List Entry → World → Type 0) → Type 0
AllKeep I = (log : List Entry) (world : World) (number : ℕ) (what : What) → I log world → LedOn I log (world_step world (record { number = number; what = what }))

pub good_kept : (journal : List Line) → AllKeep (Good journal)
good_kept journal log world number what g = step_led (Good journal) (keeps_good journal) log world number what (any_line what) g

event_between : (journal : List Line) (I : List Entry → World → Type 0) (test : What → Bool) → BeginsOwn journal I test → (log : List Entry) (number : ℕ) (what : What) (world : World) → test what ≡ true → line_numbered journal number ≡ Some what → I log world → PassesBetween journal log (event_step number what world)
event_between journal I test own log number lines.Settle world of found g = settled_between journal log number world (settles world) found (settled_unmarked (weight_of world) from_start world)
event_between journal I test own log number what world of found g = answered_between journal log number what (line_done what world) found (done_unmarked what world) (own log what world of g)

nothing_between : (journal : List Line) (log after : List Entry) → each_between_after (has_own_first journal) (log ++ []) after ≡ true → each_between_after (has_own_first journal) log after ≡ true
nothing_between journal log after h = subst (λ (l : List Entry). each_between_after (has_own_first journal) l after ≡ true) (append-nil log) h

step_between : (journal : List Line) (I : List Entry → World → Type 0) (test : What → Bool) → BeginsOwn journal I test → (log : List Entry) (number : ℕ) (what : What) (world : World) → test what ≡ true → line_numbered journal number ≡ Some what → I log world → PassesBetween journal log (world_step world (record { number = number; what = what }))
step_between journal I test own log number (lines.Node name address unique) world of found g = nothing_between journal log
step_between journal I test own log number (lines.Away name address unique) world of found g = nothing_between journal log
step_between journal I test own log number (lines.Label node label) world of found g = nothing_between journal log
step_between journal I test own log number (lines.Stranger name host) world of found g = nothing_between journal log
step_between journal I test own log number what world of found g = event_between journal I test own log number what world of found g

all_between : (journal : List Line) (I : List Entry → World → Type 0) (test : What → Bool) → BeginsOwn journal I test → AllKeep I → (rest : List Line) (log : List Entry) (world : World) → Found journal rest → AllLines test rest → I log world → PassesBetween journal log (log_from world rest)
all_between journal I test own kept [] log world found of g = nothing_between journal log
all_between journal I test own kept (line ∷ rest) log world found of g =
    by_step (world_step world line) (step_between journal I test own log line.number line.what world of.0 found.0 g) (kept log world line.number line.what g) (λ l w h. all_between journal I test own kept rest l w found.1 of.1 h) where
      by_rest : (told : List Entry) (w : World) (more : Happened) → PassesBetween journal log (Ok (told, w)) → PassesBetween journal (log ++ told) more → PassesBetween journal log (more >>= λ more. Ok (told ++ more.0, more.1))
      by_rest told w (Ok more) p q = λ after h. subst (λ (l : List Entry). each_between_after (has_own_first journal) log l ≡ true) (sym (append_assoc told more.0 after))
          (p (more.0 ++ after) (q after (subst (λ (l : List Entry). each_between_after (has_own_first journal) l after ≡ true) (sym (append_assoc log told more.0)) h)))
      by_rest told w (Err stop) p q = tt

      by_step : (one : Happened) → PassesBetween journal log one → LedOn I log one → ((l : List Entry) (w : World) → I l w → PassesBetween journal l (log_from w rest)) → PassesBetween journal log (one >>= λ done. log_from done.1 rest >>= λ more. Ok (done.0 ++ more.0, more.1))
      by_step (Ok done) p g more = by_rest done.0 done.1 (log_from done.1 rest) p (more (log ++ done.0) done.1 g)
      by_step (Err stop) p g more = tt

pub all_own : (least : ℕ) (journal : List Line) (I : List Entry → World → Type 0) (test : What → Bool) (log : List Entry) → BeginsOwn journal I test → AllKeep I → I [] (world_new journal) → AreNumbered least journal → AllLines test journal → log_of journal ≡ Ok log → IsTrue (each_between_after (has_own_first journal) [] log)
all_own least journal I test log own kept first numbered of is = by_log (log_from (world_new journal) journal) (all_between journal I test own kept journal [] (world_new journal) (found_all least journal numbered) of first) is where
  by_log : (done : Happened) → PassesBetween journal [] done → (done >>= λ done. Ok done.0) ≡ Ok log → IsTrue (each_between_after (has_own_first journal) [] log)
  by_log (Ok done) p e = let same : done.0 ≡ log = cc in subst (λ (l : List Entry). each_between_after (has_own_first journal) [] l ≡ true) (append-nil done.0 ∙ same) (p [] refl)
  by_log (Err stop) p e = absurd cc
