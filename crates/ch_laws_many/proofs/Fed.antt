-- What is fed to an end was unread, and the end of input is fed where nothing is.
use Rattle.std.proofs.Common.{◌≡◌, ℕ, zero, suc, Bool, true, false, not, ◌&&◌, ◌||◌, List, [], ◌∷◌, ◌++◌, length, Ok, Err, refl, sym, ap, subst, append_assoc, ◌==◌, arith}
use Rattle.std.proofs.lemmas.Bool.{and_parts}
use Rattle.std.proofs.lemmas.Bool.Decides.{nat_tests}
use Rattle.std.proofs.lemmas.List.{append-nil}
use Rattle.std.specs.Prelude.{min, nat_lt, nat_le}
use Rattle.ch_model.specs.declared.entry.Entry.{Entry}
use Rattle.ch_model.specs.declared.entry.Entry.TheVariants as entries
use Rattle.ch_model.specs.declared.entry.Verdict.{Verdict}
use Rattle.ch_model.specs.declared.entry.Verdict.TheVariants as verdicts
use Rattle.ch_model.specs.declared.line.Line.{Line}
use Rattle.ch_model.specs.declared.line.What.{What}
use Rattle.ch_model.specs.declared.line.What.TheVariants as lines
use Rattle.ch_model.specs.declared.name.End.{End}
use Rattle.ch_model.specs.declared.name.End.TheVariants.{O, T}
use Rattle.ch_model.specs.declared.name.SockName.{SockName}
use Rattle.ch_model.specs.AccountsBytes.{feeds_the_unread, feeds_the_end}
use Rattle.ch_model.specs.Answers.{is_open_end, ok_where, answer_to}
use Rattle.ch_model.specs.AnswersOwn.{is_own, has_own}
use Rattle.ch_model.specs.Logs.{each_between_after}
use Rattle.ch_model.specs.Same.{same_socket, same_end}
use Rattle.ch_model.specs.Sockets.{unread, has_ended_input}
use Rattle.ch_model.specs.World.{names_of, line_answered}
use Rattle.ch_model.specs.WorldHappenings.{Answered}
use Rattle.ch_model.specs.WorldLines.{line_done}
use Rattle.ch_model.specs.WorldState.{World}
use Rattle.ch_laws_log.specs.Declared.{is_declared}
use Rattle.ch_laws_log.proofs.Blocks.{RefusedAlone, AnsweredAlone, OwnFirst, AnsweredOwn}
use Rattle.ch_laws_log.proofs.Stored.{number_is, same_is}
use Rattle.ch_laws_many.specs.ManyLines.{is_of_many}
use Rattle.ch_laws_many.specs.InOrder.{is_of_nobody}
use Rattle.ch_laws_many.proofs.Answering.{AnsweredAs, nobody_answered}
use Rattle.ch_laws_many.proofs.Following.{is_still, AreStill, RestStill, AnsweredRest, line_rest}
use Rattle.ch_laws_many.proofs.InPlace.{has_one, mark_reached, line_tells_alone}
use Rattle.ch_laws_many.proofs.OwnFirst.{line_begins}
use Rattle.ch_laws_many.proofs.Reached.{IsJournal, Reached, Test, Passes, StepsPass}

-- ---- a test that what is still passes, and the own entry of a line

abbrev pub Asks : Type 0
Asks = List Entry → Entry → Bool

-- the test asks nothing of what follows
abbrev pub alone : Asks → Test
alone test log x rest = test log x

abbrev pub PassesStill : Asks → Type 0
PassesStill test = (log : List Entry) (x : Entry) → is_still x ≡ true → test log x ≡ true

-- the own entry passes, of a line that is done as the log shows where no process acts in it
abbrev pub PassesOwn : List Line → Asks → Type 0
PassesOwn journal test = (log : List Entry) (what : What) (x : Entry) → is_of_many (names_of journal) what ≡ true → is_own journal log what x ≡ true → (is_of_nobody what ≡ true → verdicts.Ok ≡ answer_to journal log what) → test log x ≡ true

both_hold : (a b : Bool) → a ≡ true → b ≡ true → (a && b) ≡ true
both_hold true true h g = refl
both_hold true false h g = g
both_hold false b h g = h

still_pass : (test : Asks) → PassesStill test → (log more after : List Entry) → AreStill more → each_between_after (alone test) (log ++ more) after ≡ true → each_between_after (alone test) log (more ++ after) ≡ true
still_pass test passes log [] after s h = subst (λ (l : List Entry). each_between_after (alone test) l after ≡ true) (append-nil log) h
still_pass test passes log (x ∷ more) after s h = both_hold (test log x) (each_between_after (alone test) (log ++ x ∷ []) (more ++ after)) (passes log x s.0)
    (still_pass test passes (log ++ x ∷ []) more after s.1 (subst (λ (l : List Entry). each_between_after (alone test) l after ≡ true) (sym (append_assoc log (x ∷ []) more)) h))

-- the first entry, if there is one, passes
abbrev FirstPasses : Asks → List Entry → List Entry → Type 0
FirstPasses test log [] = Unit {0}
FirstPasses test log (x ∷ more) = test log x ≡ true

rest_passes : (test : Asks) → PassesStill test → (log told after : List Entry) → FirstPasses test log told → RestStill told → each_between_after (alone test) (log ++ told) after ≡ true → each_between_after (alone test) log (told ++ after) ≡ true
rest_passes test passes log [] after f s h = subst (λ (l : List Entry). each_between_after (alone test) l after ≡ true) (append-nil log) h
rest_passes test passes log (x ∷ told) after f s h = both_hold (test log x) (each_between_after (alone test) (log ++ x ∷ []) (told ++ after)) f
    (still_pass test passes (log ++ x ∷ []) told after s.1 (subst (λ (l : List Entry). each_between_after (alone test) l after ≡ true) (sym (append_assoc log (x ∷ []) told)) h))

first_passes : (journal : List Line) (test : Asks) → PassesOwn journal test → (log : List Entry) (what : What) (answer : Verdict) (told : List Entry) → is_of_many (names_of journal) what ≡ true → OwnFirst journal log what answer told → RefusedAlone answer told → (is_of_nobody what ≡ true → answer ≡ answer_to journal log what) → FirstPasses test log told
first_passes journal test own log what answer told of = by_answer answer told where
  nothing : (more : List Entry) → more ≡ [] → FirstPasses test log more
  nothing more e = subst (λ (l : List Entry). FirstPasses test log l) (sym e) tt

  second : (a b : Bool) → a ≡ true → (not a || b) ≡ true → b ≡ true
  second true b e o = o
  second false b e o = absurd cc

  by_answer : (v : Verdict) (more : List Entry) → OwnFirst journal log what v more → RefusedAlone v more → (is_of_nobody what ≡ true → v ≡ answer_to journal log what) → FirstPasses test log more
  by_answer verdicts.Ok [] o r n = tt
  by_answer verdicts.Ok (x ∷ more) o r n = own log what x of (second (has_own log what) (is_own journal log what x) (has_one (names_of journal) log what of) o) n
  by_answer verdicts.Unknown more o r n = nothing more r
  by_answer verdicts.Dead more o r n = nothing more r
  by_answer verdicts.Hale more o r n = nothing more r
  by_answer verdicts.Taken more o r n = nothing more r
  by_answer verdicts.NoName more o r n = nothing more r
  by_answer verdicts.NoRef more o r n = nothing more r
  by_answer verdicts.Empty more o r n = nothing more r
  by_answer verdicts.Long more o r n = nothing more r
  by_answer verdicts.Full more o r n = nothing more r
  by_answer verdicts.Spent more o r n = nothing more r
  by_answer verdicts.Nothing more o r n = nothing more r

event_passes : (journal : List Line) → IsJournal journal → (test : Asks) → PassesStill test → PassesOwn journal test → (log : List Entry) (number : ℕ) (what : What) (world : World) → is_of_many (names_of journal) what ≡ true → Reached journal log world → Passes (alone test) log (line_answered number (line_done what world))
event_passes journal j test still own log number what world of r = by_done (line_done what world) (λ answer. line_begins journal j (log ++ entries.Line number answer ∷ []) what world of (mark_reached journal log world number answer r)) (line_tells_alone journal log what world of r)
    (λ answer such. nobody_answered journal j (log ++ entries.Line number answer ∷ []) what world of such (mark_reached journal log world number answer r)) (line_rest (names_of journal) what world of) where
      by_done : (done : Answered) → ((answer : Verdict) → AnsweredOwn journal (log ++ entries.Line number answer ∷ []) what done) → AnsweredAlone done → ((answer : Verdict) → is_of_nobody what ≡ true → AnsweredAs journal (log ++ entries.Line number answer ∷ []) what done) → AnsweredRest done
          → Passes (alone test) log (line_answered number done)
      by_done (Ok done) o a n s = λ after h. both_hold (test log (entries.Line number done.0.0)) (each_between_after (alone test) (log ++ entries.Line number done.0.0 ∷ []) (done.0.1 ++ after)) (still log (entries.Line number done.0.0) refl)
          (rest_passes test still (log ++ entries.Line number done.0.0 ∷ []) done.0.1 after (first_passes journal test own (log ++ entries.Line number done.0.0 ∷ []) what done.0.0 done.0.1 of (o done.0.0) a (n done.0.0)) s
          (subst (λ (l : List Entry). each_between_after (alone test) l after ≡ true) (sym (append_assoc log (entries.Line number done.0.0 ∷ []) done.0.1)) h))
      by_done (Err stop) o a n s = tt

pub steps_pass : (journal : List Line) → IsJournal journal → (test : Asks) → PassesStill test → PassesOwn journal test → StepsPass journal (alone test)
steps_pass journal j test still own log number (lines.Node name address unique) world of found r = λ after h. subst (λ (l : List Entry). each_between_after (alone test) l after ≡ true) (append-nil log) h
steps_pass journal j test still own log number (lines.Away name address unique) world of found r = absurd cc
steps_pass journal j test still own log number (lines.Label node label) world of found r = absurd cc
steps_pass journal j test still own log number (lines.Stranger name host) world of found r = absurd cc
steps_pass journal j test still own log number lines.Settle world of found r = absurd cc
steps_pass journal j test still own log number what world of found r = event_passes journal j test still own log number what world of r

-- ---- no more than is unread

end_is : (a b : End) → same_end a b ≡ true → a ≡ b
end_is O O e = refl
end_is O T e = absurd cc
end_is T O e = absurd cc
end_is T T e = refl

-- what the own entry of a line that feeds is
fed_so : (s t : SockName) (a b : End) (n m : ℕ) (P : SockName → End → ℕ → Type 0) → (same_socket s t && same_end a b && n == m) ≡ true → P t b m → P s a n
fed_so s t a b n m P e p =
    let one = and_parts (same_socket s t && same_end a b) (n == m) e in
    let two = and_parts (same_socket s t) (same_end a b) one.0 in
    subst (λ (x : SockName). P x a n) (sym (same_is s t two.0)) (subst (λ (x : End). P t x n) (sym (end_is a b two.1)) (subst (λ (x : ℕ). P t b x) (sym (number_is n m one.1)) p))

pub unread_still : (journal : List Line) → PassesStill (feeds_the_unread journal)
unread_still journal log (entries.Fed sock end count) e = absurd cc
unread_still journal log x e = refl

pub unread_own : (journal : List Line) → PassesOwn journal (feeds_the_unread journal)
unread_own journal log what (entries.Fed s e n) of own shown = by_line what of own where
  least : (count left : ℕ) → nat_le (min count left) left ≡ true
  least count left = grind (arith, nat_tests)

  by_line : (w : What) → is_of_many (names_of journal) w ≡ true → is_own journal log w (entries.Fed s e n) ≡ true → feeds_the_unread journal log (entries.Fed s e n) ≡ true
  by_line (lines.Feed sock end count) of own = fed_so s sock e end n (min count (length (unread journal log sock end))) (λ t b m. nat_le m (length (unread journal log t b)) ≡ true) own (least count (length (unread journal log sock end)))
  by_line w of own = absurd cc
unread_own journal log what x of own shown = refl

-- ---- the end of input, where nothing is unread

pub end_still : (journal : List Line) → PassesStill (feeds_the_end journal)
end_still journal log (entries.Fed sock end count) e = absurd cc
end_still journal log x e = refl

pub end_own : (journal : List Line) → PassesOwn journal (feeds_the_end journal)
end_own journal log what (entries.Fed s e n) of own shown = by_line what of own shown where
  is_shown : (b : Bool) → verdicts.Ok ≡ ok_where b → b ≡ true
  is_shown true e = refl
  is_shown false e = absurd cc

  last : (a b : Bool) → b ≡ true → (a || b) ≡ true
  last true b e = refl
  last false b e = e

  some_fed : (count left : ℕ) → (min (suc count) (suc left) == 0) ≡ false
  some_fed count left = grind (arith, nat_tests)

  at_end : (count left : ℕ) (b : Bool) → nat_lt 0 count ≡ true → (nat_lt 0 left || b) ≡ true → (not (min count left == 0) || left == 0 && b) ≡ true
  at_end zero left b some e = absurd cc
  at_end (suc count) zero b some e = last (not (min (suc count) 0 == 0)) b e
  at_end (suc count) (suc left) b some e = ap (λ c. not c || suc left == 0 && b) (some_fed count left)

  by_line : (w : What) → is_of_many (names_of journal) w ≡ true → is_own journal log w (entries.Fed s e n) ≡ true → (is_of_nobody w ≡ true → verdicts.Ok ≡ answer_to journal log w) → feeds_the_end journal log (entries.Fed s e n) ≡ true
  by_line (lines.Feed sock end count) of own shown = fed_so s sock e end n (min count (length (unread journal log sock end))) (λ t b m. feeds_the_end journal log (entries.Fed t b m) ≡ true) own
      (at_end count (length (unread journal log sock end)) (has_ended_input journal log sock end)
      (and_parts (is_declared (names_of journal) sock.from && is_declared (names_of journal) sock.to) (nat_lt 0 count) of).1
      (and_parts (is_open_end journal log sock end) (nat_lt 0 (length (unread journal log sock end)) || has_ended_input journal log sock end) (is_shown _ (shown refl))).1)
  by_line w of own shown = absurd cc
end_own journal log what x of own shown = refl
