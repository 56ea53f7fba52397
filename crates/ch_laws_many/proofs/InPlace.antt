-- What only a line or the network does stands as the own entry of the line directly before.
use Rattle.std.proofs.Common.{◌≡◌, ℕ, Bool, true, false, not, ◌&&◌, ◌||◌, List, [], ◌∷◌, ◌++◌, Ok, Err, refl, sym, ap, ◌∙◌, subst, append_assoc}
use Rattle.std.proofs.lemmas.List.{append-nil}
use Rattle.std.specs.List.{fold}
use Rattle.std.specs.Prelude.{Option, Some, None}
use Rattle.ch_model.specs.declared.entry.Entry.{Entry}
use Rattle.ch_model.specs.declared.entry.Entry.TheVariants as entries
use Rattle.ch_model.specs.declared.entry.Verdict.{Verdict}
use Rattle.ch_model.specs.declared.entry.Verdict.TheVariants as verdicts
use Rattle.ch_model.specs.declared.line.Line.{Line}
use Rattle.ch_model.specs.declared.line.What.{What}
use Rattle.ch_model.specs.declared.line.What.TheVariants as lines
use Rattle.ch_model.specs.AnswersOwn.{is_own, has_own}
use Rattle.ch_model.specs.HasAnswers.{is_of_line, is_of_network, is_own_of_last, stands_in_place}
use Rattle.ch_model.specs.Logs.{or_else, some_and, each_between_after}
use Rattle.ch_model.specs.Marks.{line_numbered, done_by, line_just_done, in_settle}
use Rattle.ch_model.specs.World.{names_of, line_answered}
use Rattle.ch_model.specs.WorldHappenings.{Answered, joins, feeds}
use Rattle.ch_model.specs.WorldLines.{can_join, can_feed, line_done}
use Rattle.ch_model.specs.WorldState.{Named, World}
use Rattle.ch_laws_log.proofs.Blocks.{RefusedAlone, AnsweredAlone, OwnFirst, AnsweredOwn}
use Rattle.ch_laws_log.proofs.OwnEntries.{alone_done, on_socket_alone, line_alone}
use Rattle.ch_laws_ends.proofs.Heard.{joins_done, feeds_done}
use Rattle.ch_laws_ends.proofs.Lines.{mark_sure}
use Rattle.ch_laws_many.specs.ManyLines.{is_of_many}
use Rattle.ch_laws_many.proofs.Following.{is_still, AreStill, RestStill, AnsweredRest, line_rest}
use Rattle.ch_laws_many.proofs.Led.{calm_both}
use Rattle.ch_laws_many.proofs.OwnFirst.{line_begins}
use Rattle.ch_laws_many.proofs.Reached.{IsJournal, Reached, open_both, Test, Passes, StepsPass}

-- the test asks nothing of what follows
abbrev pub standing : List Line → Test
standing journal log x rest = stands_in_place journal log x

both_hold : (a b : Bool) → a ≡ true → b ≡ true → (a && b) ≡ true
both_hold true true h g = refl
both_hold true false h g = g
both_hold false b h g = h

-- what is still may stand anywhere
still_stands : (journal : List Line) (log : List Entry) (x : Entry) → is_still x ≡ true → stands_in_place journal log x ≡ true
still_stands journal log x s = first (not (is_of_line x || is_of_network x)) (is_own_of_last journal log x) (is_of_network x && in_settle journal log) s where
  first : (a b c : Bool) → a ≡ true → (a || b || c) ≡ true
  first true b c e = refl
  first false b c e = absurd cc

all_stand : (journal : List Line) (log more after : List Entry) → AreStill more → each_between_after (standing journal) (log ++ more) after ≡ true → each_between_after (standing journal) log (more ++ after) ≡ true
all_stand journal log [] after s h = subst (λ (l : List Entry). each_between_after (standing journal) l after ≡ true) (append-nil log) h
all_stand journal log (x ∷ more) after s h = both_hold (stands_in_place journal log x) (each_between_after (standing journal) (log ++ x ∷ []) (more ++ after)) (still_stands journal log x s.0)
    (all_stand journal (log ++ x ∷ []) more after s.1 (subst (λ (l : List Entry). each_between_after (standing journal) l after ≡ true) (sym (append_assoc log (x ∷ []) more)) h))

fold_end : {A B : Type 0} (f : B → A → B) (a : B) (xs : List A) (y : A) → fold f a (xs ++ y ∷ []) ≡ f (fold f a xs) y
fold_end f a [] y = refl
fold_end f a (z ∷ ys) y = fold_end f (f a z) ys y

just_done : (journal : List Line) (log : List Entry) (number : ℕ) → line_just_done journal (log ++ entries.Line number verdicts.Ok ∷ []) ≡ line_numbered journal number
just_done journal log number = ap by_last (fold_end (λ found entry. or_else (Some entry) found) None log (entries.Line number verdicts.Ok)) where
  by_last : Option Entry → Option What
  by_last o = elim o as (λ o. Option What) [
    | None ↦ None
    | Some entry ↦ done_by journal entry
  ]

-- the own entry stands directly after the mark
own_stands : (journal : List Line) (log : List Entry) (number : ℕ) (what : What) (x : Entry) → line_numbered journal number ≡ Some what → is_own journal (log ++ entries.Line number verdicts.Ok ∷ []) what x ≡ true → stands_in_place journal (log ++ entries.Line number verdicts.Ok ∷ []) x ≡ true
own_stands journal log number what x found own = second (not (is_of_line x || is_of_network x)) (is_own_of_last journal (log ++ entries.Line number verdicts.Ok ∷ []) x) (is_of_network x && in_settle journal (log ++ entries.Line number verdicts.Ok ∷ []))
    (ap (some_and (λ w. is_own journal (log ++ entries.Line number verdicts.Ok ∷ []) w x)) (just_done journal log number ∙ found) ∙ own) where
      second : (a b c : Bool) → b ≡ true → (a || b || c) ≡ true
      second true b c e = refl
      second false true c e = refl
      second false false c e = absurd cc

-- a line of many nodes has an own entry, where it is one of events
pub has_one : (known : List Named) (log : List Entry) (what : What) → is_of_many known what ≡ true → has_own log what ≡ true
has_one known log lines.Settle of = absurd cc
has_one known log (lines.Exit by target text) of = absurd cc
has_one known log (lines.Kill by target text) of = absurd cc
has_one known log what of = refl

-- ---- blocks

done_block : (journal : List Line) (log : List Entry) (number : ℕ) (what : What) (told after : List Entry) → line_numbered journal number ≡ Some what → has_own (log ++ entries.Line number verdicts.Ok ∷ []) what ≡ true → OwnFirst journal (log ++ entries.Line number verdicts.Ok ∷ []) what verdicts.Ok told → RestStill told
    → each_between_after (standing journal) ((log ++ entries.Line number verdicts.Ok ∷ []) ++ told) after ≡ true → each_between_after (standing journal) (log ++ entries.Line number verdicts.Ok ∷ []) (told ++ after) ≡ true
done_block journal log number what [] after found has own s h = subst (λ (l : List Entry). each_between_after (standing journal) l after ≡ true) (append-nil (log ++ entries.Line number verdicts.Ok ∷ [])) h
done_block journal log number what (x ∷ told) after found has own s h = both_hold (stands_in_place journal (log ++ entries.Line number verdicts.Ok ∷ []) x) (each_between_after (standing journal) ((log ++ entries.Line number verdicts.Ok ∷ []) ++ x ∷ []) (told ++ after))
    (own_stands journal log number what x found (first (has_own (log ++ entries.Line number verdicts.Ok ∷ []) what) (is_own journal (log ++ entries.Line number verdicts.Ok ∷ []) what x) has own))
    (all_stand journal ((log ++ entries.Line number verdicts.Ok ∷ []) ++ x ∷ []) told after s.1 (subst (λ (l : List Entry). each_between_after (standing journal) l after ≡ true) (sym (append_assoc (log ++ entries.Line number verdicts.Ok ∷ []) (x ∷ []) told)) h)) where
      first : (a b : Bool) → a ≡ true → (not a || b) ≡ true → b ≡ true
      first true b e o = o
      first false b e o = absurd cc

block_stands : (journal : List Line) (log : List Entry) (number : ℕ) (what : What) (answer : Verdict) (told after : List Entry) → line_numbered journal number ≡ Some what → has_own (log ++ entries.Line number answer ∷ []) what ≡ true → OwnFirst journal (log ++ entries.Line number answer ∷ []) what answer told → RefusedAlone answer told → RestStill told
    → each_between_after (standing journal) (log ++ entries.Line number answer ∷ told) after ≡ true → each_between_after (standing journal) log (entries.Line number answer ∷ told ++ after) ≡ true
block_stands journal log number what answer told after found has own r s h = by_answer answer has own r (subst (λ (l : List Entry). each_between_after (standing journal) l after ≡ true) (sym (append_assoc log (entries.Line number answer ∷ []) told)) h) where
  nothing : (v : Verdict) → told ≡ [] → each_between_after (standing journal) ((log ++ entries.Line number v ∷ []) ++ told) after ≡ true → each_between_after (standing journal) (log ++ entries.Line number v ∷ []) (told ++ after) ≡ true
  nothing v e g = subst (λ (t : List Entry). each_between_after (standing journal) (log ++ entries.Line number v ∷ []) (t ++ after) ≡ true) (sym e)
      (subst (λ (l : List Entry). each_between_after (standing journal) l after ≡ true) (append-nil (log ++ entries.Line number v ∷ [])) (subst (λ (t : List Entry). each_between_after (standing journal) ((log ++ entries.Line number v ∷ []) ++ t) after ≡ true) e g))

  by_answer : (v : Verdict) → has_own (log ++ entries.Line number v ∷ []) what ≡ true → OwnFirst journal (log ++ entries.Line number v ∷ []) what v told → RefusedAlone v told
      → each_between_after (standing journal) ((log ++ entries.Line number v ∷ []) ++ told) after ≡ true → each_between_after (standing journal) log (entries.Line number v ∷ told ++ after) ≡ true
  by_answer verdicts.Ok has own r g = done_block journal log number what told after found has own s g
  by_answer verdicts.Unknown has own r g = nothing verdicts.Unknown r g
  by_answer verdicts.Dead has own r g = nothing verdicts.Dead r g
  by_answer verdicts.Hale has own r g = nothing verdicts.Hale r g
  by_answer verdicts.Taken has own r g = nothing verdicts.Taken r g
  by_answer verdicts.NoName has own r g = nothing verdicts.NoName r g
  by_answer verdicts.NoRef has own r g = nothing verdicts.NoRef r g
  by_answer verdicts.Empty has own r g = nothing verdicts.Empty r g
  by_answer verdicts.Long has own r g = nothing verdicts.Long r g
  by_answer verdicts.Full has own r g = nothing verdicts.Full r g
  by_answer verdicts.Spent has own r g = nothing verdicts.Spent r g
  by_answer verdicts.Nothing has own r g = nothing verdicts.Nothing r g

-- ---- lines

-- a mark changes nothing of the world
pub mark_reached : (journal : List Line) (log : List Entry) (world : World) (number : ℕ) (answer : Verdict) → Reached journal log world → Reached journal (log ++ entries.Line number answer ∷ []) world
mark_reached journal log world number answer r = record {
  sure = mark_sure journal log world number answer r.sure;
  housed = r.housed;
  set = r.set;
  homes = r.homes;
  seats = r.seats;
  calm = calm_both log (entries.Line number answer ∷ []) r.calm (refl, tt);
  unshut = open_both log (entries.Line number answer ∷ []) r.unshut (refl, tt);
}

-- what a line does is told only where it is done
pub line_tells_alone : (journal : List Line) (log : List Entry) (what : What) (world : World) → is_of_many (names_of journal) what ≡ true → Reached journal log world → AnsweredAlone (line_done what world)
line_tells_alone journal log (lines.Join sock) world of r = on_socket_alone sock can_join joins world (λ socket is can. alone_done (joins socket world) (joins_done journal log world socket r.sure is can))
line_tells_alone journal log (lines.Feed sock end count) world of r = on_socket_alone sock (can_feed end) (feeds end count) world (λ socket is can. alone_done (feeds end count socket world) (feeds_done journal log world end count socket r.sure is can))
line_tells_alone journal log (lines.Refuse sock) world of r = absurd cc
line_tells_alone journal log (lines.Lose sock end) world of r = absurd cc
line_tells_alone journal log what world of r = line_alone journal log what world refl r.sure.ends.sorted.0

event_stands : (journal : List Line) → IsJournal journal → (log : List Entry) (number : ℕ) (what : What) (world : World) → is_of_many (names_of journal) what ≡ true → line_numbered journal number ≡ Some what → Reached journal log world → Passes (standing journal) log (line_answered number (line_done what world))
event_stands journal j log number what world of found r = by_done (line_done what world) (λ answer. line_begins journal j (log ++ entries.Line number answer ∷ []) what world of (mark_reached journal log world number answer r)) (line_tells_alone journal log what world of r) (line_rest (names_of journal) what world of) where
  by_done : (done : Answered) → ((answer : Verdict) → AnsweredOwn journal (log ++ entries.Line number answer ∷ []) what done) → AnsweredAlone done → AnsweredRest done → Passes (standing journal) log (line_answered number done)
  by_done (Ok done) own a s = λ after h. block_stands journal log number what done.0.0 done.0.1 after found (has_one (names_of journal) (log ++ entries.Line number done.0.0 ∷ []) what of) (own done.0.0) a s h
  by_done (Err stop) own a s = tt

pub steps_stand : (journal : List Line) → IsJournal journal → StepsPass journal (standing journal)
steps_stand journal j log number (lines.Node name address unique) world of found r = λ after h. subst (λ (l : List Entry). each_between_after (standing journal) l after ≡ true) (append-nil log) h
steps_stand journal j log number (lines.Away name address unique) world of found r = absurd cc
steps_stand journal j log number (lines.Label node label) world of found r = absurd cc
steps_stand journal j log number (lines.Stranger name host) world of found r = absurd cc
steps_stand journal j log number lines.Settle world of found r = absurd cc
steps_stand journal j log number what world of found r = event_stands journal j log number what world of found r
