-- What waits from one node for another by the log: as many as were said, where the node isn't up.
use Rattle.std.proofs.Common.{◌≡◌, ℕ, Bool, true, false, cond, not, ◌&&◌, List, [], length, refl, sym, ap, ◌∙◌}
use Rattle.std.proofs.lemmas.Slice.Eq.{bytes_eq-Decides}
use Rattle.std.specs.List.{filter_map}
use Rattle.std.specs.Prelude.{Option, Some, None}
use Rattle.std.specs.Str.{bytes_eq}
use Rattle.ch_model.specs.declared.entry.Entry.{Entry}
use Rattle.ch_model.specs.declared.line.Line.{Line}
use Rattle.ch_model.specs.declared.line.What.{What}
use Rattle.ch_model.specs.declared.line.What.TheVariants as lines
use Rattle.ch_model.specs.declared.name.TargetName.TheVariants as targets
use Rattle.ch_model.specs.AnswersCounts.{sends_between, sent_by, waiting}
use Rattle.ch_model.specs.Epochs.{breaks, is_broken}
use Rattle.ch_model.specs.HasAnswers.{has_own_first, stands_in_place}
use Rattle.ch_model.specs.Links.{is_up_with}
use Rattle.ch_model.specs.Logs.{collected, each_after, each_between_after}
use Rattle.ch_model.specs.Marks.{done_by}
use Rattle.ch_model.specs.WorldState.{Named}
use Rattle.ch_laws_log.specs.Lines.{AllLines}
use Rattle.ch_laws_many.specs.ManyLines.{is_of_many}
use Rattle.ch_laws_plain_logs.specs.Plain.{is_plain, IsPlain, said_by}
use Rattle.ch_laws_plain_logs.proofs.None.{never_resets}
use Rattle.ch_laws_plain_logs.proofs.Absent.{no_breaks, no_pair_broken}
use Rattle.ch_laws_plain_logs.proofs.Simply.{as_filter}
use Rattle.ch_laws_messages.specs.SendsSends.{sends_to, send_done}
use Rattle.ch_laws_messages.proofs.SendsCounts.{done_many, done_as_said}

pub same_test : (a b : Bool) → (a ≡ true → b ≡ true) → (b ≡ true → a ≡ true) → a ≡ b
same_test true b f g = sym (f refl)
same_test false true f g = g refl
same_test false false f g = refl

pub bytes_turned : (a b : List ℕ) → bytes_eq a b ≡ bytes_eq b a
bytes_turned a b = same_test (bytes_eq a b) (bytes_eq b a) (λ e. (bytes_eq-Decides b a).1 (sym ((bytes_eq-Decides a b).0 e))) (λ e. (bytes_eq-Decides a b).1 (sym ((bytes_eq-Decides b a).0 e)))

module _ (journal : List Line) (known : List Named) (many : AllLines (is_of_many known) journal) (x y : List ℕ) (apart : bytes_eq x y ≡ false) where
  none_directed : (a b c : Bool) → (((a && false) && b) && c) ≡ false
  none_directed true b c = refl
  none_directed false b c = refl

  as_sent : (a b c d e : Bool) → b ≡ e → c ≡ false → d ≡ false → (((a && b) && not c) && not d) ≡ (a && e)
  as_sent true true false false e h k l = h
  as_sent true false false false e h k l = h
  as_sent false b c d e h k l = refl
  as_sent a b true d e h k l = absurd cc
  as_sent a b c true e h k l = absurd cc

  between_so : (before : List Entry) → IsPlain before → (what : What) → is_of_many known what ≡ true → sends_between before x y what ≡ sends_to x y what
  between_so before plain (lines.Send by (targets.Process to) mark body) of = as_sent (bytes_eq by.node x) (bytes_eq y to.node) (bytes_eq x y) (is_broken before by (targets.Process to)) (bytes_eq to.node y) (bytes_turned y to.node) apart (no_pair_broken before by (targets.Process to) plain)
  between_so before plain (lines.Recv by mark) of = none_directed (bytes_eq by.node x) (not (bytes_eq x y)) true
  between_so before plain (lines.End by) of = none_directed (bytes_eq by.node x) (not (bytes_eq x y)) true
  between_so before plain (lines.Node name address unique) of = refl
  between_so before plain (lines.Proc node) of = refl
  between_so before plain (lines.Join sock) of = refl
  between_so before plain (lines.Come sock) of = refl
  between_so before plain (lines.Feed sock end count) of = refl
  between_so before plain what of = absurd cc

  sent_so : (before : List Entry) (entry : Entry) → IsPlain before → is_plain entry ≡ true → sent_by journal x y before entry ≡ send_done journal x y entry
  sent_so before entry b e = by_done (done_by journal entry) (done_many known journal many entry) where
    by_done : (o : Option What) → ((what : What) → o ≡ Some what → is_of_many known what ≡ true) → (elim o as (λ o. Option What) [
      | None ↦ None
      | Some what ↦ cond (sends_between before x y what) (Some what) None
    ]) ≡ (elim o as (λ o. Option What) [
      | None ↦ None
      | Some what ↦ cond (sends_to x y what) (Some what) None
    ])
    by_done None of = refl
    by_done (Some what) of = ap (λ (t : Bool). cond t (Some what) None) (between_so before b what (of what refl))

  -- what waits by the log, where x isn't up with y
  pub waiting_said : (log : List Entry) → IsPlain log → each_between_after (has_own_first journal) [] log ≡ true → each_after (stands_in_place journal) [] log ≡ true → is_up_with log x y ≡ false → waiting journal log x y ≡ length (filter_map (said_by x y) log)
  waiting_said log plain own place down = ap (λ (b : Bool). cond b 0 (length (collected (breaks x y) (sent_by journal x y) log))) down
      ∙ ap length (never_resets (breaks x y) (no_breaks x y) (sent_by journal x y) log plain ∙ as_filter (sent_by journal x y) (send_done journal x y) sent_so log plain) ∙ done_as_said journal known many x y log own place

  -- none waits where it is
  pub none_waiting : (log : List Entry) → is_up_with log x y ≡ true → waiting journal log x y ≡ 0
  none_waiting log up = ap (λ (b : Bool). cond b 0 (length (collected (breaks x y) (sent_by journal x y) log))) up
