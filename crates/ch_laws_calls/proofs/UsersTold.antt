-- All steps of a host, one after another, keep of whom ends are, what targets are asked, and what openers are answered.
use Rattle.std.proofs.Common.{◌≡◌, ℕ, Bool, true, false, cond, List, [], ◌∷◌, ◌++◌, refl, sym, ap, ◌∙◌, subst}
use Rattle.std.specs.Prelude.{position, Option, Some, None, ◌==◌}
use Rattle.std.specs.Str.{bytes_eq}
use Rattle.ch_wire.specs.Spelling.{answer_spelling}
use Rattle.ch_wire.specs.declared.answer.Answer.TheVariants.{Accepted, Mismatch}
use Rattle.ch_model.specs.declared.entry.Entry.{Entry}
use Rattle.ch_model.specs.declared.line.Line.{Line}
use Rattle.ch_model.specs.declared.local.LocalEntry.TheVariants as local
use Rattle.ch_model.specs.declared.step.Step.{Step}
use Rattle.ch_model.specs.declared.step.Step.TheVariants as steps
use Rattle.ch_model.specs.CellSteps.{told_steps}
use Rattle.ch_model.specs.HostState.{Socket}
use Rattle.ch_model.specs.Naming.{Names}
use Rattle.ch_model.specs.Stages.{Stage}
use Rattle.ch_model.specs.WorldSockets.{is_host_of}
use Rattle.ch_model.specs.WorldState.{Cell, WorldSocket, World}
use Rattle.ch_model.specs.WorldSteps.{stepped, all_told}
use Rattle.ch_laws_log.specs.HostEnds.{stage_after, AreNewTo}
use Rattle.ch_laws_log.specs.WorldEnds.{stage_held}
use Rattle.ch_laws_log.proofs.Kept.{one_told}
use Rattle.ch_laws_log.proofs.Stored.{number_same}
use Rattle.ch_laws_log.proofs.WorldEnds.{told_held}
use Rattle.ch_laws_ends.proofs.Changes.{step_as, told_cells}
use Rattle.ch_laws_ends.proofs.Found.{EachFound, each_kept}
use Rattle.ch_laws_ends.proofs.Known.{Sorted, keeps_sorted}
use Rattle.ch_laws_writes.specs.Dues.{Due, Asking, Answering, Framing, due_past, due_after, AllDue}
use Rattle.ch_laws_bytes.proofs.Lines.{own_of}
use Rattle.ch_laws_bytes.specs.Streams.{Reader, moved, all_moved}
use Rattle.ch_laws_bytes.proofs.Told.{told_names}
use Rattle.ch_laws_calls.specs.UsersCarried.{AllOf, IsBegun}
use Rattle.ch_laws_calls.specs.UsersRecords.{first_written, Refuses}
use Rattle.ch_laws_calls.proofs.UsersSeated.{IsPut, step_put}
use Rattle.ch_laws_calls.proofs.UsersSteps.{MayDo, IsOrdered, step_begun, dial_each, none_before}

-- ---- what is first written

-- what the first step writes is written first
first_head : (n : ℕ) (step : Step) (rest : List Step) → Refuses n (step ∷ []) → Refuses n (step ∷ rest)
first_head n (steps.Write sock bytes said) rest e = by_test (sock == n) e where
  by_test : (b : Bool) → cond b (Some bytes) None ≡ Some (answer_spelling Mismatch) → cond b (Some bytes) (first_written n rest) ≡ Some (answer_spelling Mismatch)
  by_test true e = e
  by_test false e = absurd cc
first_head n (steps.Dial sock end peer) rest e = absurd cc
first_head n (steps.Read sock) rest e = absurd cc
first_head n (steps.Up sock) rest e = absurd cc
first_head n (steps.Down sock) rest e = absurd cc
first_head n (steps.Left sock) rest e = absurd cc
first_head n (steps.Broke end peer why) rest e = absurd cc
first_head n (steps.Post end event) rest e = absurd cc

-- bytes that are written leave no answer due
past_answer : {A : Type 0} (bytes : List ℕ) (due : Option Due) → due_past bytes due ≡ Some Answering → A
past_answer bytes None e = absurd cc
past_answer bytes (Some (Asking end peer)) e = absurd cc
past_answer bytes (Some Framing) e = absurd cc
past_answer bytes (Some Answering) e = by_test (bytes_eq bytes (answer_spelling Accepted)) e where
  by_test : {A : Type 0} (b : Bool) → cond b (Some Framing) None ≡ Some Answering → A
  by_test true e = absurd cc
  by_test false e = absurd cc

-- where an answer is due still after a step, it was before, and the step wrote nothing there
record StillDue (n : ℕ) (step : Step) (rest : List Step) (due : Option Due) : Type 0 where
  before : due ≡ Some Answering
  same : first_written n (step ∷ rest) ≡ first_written n rest

still_due : (n : ℕ) (step : Step) (rest : List Step) (due : Option Due) → due_after n step due ≡ Some Answering → StillDue n step rest due
still_due n (steps.Dial sock end peer) rest due e = record { before = by_test (sock == n) e; same = refl } where
  by_test : (b : Bool) → cond b (Some (Asking end peer)) due ≡ Some Answering → due ≡ Some Answering
  by_test true e = absurd cc
  by_test false e = e
still_due n (steps.Write sock bytes said) rest due e = record { before = by_due (sock == n) e; same = by_test (sock == n) e } where
  by_due : (b : Bool) → cond b (due_past bytes due) due ≡ Some Answering → due ≡ Some Answering
  by_due true e = past_answer bytes due e
  by_due false e = e

  by_test : (b : Bool) → cond b (due_past bytes due) due ≡ Some Answering → cond b (Some bytes) (first_written n rest) ≡ first_written n rest
  by_test true e = past_answer bytes due e
  by_test false e = refl
still_due n (steps.Down sock) rest due e = record { before = by_test (sock == n) e; same = refl } where
  by_test : (b : Bool) → cond b None due ≡ Some Answering → due ≡ Some Answering
  by_test true e = absurd cc
  by_test false e = e
still_due n (steps.Left sock) rest due e = record { before = by_test (sock == n) e; same = refl } where
  by_test : (b : Bool) → cond b None due ≡ Some Answering → due ≡ Some Answering
  by_test true e = absurd cc
  by_test false e = e
still_due n (steps.Read sock) rest due e = record { before = e; same = refl }
still_due n (steps.Up sock) rest due e = record { before = e; same = refl }
still_due n (steps.Broke end peer why) rest due e = record { before = e; same = refl }
still_due n (steps.Post end event) rest due e = record { before = e; same = refl }

-- ---- all steps

-- what is so after all steps
pub record AreCarried (journal : List Line) (known : Names) (records : ℕ → ℕ → Option Socket) (readers : ℕ → ℕ → Option Reader) (dues : ℕ → ℕ → Option Due) (place : ℕ) (clear : ℕ → Type 0) (sockets : List WorldSocket) : Type 0 where
  pub put : AllOf (IsPut journal known records place clear) sockets
  pub begun : AllOf (IsBegun journal known readers dues) sockets

pub told_carried : (journal : List Line) (known : Names) (records : ℕ → ℕ → Option Socket) (readers : ℕ → ℕ → Option Reader) (dues : ℕ → ℕ → Option Due) (place : ℕ) (clear : ℕ → Type 0) (cell : Cell) (told : List Step) (log : List Entry) (world : World) → IsOrdered journal log place cell known world
    → MayDo (own_of journal) readers dues place clear told world.sockets → AreCarried journal known records readers dues place clear world.sockets → AreCarried journal known records readers (all_moved place told dues) place clear (all_told place cell (told_steps told) world).1.sockets
told_carried journal known records readers dues place clear cell [] log world g may all = all
told_carried journal known records readers dues place clear cell (step ∷ rest) log world g may all = told_carried journal known records readers (moved place step dues) place clear cell rest (log ++ (stepped place cell step world).0) one ordered later (record {
  put = step_put journal known records place clear cell step world g.own_is g.taken all.put;
  begun = step_begun journal log known records readers dues place clear cell step world g (record { new = λ n. (may.new n).0; due = λ n. (may.due n).0; first = may.first; fine = λ n c d e. may.fine n c d (first_head n step rest e) }) all.put all.begun;
}) where
  one : World
  one = (stepped place cell step world).1

  held : (m : ℕ) → stage_held place m one.sockets ≡ stage_after m step (stage_held place m world.sockets)
  held m = told_held journal log place place m cell (local.Step step ∷ []) world g.sorted.0 (λ k. ((may.new k).0, tt))
      ∙ ap (λ b. cond b (stage_after m step (stage_held place m world.sockets)) (stage_held place m world.sockets)) (number_same place)

  now : (n : ℕ) → moved place step dues place n ≡ due_after n step (dues place n)
  now n = ap (λ b. cond b (due_after n step (dues place n)) (dues place n)) (number_same place)

  ordered : IsOrdered journal (log ++ (stepped place cell step world).0) place cell known one
  ordered = record {
    sorted = one_told (Sorted journal) (keeps_sorted journal) log place cell (local.Step step) world g.sorted;
    each = step_as (λ w. EachFound w.sockets) (λ one two c s k. subst EachFound (sym s) k) place cell step world (dial_each journal log place cell step world g.sorted.0 (λ m. (may.new m).0) g.each) (λ s e f c. each_kept s e f world c.changes.place g.each) g.each;
    names = told_names place cell (local.Step step ∷ []) world ∙ g.names;
    own_is = g.own_is;
    taken = g.taken;
    homes = λ a. ap (λ (l : List (Cell × ℕ)). position (is_host_of a) l) (told_cells place cell (local.Step step ∷ []) world) ∙ g.homes a;
  }

  later : MayDo (own_of journal) readers (moved place step dues) place clear rest one.sockets
  later = record {
    new = λ m. subst (λ (s : Option Stage). AreNewTo m rest s) (sym (held m)) (may.new m).1;
    due = λ m. subst (λ (d : Option Due). AllDue (own_of journal place) m rest d) (sym (now m)) (may.due m).1;
    first = λ m e. may.first m (none_before m step (stage_held place m world.sockets) (sym (held m) ∙ e));
    fine = λ m c d e. let still = still_due m step rest (dues place m) (sym (now m) ∙ d) in may.fine m c still.before (still.same ∙ e);
  }
