-- What follows a host's steps says nothing: nodes that hear do nothing that only a line does.
use Rattle.std.proofs.Common.{◌≡◌, ℕ, true, List, [], ◌∷◌, ◌++◌, Ok, Err, subst}
use Rattle.std.specs.Prelude.{find, Option, Some, None, Result}
use Rattle.ch_base.specs.declared.event.Event.{Event}
use Rattle.ch_base.specs.declared.memory.Stop.{Stop}
use Rattle.ch_model.specs.declared.act.Act.{Act}
use Rattle.ch_model.specs.declared.act.Act.TheVariants as acts
use Rattle.ch_model.specs.declared.local.LocalEntry.{LocalEntry}
use Rattle.ch_model.specs.declared.local.LocalEntry.TheVariants as local
use Rattle.ch_model.specs.declared.note.Note.{Note}
use Rattle.ch_model.specs.declared.note.Note.TheVariants as notes
use Rattle.ch_model.specs.declared.step.EndError.{EndError}
use Rattle.ch_model.specs.declared.step.EndError.TheVariants as errors
use Rattle.ch_model.specs.declared.step.Step.{Step}
use Rattle.ch_model.specs.declared.step.Step.TheVariants as steps
use Rattle.ch_model.specs.CellSteps.{Followed, ◌then◌, after_entries, is_at, with_node, asked, act_on, acts_on, node_followed, posted, step_on, steps_on}
use Rattle.ch_model.specs.HostCalls.{host_connect, host_send, host_close}
use Rattle.ch_model.specs.HostState.{HostState}
use Rattle.ch_model.specs.Node.{node_event}
use Rattle.ch_model.specs.NodeState.{NodeState}
use Rattle.ch_model.specs.WorldState.{Cell}
use Rattle.ch_laws_many.proofs.Quiet.{is_quiet, AreQuiet, Quiet, event_quiet}
use Rattle.ch_laws_messages.specs.SaidHeeds.{IsUnsaid, AreUnsaid}
use Rattle.ch_laws_messages.proofs.PayloadsTold.{steps_unsaid}

abbrev AllUnsaid : Followed → Type 0
AllUnsaid (Ok done) = AreUnsaid done.0
AllUnsaid (Err stop) = Unit {0}

note_unsaid : (note : Note) → is_quiet note ≡ true → IsUnsaid (local.Note note)
note_unsaid (notes.Said by to epoch index message) q = absurd cc
note_unsaid note q = tt

unsaid_both : (xs ys : List LocalEntry) → AreUnsaid xs → AreUnsaid ys → AreUnsaid (xs ++ ys)
unsaid_both [] ys a b = b
unsaid_both (x ∷ xs) ys a b = (a.0, unsaid_both xs ys a.1 b)

then_unsaid : (done : Followed) (f : Cell → Followed) → AllUnsaid done → ((c : Cell) → AllUnsaid (f c)) → AllUnsaid (done then f)
then_unsaid (Err stop) f a k = tt
then_unsaid (Ok done) f a k = by_more (f done.1) (k done.1) where
  by_more : (more : Followed) → AllUnsaid more → AllUnsaid (after_entries done.0 more)
  by_more (Ok more) b = unsaid_both done.0 more.0 a b
  by_more (Err stop) b = tt

asked_unsaid : (cell : Cell) (done : Result (List Step × HostState) EndError) → AllUnsaid (asked cell done)
asked_unsaid cell (Ok done) = steps_unsaid done.0
asked_unsaid cell (Err errors.Worn) = tt
asked_unsaid cell (Err errors.OutOfMemory) = tt
asked_unsaid cell (Err e) = tt

acts_unsaid : (end : ℕ) (all : List Act) (cell : Cell) → AreQuiet all → AllUnsaid (acts_on end all cell)
acts_unsaid end [] cell q = tt
acts_unsaid end (acts.Note note ∷ rest) cell q = then_unsaid (act_on end (acts.Note note) cell) (acts_on end rest) (note_unsaid note q.0, tt) (λ c. acts_unsaid end rest c q.1)
acts_unsaid end (acts.Open conn peer ∷ rest) cell q = then_unsaid (act_on end (acts.Open conn peer) cell) (acts_on end rest) (asked_unsaid cell (host_connect cell.host end peer conn)) (λ c. acts_unsaid end rest c q)
acts_unsaid end (acts.Put conn payload weight ∷ rest) cell q = then_unsaid (act_on end (acts.Put conn payload weight) cell) (acts_on end rest) (asked_unsaid cell (host_send cell.host end conn payload weight)) (λ c. acts_unsaid end rest c q)
acts_unsaid end (acts.Close conn ∷ rest) cell q = then_unsaid (act_on end (acts.Close conn) cell) (acts_on end rest) (asked_unsaid cell (host_close cell.host end conn)) (λ c. acts_unsaid end rest c q)

-- ---- what a host's steps tell a node

posted_unsaid : (end : ℕ) (event : Event) (cell : Cell) → AllUnsaid (posted end event cell)
posted_unsaid end event cell = by_node (find (is_at end) cell.nodes) where
  did : (done : Result (List Act × NodeState) Stop) → Quiet done → AllUnsaid (node_followed end cell done)
  did (Ok done) q = acts_unsaid end done.0 (with_node end done.1 cell) q
  did (Err stop) q = tt

  by_node : (o : Option (ℕ × NodeState)) → AllUnsaid (elim o as (λ o. Followed) [
    | None ↦ Ok ([], cell)
    | Some node ↦ node_followed end cell (node_event node.1 event)
  ])
  by_node None = tt
  by_node (Some node) = did (node_event node.1 event) (event_quiet node.1 event)

step_unsaid : (step : Step) (cell : Cell) → AllUnsaid (step_on step cell)
step_unsaid (steps.Post end event) cell = posted_unsaid end event cell
step_unsaid step cell = (tt, tt)

all_unsaid : (done : List Step) (cell : Cell) → AllUnsaid (steps_on done cell)
all_unsaid [] cell = tt
all_unsaid (step ∷ rest) cell = then_unsaid (step_on step cell) (steps_on rest) (step_unsaid step cell) (all_unsaid rest)

pub turn_unsaid : (done : List Step) (cell : Cell) (told : List LocalEntry) (after : Cell) → steps_on done cell ≡ Ok (told, after) → AreUnsaid told
turn_unsaid done cell told after e = subst AllUnsaid e (all_unsaid done cell)
