-- How the pairs of two processes are numbered: where each stands at a node, and what the notes make of that.
use Rattle.std.specs.Prelude.{◌≡◌, ℕ, ◌+◌, Bool, true, not, ◌&&◌, ◌||◌, ◌==◌, List, [], ◌∷◌, find, Some, None, if◌then◌else◌}
use Rattle.ch_ident.specs.declared.identifier.ProcessId.{ProcessId}
use Rattle.ch_static.specs.declared.target.Target.{Target}
use Rattle.ch_static.specs.declared.target.Target.TheVariants as targets
use Rattle.ch_model.specs.declared.act.Act.{Act}
use Rattle.ch_model.specs.declared.act.Act.TheVariants as acts
use Rattle.ch_model.specs.declared.local.LocalEntry.{LocalEntry}
use Rattle.ch_model.specs.declared.local.LocalEntry.TheVariants as local
use Rattle.ch_model.specs.declared.note.Note.{Note}
use Rattle.ch_model.specs.declared.note.Note.TheVariants as notes
use Rattle.ch_model.specs.NodeState.{NodeState, Pair}
use Rattle.ch_model.specs.NodeIds.{is_own}
use Rattle.ch_model.specs.NodePairs.{same_process, same_target, pair_of}
use Rattle.ch_model.specs.CellSteps.{is_at}
use Rattle.ch_model.specs.WorldState.{Cell}

-- the epoch of a pair, and the index of its next message
abbrev pub numbers_of : Pair → ℕ × ℕ
numbers_of pair = (pair.epoch, pair.index)

-- the numbers of the pair of a process by its counter and another, among the pairs of a node
abbrev pub pair_stands : List Pair → ℕ → ProcessId → ℕ × ℕ
pair_stands pairs by to = numbers_of (pair_of pairs by (targets.Process to))

-- the numbers of the pair of two processes at a node: none are used, where the first isn't the node's
abbrev pub stands : NodeState → ProcessId → ProcessId → ℕ × ℕ
stands node by to = if is_own node by then pair_stands node.pairs by.counter to else (0, 0)

-- the same at an endpoint's node of a cell, where it has one
abbrev pub stands_at : Cell → ProcessId → ProcessId → ℕ × ℕ
stands_at cell by to = elim (find (is_at by.node.id) cell.nodes) as (λ o. ℕ × ℕ) [
  | None ↦ (0, 0)
  | Some node ↦ stands node.1 by to
]

-- the number of each endpoint that has a node is that of its node's address
abbrev pub AreSeated : Cell → Type 0
AreSeated cell = (end : ℕ) (node : ℕ × NodeState) → find (is_at end) cell.nodes ≡ Some node → node.1.own.id ≡ end

-- it is the pair of these two processes
abbrev pub is_between : ProcessId → ProcessId → ProcessId → Target → Bool
is_between by to sender target = same_process sender by && same_target target (targets.Process to)

-- a pair's numbers after a note: a message has the next index, a reconnect begins the next epoch
abbrev pub after_note : ProcessId → ProcessId → Note → ℕ × ℕ → ℕ × ℕ
after_note by to (notes.Said sender target epoch index message) numbers = if is_between by to sender target then (numbers.0, numbers.1 + 1) else numbers
after_note by to (notes.Again sender target epoch) numbers = if is_between by to sender target then (numbers.0 + 1, 0) else numbers
after_note by to note numbers = numbers

-- the note, where it is of the pair, carries its numbers: a message those before it, a reconnect the next epoch
abbrev pub is_next : ProcessId → ProcessId → Note → ℕ × ℕ → Bool
is_next by to (notes.Said sender target epoch index message) numbers = not (is_between by to sender target) || (epoch == numbers.0 && index == numbers.1)
is_next by to (notes.Again sender target epoch) numbers = not (is_between by to sender target) || epoch == numbers.0 + 1
is_next by to note numbers = true

-- the notes of the pair, in order, carry its numbers, and lead from the first numbers to the last
abbrev pub Numbers : ProcessId → ProcessId → List Note → ℕ × ℕ → ℕ × ℕ → Type 0
Numbers by to [] first last = last ≡ first
Numbers by to (note ∷ rest) first last = (is_next by to note first ≡ true) × Numbers by to rest (after_note by to note first) last

-- what a node's acts tell
abbrev pub notes_of : List Act → List Note
notes_of [] = []
notes_of (acts.Note note ∷ rest) = note ∷ notes_of rest
notes_of (act ∷ rest) = notes_of rest

-- what a cell's nodes tell
abbrev pub notes_in : List LocalEntry → List Note
notes_in [] = []
notes_in (local.Note note ∷ rest) = note ∷ notes_in rest
notes_in (local.Step step ∷ rest) = notes_in rest
