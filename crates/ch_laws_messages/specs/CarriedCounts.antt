-- How many sayings payloads carry, and what the items that were written towards an end carry, one after another.
use Rattle.std.specs.Prelude.{ℕ, List, [], ◌∷◌, ◌++◌, length, slice_get, Option, Some, None}
use Rattle.ch_model.specs.AccountsFrames.{Saying, Arriving}
use Rattle.ch_model.specs.AccountsItems.{frame_of, data_of, first_payload}
use Rattle.ch_laws_peers.specs.Words.{carried_after}

-- how many sayings these payloads carry behind those before: all but the first under each id
abbrev pub carried_in : List (ℕ × List ℕ) → List (ℕ × List ℕ) → ℕ
carried_in before [] = 0
carried_in before (d ∷ rest) = carried_after (first_payload d.0 before) (carried_in (before ++ d ∷ []) rest)

-- what a payload carries, where so many sayings were carried before, by the first payload under its id: an opening nothing, another
-- what is said next
abbrev pub carried_next : List Saying → ℕ → Option (List ℕ) → Option Saying
carried_next said n None = None
carried_next said n (Some opening) = slice_get said n

-- the payload of a piece that is a frame which carries one, and the id that it goes under
abbrev pub data_in : List ℕ → Option (ℕ × List ℕ)
data_in piece = elim (frame_of piece) [
  | None ↦ None
  | Some frame ↦ data_of frame
]

-- pieces that were written, each by its size and what it carries, behind these payloads, where so many sayings were carried before
abbrev pub arriving_behind : List Saying → List (ℕ × List ℕ) → ℕ → List (List ℕ) → List Arriving
arriving_behind said before n [] = []
arriving_behind said before n (piece ∷ rest) = elim (data_in piece) [
  | None ↦ (length piece, None) ∷ arriving_behind said before n rest
  | Some d ↦ (length piece, carried_next said n (first_payload d.0 before)) ∷ arriving_behind said (before ++ d ∷ []) (carried_after (first_payload d.0 before) n) rest
]

-- all that was written at an end: its first item carries nothing
abbrev pub arriving_of : List Saying → List (List ℕ) → List Arriving
arriving_of said [] = []
arriving_of said (piece ∷ rest) = (length piece, None) ∷ arriving_behind said [] 0 rest
