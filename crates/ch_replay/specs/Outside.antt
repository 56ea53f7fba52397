-- What a run has taken from its source and given to its sink.
use Rattle.std.specs.Prelude.{◌≡◌, ℕ, ◌+◌, ◌<◌, List, [], ◌++◌, length, take, Option, Some, None}
use Rattle.ch_model.specs.Journal.{longest_journal}

-- these bytes stood in front of what is left now, where the source tells
abbrev pub Taken : Option (List ℕ) → Option (List ℕ) → List ℕ → Type 0
Taken None now bytes = now ≡ None
Taken (Some before) now bytes = (rest : List ℕ) × (now ≡ Some rest) × (before ≡ bytes ++ rest)

-- All that the source had was taken, or the first bytes of it up to one more than a journal may have.
abbrev pub IsIntake : Option (List ℕ) → Option (List ℕ) → List ℕ → Type 0
IsIntake None now bytes = now ≡ None
IsIntake (Some before) now bytes = (bytes ≡ take (longest_journal + 1) before) × (length bytes < longest_journal + 1 → now ≡ Some [])

-- this text was appended, where the sink tells
abbrev pub Appended : List ℕ → Option (List ℕ) → Option (List ℕ) → Type 0
Appended text None now = now ≡ None
Appended text (Some before) now = now ≡ Some (before ++ text)

-- some first bytes of this text were appended
abbrev pub AppendedSome : List ℕ → Option (List ℕ) → Option (List ℕ) → Type 0
AppendedSome text before now = (n : ℕ) × Appended (take n text) before now
