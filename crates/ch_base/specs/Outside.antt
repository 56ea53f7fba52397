-- What a count of faults says, and how a source's and a sink's bytes change.
use Rattle.std.specs.Prelude.{◌≡◌, ℕ, ◌<◌, ◌≤◌, ◌-◌, ◌^◌, List, [], ◌++◌, length, take, drop, Option, Some, None}

-- the count rose between these two moments, or it can't rise any more
abbrev pub Rose : ℕ → ℕ → Type 0
Rose before now = now < 2 ^ 64 - 1 → before < now

-- What was left of a source, where it tells, is the first n bytes of what was lent and what is left now.
-- Nothing was taken for a slice that isn't empty only where nothing was left.
abbrev pub Reads : Option (List ℕ) → Option (List ℕ) → ℕ → List ℕ → Type 0
Reads None now n lent = now ≡ None
Reads (Some before) now n lent = (now ≡ Some (drop n before)) × (take n before ≡ take n lent) × (n ≤ length before) × (n ≡ 0 → 0 < length lent → before ≡ [])

-- what a sink holds, where it tells, has grown by the first n of these bytes
abbrev pub Writes : Option (List ℕ) → Option (List ℕ) → ℕ → List ℕ → Type 0
Writes None now n bytes = now ≡ None
Writes (Some before) now n bytes = now ≡ Some (before ++ take n bytes)
