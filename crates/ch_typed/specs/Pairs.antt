-- The spelling of a pair.
use Rattle.std.specs.Prelude.{ℕ, ◌<◌, ◌^◌, ◌++◌, List, length, take, drop, Option, Some, None, nat_lt, if◌then◌else◌}
use Rattle.std.specs.Int.{w64, to_be_bytes, from_be_bytes}

-- the length of the first spelling in eight bytes, and both spellings
abbrev pub pair_spelling : {A B : Type 0} → (A → List ℕ) → (B → List ℕ) → A × B → List ℕ
pair_spelling first second pair = to_be_bytes w64 (length (first pair.0)) ++ (first pair.0 ++ second pair.1)

-- both parts are values, and the first's spelling has a length of eight bytes
abbrev pub PairFits : {A B : Type 0} → (A → Type 0) → (B → Type 0) → (A → List ℕ) → A × B → Type 0
PairFits fits fits2 first pair = fits pair.0 × fits2 pair.1 × (length (first pair.0) < 2 ^ 64)

-- a number of eight bytes, and the bytes after it
unfoldable pub length_at : List ℕ → Option (ℕ × List ℕ)
length_at bytes = if nat_lt (length bytes) 8 then None else Some (from_be_bytes w64 (take 8 bytes), drop 8 bytes)

-- both values, where both are there
abbrev pub both : {A B : Type 0} → Option A → Option B → Option (A × B)
both None second = None
both (Some a) None = None
both (Some a) (Some b) = Some (a, b)

-- so many bytes are the first part, and the rest are the second
abbrev pub parts_read : {A B : Type 0} → (List ℕ → Option A) → (List ℕ → Option B) → Option (ℕ × List ℕ) → Option (A × B)
parts_read read read2 None = None
parts_read read read2 (Some head) = if nat_lt (length head.1) head.0 then None else both (read (take head.0 head.1)) (read2 (drop head.0 head.1))

unfoldable pub pair_read : {A B : Type 0} → (List ℕ → Option A) → (List ℕ → Option B) → List ℕ → Option (A × B)
pair_read read read2 bytes = parts_read read read2 (length_at bytes)
