-- The order of open numbers in their table.
use Rattle.std.specs.Prelude.{◌≡◌, ℕ, ◌+◌, ◌≤◌, List, [], ◌∷◌}
use Rattle.ch_watch.specs.declared.waiting.Waiting.{Waiting}

-- the keys rise from a lowest one and stay below the next number, and each open number stands under itself
abbrev pub Rises : ℕ → List (ℕ × Waiting) → ℕ → Type 0
Rises lowest [] next = lowest ≤ next
Rises lowest (e ∷ es) next = (lowest ≤ e.0) × (e.1.number ≡ e.0) × Rises (e.0 + 1) es next
