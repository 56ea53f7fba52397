-- The order of connections that arrived.
use Rattle.std.specs.Prelude.{ℕ, ◌+◌, ◌≤◌, List, [], ◌∷◌}
use Rattle.ch_model.specs.NodeState.{Arrived}

-- the numbers rise from a lowest one, and stay below the next
abbrev pub Rises : ℕ → List Arrived → ℕ → Type 0
Rises lowest [] next = lowest ≤ next
Rises lowest (arrived ∷ rest) next = (lowest ≤ arrived.conn) × Rises (arrived.conn + 1) rest next
