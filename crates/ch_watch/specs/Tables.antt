-- How the table of names is kept.
use Rattle.std.specs.Prelude.{◌≡◌, ℕ, List, [], ◌∷◌}
use Rattle.ch_watch.specs.declared.named.Named.{Named}

-- each name stands under its own bytes
abbrev pub UnderNames : {K : Type 0} → (K → List ℕ) → List (K × Named) → Type 0
UnderNames spelled [] = Unit {0}
UnderNames spelled (e ∷ es) = (e.1.name ≡ spelled e.0) × UnderNames spelled es
