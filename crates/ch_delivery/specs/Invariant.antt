-- What comes about.
use Rattle.std.specs.Prelude.{◌≡◌, ◌≢◌, ℕ, Bool, true, List}
use Rattle.ch_delivery.specs.Passage.{Broken, Passage, start}
use Rattle.ch_delivery.specs.Moves.{Move, run, AllAllowed}

-- the passage comes about by moves that may happen
abbrev pub IsReached : Passage → Type 0
IsReached p = (named : ℕ → Bool) × (moves : List Move) × AllAllowed moves (start named) × (run moves (start named) ≡ p)

-- no pair with a name waits to be reconnected
abbrev pub NamesGoOn : Passage → Type 0
NamesGoOn p = (c : ℕ) → p.named c ≡ true → p.mark c ≢ Broken
