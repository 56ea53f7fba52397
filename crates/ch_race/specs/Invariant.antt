-- All that is so of a pair after any moves that may happen.
use Rattle.std.specs.Prelude.{◌≡◌, ℕ, Bool, List}
use Rattle.ch_race.specs.Pair.{Side, Pair, start}
use Rattle.ch_race.specs.Moves.{Move, run, AllAllowed}
use Rattle.ch_race.specs.Settle.{AllWithin}
use Rattle.ch_race.specs.Naming.{Naming}
use Rattle.ch_race.specs.Words.{Worded}
use Rattle.ch_race.specs.Probes.{Probing}
use Rattle.ch_race.specs.Quiet.{Quieted}

-- naming, what is unread, the account of probes, and what is so while quiet
pub record Invariant (p : Pair) : Type 0 where
  pub named : Naming p
  pub words : Worded p
  pub probes : Probing p
  pub quieted : Quieted p

-- the pair comes about by moves that may happen, between two nodes, or a node and the name of one that isn't there
abbrev pub IsReached : Pair → Type 0
IsReached p = (away : Side → Bool) × (moves : List Move) × AllAllowed moves (start away) × (run moves (start away) ≡ p)

-- the same by moves at the first n sockets
abbrev pub IsReachedWithin : ℕ → Pair → Type 0
IsReachedWithin n p = (away : Side → Bool) × (moves : List Move) × AllAllowed moves (start away) × AllWithin n moves × (run moves (start away) ≡ p)
