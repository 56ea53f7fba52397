-- Settling: visits of the sockets until nothing is to be done there, and then one round of timers.
use Rattle.std.specs.Prelude.{◌≡◌, ◌<◌, ◌≤◌, ℕ, true, List, [], ◌∷◌, ◌++◌, length}
use Rattle.ch_link.specs.Sockets.{names}
use Rattle.ch_link.specs.declared.LinkState.{LinkState}
use Rattle.ch_link.specs.declared.LinkState.TheVariants.{AwaitOther}
use Rattle.ch_race.specs.Pair.{Side, Lesser, Greater, OEnded, TEnded, Pair}
use Rattle.ch_race.specs.Moves.{Move, Want, Join, Come, Read_o, Read_t, End_o, End_t, Refuse, Lose_o, Lose_t, Cut_o, Cut_t, Timer, after, run, AllAllowed, AtRest}
use Rattle.ch_race.specs.Measure.{whole, Reads_o, Reads_t}

-- the links name only the first n sockets
abbrev pub Bounded : ℕ → Pair → Type 0
Bounded n p = (x : Side) (j : ℕ) → names (p.link x) j ≡ true → j < n

-- only the first n sockets were ever dialed, or all others are long dead
abbrev pub Beyond : ℕ → Pair → Type 0
Beyond n p = (j : ℕ) → n ≤ j → ((p.sock j).o ≡ OEnded) × ((p.sock j).t ≡ TEnded)

-- the move is at one of the first n sockets, if at any
abbrev pub IsWithin : ℕ → Move → Type 0
IsWithin n (Want x i) = i < n
IsWithin n (Join i) = i < n
IsWithin n (Come i) = i < n
IsWithin n (Read_o i) = i < n
IsWithin n (Read_t i) = i < n
IsWithin n (End_o i) = i < n
IsWithin n (End_t i) = i < n
IsWithin n (Refuse i) = i < n
IsWithin n (Lose_o i) = i < n
IsWithin n (Lose_t i) = i < n
IsWithin n (Cut_o i) = i < n
IsWithin n (Cut_t i) = i < n
IsWithin n m = Unit {0}

-- the same of each of the moves
abbrev pub AllWithin : ℕ → List Move → Type 0
AllWithin n [] = Unit {0}
AllWithin n (m ∷ ms) = IsWithin n m × AllWithin n ms

-- a move that settling makes: at one of the first n sockets an end joins, comes, reads an item or the end of its input
abbrev pub Visits : ℕ → Move → Pair → Type 0
Visits n (Join i) p = i < n
Visits n (Come i) p = i < n
Visits n (Read_o i) p = (i < n) × Reads_o (p.sock i).o (p.sock i).in_o
Visits n (Read_t i) p = (i < n) × Reads_t (p.sock i).t (p.sock i).in_t
Visits n (End_o i) p = i < n
Visits n (End_t i) p = i < n
Visits n m p = ⊥

-- each of the moves is such a visit
abbrev pub AllVisits : ℕ → List Move → Pair → Type 0
AllVisits n [] p = Unit {0}
AllVisits n (m ∷ ms) p = Visits n m p × AllVisits n ms (after m p)

-- a move of settling: a visit, or a timer, which may run out where all is still
abbrev pub Settles : ℕ → Move → Pair → Type 0
Settles n (Timer x) p = Unit {0}
Settles n m p = Visits n m p

-- each of the moves is one of settling
abbrev pub AllSettle : ℕ → List Move → Pair → Type 0
AllSettle n [] p = Unit {0}
AllSettle n (m ∷ ms) p = Settles n m p × AllSettle n ms (after m p)

-- the timer of a node that awaits the other runs out
abbrev pub timer_of : Side → LinkState → List Move
timer_of x AwaitOther = Timer x ∷ []
timer_of x k = []

-- the round of timers
abbrev pub timers : Pair → List Move
timers p = timer_of Lesser (p.link Lesser) ++ timer_of Greater (p.link Greater)

-- the visits in their order, and then one round of timers
abbrev pub and_timers : List Move → Pair → List Move
and_timers visits p = visits ++ timers (run visits p)

-- these visits and then one round of timers lead to rest, in no more moves than the weight
pub record SettlesBy (n : ℕ) (visits : List Move) (p : Pair) : Type 0 where
  pub visited : AllVisits n visits p
  pub allowed : AllAllowed (and_timers visits p) p
  pub at_most : length (and_timers visits p) ≤ whole n p
  pub rest : AtRest (run (and_timers visits p) p)
