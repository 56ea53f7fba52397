-- A history replayed from the state that a cell was opened in.
use Rattle.std.specs.Prelude.{◌≡◌, Bool, false, List, [], ◌∷◌, ◌++◌, Result, Ok, MatchResult}
use Rattle.ch_base.specs.declared.memory.Stop.{Stop}
use Rattle.ch_model.specs.declared.local.Happened.{Happened}
use Rattle.ch_model.specs.declared.local.LocalEntries.{LocalEntries}
use Rattle.ch_model.specs.declared.local.LocalEvent.{LocalEvent}
use Rattle.ch_model.specs.WorldState.{Cell}
use Rattle.ch_model.specs.Cell.{cell_step}
use Rattle.ch_cell.specs.Stops.{Stops}

-- a cell makes this of an event, and is this cell then
unfoldable pub Makes : Cell → LocalEvent → LocalEntries → Cell → Type 0
Makes before event made after = cell_step before event ≡ Ok ((made.verdict, made.entries), after)

-- from one state the events of a history give, one after another, what it holds, and end in another
abbrev pub Replays : Cell → List Happened → Cell → Type 0
Replays before [] last = last ≡ before
Replays before (one ∷ rest) last = (next : Cell) × Makes before one.event one.made next × Replays next rest last

-- The history is that of the state in which the cell was opened, and leads to the state that it is in, unless it has stopped.
unfoldable pub IsReplayed : Bool → Cell → Cell → List Happened → Type 0
IsReplayed failed opening state history = (last : Cell) × Replays opening history last × (failed ≡ false → state ≡ last)

-- a call answers what the cell makes of an event, or stops
unfoldable pub Answers : Cell → LocalEvent → Result LocalEntries Stop → Cell → Type 0
Answers before event result after = MatchResult result (λ made. cell_step before event ≡ Ok ((made.verdict, made.entries), after)) (λ e. Stops e (cell_step before event))

-- what was answered is the last of the history, where nothing stopped
unfoldable pub Told : List Happened → LocalEvent → Result LocalEntries Stop → List Happened → Type 0
Told before event result after = MatchResult result (λ made. after ≡ before ++ record { event = event; made = made } ∷ []) (λ _. after ≡ before)
