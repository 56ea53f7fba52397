-- What a host tells of one call: ends are closed first, and at most one comes up, or is dialed, last.
use Rattle.std.specs.Prelude.{Bool, true, false, cond, not, List, [], ◌∷◌}
use Rattle.std.specs.List.{list_all}
use Rattle.ch_model.specs.declared.entry.Entry.{Entry}
use Rattle.ch_model.specs.declared.entry.Entry.TheVariants as entries
use Rattle.ch_model.specs.declared.step.Step.{Step}
use Rattle.ch_model.specs.declared.step.Step.TheVariants as steps

-- ---- steps

-- a socket is dialed, or a link comes up
abbrev pub step_starts : Step → Bool
step_starts (steps.Dial sock end peer) = true
step_starts (steps.Up sock) = true
step_starts step = false

-- that, or an end is closed
abbrev pub step_turns : Step → Bool
step_turns (steps.Dial sock end peer) = true
step_turns (steps.Up sock) = true
step_turns (steps.Down sock) = true
step_turns (steps.Left sock) = true
step_turns step = false

abbrev pub no_starts : List Step → Bool
no_starts told = list_all (λ step. not (step_starts step)) told

abbrev pub no_turns : List Step → Bool
no_turns told = list_all (λ step. not (step_turns step)) told

-- what starts comes last of all that turns
abbrev pub starts_last : List Step → Bool
starts_last [] = true
starts_last (step ∷ rest) = cond (step_starts step) (no_turns rest) (starts_last rest)

-- ---- entries

abbrev pub is_start : Entry → Bool
is_start (entries.Dial sock) = true
is_start (entries.Up sock end) = true
is_start entry = false

abbrev pub is_turn : Entry → Bool
is_turn (entries.Dial sock) = true
is_turn (entries.Up sock end) = true
is_turn (entries.Down sock end) = true
is_turn (entries.Left sock end) = true
is_turn entry = false

abbrev pub startless : List Entry → Bool
startless log = list_all (λ entry. not (is_start entry)) log

abbrev pub turnless : List Entry → Bool
turnless log = list_all (λ entry. not (is_turn entry)) log

abbrev pub start_last : List Entry → Bool
start_last [] = true
start_last (entry ∷ rest) = cond (is_start entry) (turnless rest) (start_last rest)
