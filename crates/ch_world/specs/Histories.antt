-- A journal so far with its log, and one more line.
use Rattle.std.specs.Prelude.{ℕ, Bool, not, ◌&&◌, List, ◌∷◌, [], ◌++◌, length, Result, Ok, Err}
use Rattle.std.specs.List.{list_all}
use Rattle.ch_base.specs.declared.memory.Stop.{Stop}
use Rattle.ch_model.specs.declared.entry.Entry.{Entry}
use Rattle.ch_model.specs.declared.line.Line.{Line}
use Rattle.ch_model.specs.declared.line.What.{What}
use Rattle.ch_model.specs.WorldState.{World}
use Rattle.ch_model.specs.Settle.{Happened}
use Rattle.ch_model.specs.World.{is_declaration, world_step}
use Rattle.ch_world.specs.Lines.{is_settle}

-- the lines so far, their entries, the world after them, and whether a call was refused
pub record Told : Type 0 where
  pub journal : List Line
  pub log : List Entry
  pub state : World
  pub failed : Bool

-- no line but declarations
abbrev pub all_declare : List Line → Bool
all_declare lines = list_all (λ line. is_declaration line.what) lines

-- an event line that isn't `settle`
abbrev pub is_event : What → Bool
is_event what = not (is_declaration what) && not (is_settle what)

-- one more line with its entries, and how many these are
abbrev pub with_line : Line → Told → Happened → Result (ℕ × Told) Stop
with_line line told (Ok done) = Ok (length done.0, record told { journal = told.journal ++ line ∷ []; log = told.log ++ done.0; state = done.1 })
with_line line told (Err stop) = Err stop

abbrev pub told_step : Line → Told → Result (ℕ × Told) Stop
told_step line told = with_line line told (world_step told.state line)
