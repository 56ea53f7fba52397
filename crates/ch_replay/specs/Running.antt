-- How far a journal has run: its declarations and, from its first event line on, its world.
use Rattle.std.specs.Prelude.{List, [], Option, None}
use Rattle.ch_model.specs.declared.line.Line.{Line}
use Rattle.ch_model.specs.WorldState.{World}

-- the declarations that were read, and the world that they made, where an event line came
pub record Running : Type 0 where
  pub declared : List Line
  pub world : Option World

-- before the first line
abbrev pub unbegun : Running
unbegun = record { declared = []; world = None }
