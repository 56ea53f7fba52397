-- What a cell keeps.
use Rattle.std.specs.Prelude.{Bool, List}
use Rattle.ch_model.specs.declared.local.Happened.{Happened}
use Rattle.ch_model.specs.WorldState.{Cell}

-- the host and its nodes as they were opened and as they are, all that has happened, and whether a call has stopped,
-- after which the cell answers nothing else
pub record Kept : Type 0 where
  pub failed : Bool
  pub opening : Cell
  pub state : Cell
  pub history : List Happened
