-- What a node keeps.
use Rattle.std.specs.Prelude.{Bool}
use Rattle.ch_model.specs.NodeState.{NodeState}

-- the node, and whether a call of it has stopped, after which it answers nothing else
pub record Kept : Type 0 where
  pub failed : Bool
  pub state : NodeState
