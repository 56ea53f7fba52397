-- What a node does that changes no pair and ends no process: nothing of it is seen on the sending side.
use Rattle.std.specs.Prelude.{◌≡◌, ℕ}
use Rattle.ch_model.specs.NodeState.{NodeState}
use Rattle.ch_laws_delivery.specs.Scene.{Scene}
use Rattle.ch_laws_delivery.specs.Sending.{is_over_at}

-- the pairs are as before, and the same processes are over
pub record Keeps (node now : NodeState) : Type 0 where
  pub pairs : now.pairs ≡ node.pairs
  pub shut : now.is_shut ≡ node.is_shut
  pub over : (by : ℕ) → is_over_at now by ≡ is_over_at node by

-- the scene where the sending node is this
abbrev pub kept_in : Scene → NodeState → Scene
kept_in scene now = record scene { from = record (scene.from) { node = now } }
