-- What a process does with a pair that has no open connection: nothing goes to the other node.
use Rattle.std.specs.Prelude.{◌≡◌, ℕ, ◌+◌, false, [], ◌∷◌, List, slice_get, Some, None, Ok}
use Rattle.ch_ident.specs.declared.message.Message.{Message}
use Rattle.ch_model.specs.declared.act.Act.TheVariants as acts
use Rattle.ch_model.specs.declared.note.Note.TheVariants as notes
use Rattle.ch_model.specs.NodeState as nodes
use Rattle.ch_model.specs.NodeState.{Pair}
use Rattle.ch_model.specs.NodeIds.{process_id, is_here, target_at}
use Rattle.ch_model.specs.NodeActs.{growing}
use Rattle.ch_model.specs.NodePairs.{keeping, conn_of}
use Rattle.ch_model.specs.NodeSends.{with_said, say, reconnect}
use Rattle.ch_delivery.specs.Passage.{Said, Again}
use Rattle.ch_delivery.specs.Moves.{Say, Reconnect, after}
use Rattle.ch_laws_delivery.specs.Scene.{Name, Scene}
use Rattle.ch_laws_delivery.specs.Sending.{has_ended, pair_at}
use Rattle.ch_laws_delivery.specs.Reconnects.{next_of}
use Rattle.ch_laws_delivery.specs.View.{view}

-- ---- a message of a broken pair

-- Pair c says a message: its process lives and the pair is broken, to another node.
pub record SaysBroken (names : List Name) (scene : Scene) (c : ℕ) (name : Name) : Type 0 where
  pub known : slice_get names c ≡ Some name
  pub lives : has_ended scene.from.node name.by ≡ false
  pub broke : (pair_at scene.from.node name).mark ≡ nodes.Broken
  pub away : is_here scene.from.node (target_at name.to) ≡ false
  pub grows : growing (pair_at scene.from.node name).index ≡ Ok (pair_at scene.from.node name).index

-- the scene after it
abbrev pub wasted_in : Scene → ℕ → Pair → Scene
wasted_in scene c pair = record scene { from = record (scene.from) { node = keeping scene.from.node (with_said pair) }; log = Said c pair.epoch pair.index ∷ scene.log }

-- The node tells that it is said and does nothing more; and what is seen then is the passage after the move.
pub record IsWasted (names : List Name) (scene : Scene) (c : ℕ) (name : Name) (said : Message) : Type 0 where
  pub node_says : say scene.from.node (pair_at scene.from.node name) said
      ≡ Ok (
        acts.Note (notes.Said (process_id scene.from.node (pair_at scene.from.node name).by) (pair_at scene.from.node name).to (pair_at scene.from.node name).epoch (pair_at scene.from.node name).index said) ∷ [],
        keeping scene.from.node (with_said (pair_at scene.from.node name)),
      )
  pub seen : view names (wasted_in scene c (pair_at scene.from.node name)) ≡ after (Say c) (view names scene)

-- ---- a reconnect

-- Pair c is reconnected: its process lives, and the pair's mark has no connection.
pub record ReconnectsBare (names : List Name) (scene : Scene) (c : ℕ) (name : Name) : Type 0 where
  pub known : slice_get names c ≡ Some name
  pub lives : has_ended scene.from.node name.by ≡ false
  pub bare : conn_of (pair_at scene.from.node name).mark ≡ None
  pub grows : growing (pair_at scene.from.node name).epoch ≡ Ok (pair_at scene.from.node name).epoch

-- the scene after it
abbrev pub renewed_in : Scene → ℕ → Pair → Scene
renewed_in scene c pair = record scene { from = record (scene.from) { node = keeping scene.from.node (next_of pair) }; log = Again c (pair.epoch + 1) ∷ scene.log }

-- The node tells the next epoch and does nothing more; and what is seen then is the passage after the move.
pub record IsRenewed (names : List Name) (scene : Scene) (c : ℕ) (name : Name) : Type 0 where
  pub node_reconnects : reconnect scene.from.node (pair_at scene.from.node name)
      ≡ Ok (
        acts.Note (notes.Again (process_id scene.from.node (pair_at scene.from.node name).by) (pair_at scene.from.node name).to ((pair_at scene.from.node name).epoch + 1)) ∷ [],
        keeping scene.from.node (next_of (pair_at scene.from.node name)),
      )
  pub seen : view names (renewed_in scene c (pair_at scene.from.node name)) ≡ after (Reconnect c) (view names scene)
