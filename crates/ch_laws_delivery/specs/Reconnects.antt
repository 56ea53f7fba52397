-- A pair with an open connection is reconnected while the link isn't up.
use Rattle.std.specs.Prelude.{◌≡◌, ℕ, ◌+◌, false, List, [], ◌∷◌, ◌++◌, find, slice_get, Some, Ok}
use Rattle.ch_light.specs.declared.Connection.{Connection}
use Rattle.ch_light.specs.Ids.{close_of}
use Rattle.ch_wire.specs.declared.frame.Frame.TheVariants as frames
use Rattle.ch_model.specs.declared.act.Act.TheVariants as acts
use Rattle.ch_model.specs.declared.note.Note.TheVariants as notes
use Rattle.ch_model.specs.declared.step.Weight.TheVariants.{Free}
use Rattle.ch_model.specs.HostState.{Link, HostState}
use Rattle.ch_model.specs.HostSteps.{with_link}
use Rattle.ch_model.specs.HostWrites.{is_up}
use Rattle.ch_model.specs.HostCalls.{carries, host_close}
use Rattle.ch_model.specs.NodeState as nodes
use Rattle.ch_model.specs.NodeState.{NodeState, Pair}
use Rattle.ch_model.specs.NodeIds.{process_id}
use Rattle.ch_model.specs.NodeActs.{growing}
use Rattle.ch_model.specs.NodePairs.{keeping}
use Rattle.ch_model.specs.NodeSends.{reconnect}
use Rattle.ch_delivery.specs.Passage.{Again}
use Rattle.ch_delivery.specs.Moves.{Reconnect, after}
use Rattle.ch_laws_delivery.specs.Scene.{Name, Scene, link_of}
use Rattle.ch_laws_delivery.specs.Sending.{has_ended, pair_at, use_at}
use Rattle.ch_laws_delivery.specs.View.{view}

-- Pair c is reconnected: its process lives and its connection is open; the link isn't up; the connection has an id there,
-- which is for this pair and epoch, and is closed in the table of ids.
pub record ReconnectsOpen (names : List Name) (scene : Scene) (c : ℕ) (name : Name) (conn id : ℕ) (table : List Connection) : Type 0 where
  pub known : slice_get names c ≡ Some name
  pub lives : has_ended scene.from.node name.by ≡ false
  pub opened : (pair_at scene.from.node name).mark ≡ nodes.Opened conn
  pub grows : growing (pair_at scene.from.node name).epoch ≡ Ok (pair_at scene.from.node name).epoch
  pub carried : find (carries scene.from.end conn) scene.from.host.links ≡ Some (link_of scene.from)
  pub down : is_up (link_of scene.from).state ≡ false
  pub closes : close_of (link_of scene.from).given conn ≡ Ok (id, table)
  pub used : use_at scene.given id ≡ Some (record { pair = c; epoch = (pair_at scene.from.node name).epoch })

-- the pair in its next epoch
abbrev pub next_of : Pair → Pair
next_of pair = record pair { epoch = pair.epoch + 1; index = 0; mark = nodes.Unopened }

-- the host that has closed the connection
abbrev pub closed_host : HostState → Link → ℕ → List Connection → HostState
closed_host host link id table = with_link (record link { given = table; waits = link.waits ++ (frames.Closed id, Free) ∷ [] }) host

-- the scene after it
abbrev pub reconnected_in : Scene → ℕ → Pair → ℕ → List Connection → Scene
reconnected_in scene c pair id table = record scene {
  from = record (scene.from) { node = keeping scene.from.node (next_of pair); host = closed_host scene.from.host (link_of scene.from) id table };
  log = Again c (pair.epoch + 1) ∷ scene.log;
}

-- The node tells the next epoch and closes the connection, the host keeps its close behind what waits, and what is seen
-- then is the passage after the move.
pub record IsReconnected (names : List Name) (scene : Scene) (c : ℕ) (name : Name) (conn id : ℕ) (table : List Connection) : Type 0 where
  pub node_reconnects : reconnect scene.from.node (pair_at scene.from.node name)
      ≡ Ok (
        acts.Note (notes.Again (process_id scene.from.node (pair_at scene.from.node name).by) (pair_at scene.from.node name).to ((pair_at scene.from.node name).epoch + 1)) ∷ acts.Close conn ∷ [],
        keeping scene.from.node (next_of (pair_at scene.from.node name)),
      )
  pub host_closes : host_close scene.from.host scene.from.end conn ≡ Ok ([], closed_host scene.from.host (link_of scene.from) id table)
  pub seen : view names (reconnected_in scene c (pair_at scene.from.node name) id table) ≡ after (Reconnect c) (view names scene)
