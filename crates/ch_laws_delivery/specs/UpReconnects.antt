-- A pair with an open connection is reconnected while the link is up.
use Rattle.std.specs.Prelude.{◌≡◌, ℕ, ◌+◌, Bool, false, List, [], ◌∷◌, find, slice_get, Some, Ok}
use Rattle.ch_light.specs.declared.Connection.{Connection}
use Rattle.ch_light.specs.Ids.{close_of}
use Rattle.ch_link.specs.declared.LinkState.TheVariants.{Up}
use Rattle.ch_wire.specs.declared.frame.Frame.{Frame}
use Rattle.ch_wire.specs.declared.frame.Frame.TheVariants as frames
use Rattle.ch_model.specs.declared.act.Act.TheVariants as acts
use Rattle.ch_model.specs.declared.note.Note.TheVariants as notes
use Rattle.ch_model.specs.declared.step.Weight.{Weight}
use Rattle.ch_model.specs.declared.step.Weight.TheVariants.{Free}
use Rattle.ch_model.specs.HostState.{Link, HostState}
use Rattle.ch_model.specs.HostSteps.{with_link}
use Rattle.ch_model.specs.HostWrites.{frame_step}
use Rattle.ch_model.specs.HostCalls.{carries, host_close}
use Rattle.ch_model.specs.NodeState as nodes
use Rattle.ch_model.specs.NodeState.{Pair}
use Rattle.ch_model.specs.NodeIds.{process_id}
use Rattle.ch_model.specs.NodeActs.{growing}
use Rattle.ch_model.specs.NodePairs.{keeping}
use Rattle.ch_model.specs.NodeSends.{reconnect}
use Rattle.ch_delivery.specs.Passage.{Again}
use Rattle.ch_delivery.specs.Moves.{Reconnect, after}
use Rattle.ch_laws_delivery.specs.Scene.{Name, Scene, link_of}
use Rattle.ch_laws_delivery.specs.Sending.{has_ended, pair_at, use_at}
use Rattle.ch_laws_delivery.specs.UpSends.{sent}
use Rattle.ch_laws_delivery.specs.Reconnects.{next_of}
use Rattle.ch_laws_delivery.specs.View.{view}

-- Pair c is reconnected: its process lives and its connection is open; the link is up on a socket; the connection has an
-- id there, which is for this pair and epoch, and is closed in the table of ids.
pub record ReconnectsUp (names : List Name) (scene : Scene) (c : ℕ) (name : Name) (conn id sock : ℕ) (probed : Bool) (table : List Connection) : Type 0 where
  pub known : slice_get names c ≡ Some name
  pub lives : has_ended scene.from.node name.by ≡ false
  pub opened : (pair_at scene.from.node name).mark ≡ nodes.Opened conn
  pub grows : growing (pair_at scene.from.node name).epoch ≡ Ok (pair_at scene.from.node name).epoch
  pub carried : find (carries scene.from.end conn) scene.from.host.links ≡ Some (link_of scene.from)
  pub up : (link_of scene.from).state ≡ Up sock probed
  pub closes : close_of (link_of scene.from).given conn ≡ Ok (id, table)
  pub used : use_at scene.given id ≡ Some (record { pair = c; epoch = (pair_at scene.from.node name).epoch })

-- the frame that closes the connection
abbrev pub close_frame : ℕ → Frame × Weight
close_frame id = (frames.Closed id, Free)

-- the host that has closed it
abbrev pub host_without : HostState → Link → List Connection → HostState
host_without host link table = with_link (record link { given = table }) host

-- the scene after it
abbrev pub closed_in : Scene → ℕ → Pair → ℕ → List Connection → Scene
closed_in scene c pair id table = record scene {
  from = record (scene.from) { node = keeping scene.from.node (next_of pair); host = host_without scene.from.host (link_of scene.from) table };
  way = sent scene.given (close_frame id ∷ []) scene.way;
  log = Again c (pair.epoch + 1) ∷ scene.log;
}

-- The node tells the next epoch and closes the connection, the host writes its close and nothing more, and what is seen
-- then is the passage after the move.
pub record IsClosed (names : List Name) (scene : Scene) (c : ℕ) (name : Name) (conn id sock : ℕ) (table : List Connection) : Type 0 where
  pub node_reconnects : reconnect scene.from.node (pair_at scene.from.node name)
      ≡ Ok (
        acts.Note (notes.Again (process_id scene.from.node (pair_at scene.from.node name).by) (pair_at scene.from.node name).to ((pair_at scene.from.node name).epoch + 1)) ∷ acts.Close conn ∷ [],
        keeping scene.from.node (next_of (pair_at scene.from.node name)),
      )
  pub host_closes : host_close scene.from.host scene.from.end conn ≡ Ok (frame_step sock (close_frame id) ∷ [], host_without scene.from.host (link_of scene.from) table)
  pub seen : view names (closed_in scene c (pair_at scene.from.node name) id table) ≡ after (Reconnect c) (view names scene)
