-- An opening message that is read: the receiving node learns what its connection is for.
use Rattle.std.specs.Prelude.{◌≡◌, ℕ, true, ◌&&◌, ◌==◌, List, [], ◌∷◌, find, slice_get, Some, Ok, if◌then◌else◌}
use Rattle.ch_base.specs.declared.event.Event.TheVariants as events
use Rattle.ch_ident.specs.declared.identifier.Identifier.TheVariants as ends
use Rattle.ch_ident.specs.declared.identifier.ProcessId.{ProcessId}
use Rattle.ch_ident.specs.declared.node_message.NodeMessage.TheVariants as messages
use Rattle.ch_ident.specs.Reading.{message_of}
use Rattle.ch_light.specs.declared.Connection.{Connection}
use Rattle.ch_light.specs.Ids.{opened}
use Rattle.ch_static.specs.declared.target.Target.{Target}
use Rattle.ch_static.specs.declared.target.Target.TheVariants as targets
use Rattle.ch_watch.specs.Same.{same_node}
use Rattle.ch_model.specs.NodeState as nodes
use Rattle.ch_model.specs.NodeState.{NodeState, Arrived}
use Rattle.ch_model.specs.NodeIds.{is_here, is_living, is_port_here, target_at, opened_to}
use Rattle.ch_model.specs.NodeArrivals.{bind}
use Rattle.ch_model.specs.Node.{node_event}
use Rattle.ch_delivery.specs.Passage as items
use Rattle.ch_delivery.specs.Passage.{Item}
use Rattle.ch_delivery.specs.Moves.{Read, put, after}
use Rattle.ch_laws_delivery.specs.Scene.{Name, Scene, link_of}
use Rattle.ch_laws_delivery.specs.Receiving.{place_for}
use Rattle.ch_laws_delivery.specs.View.{view}

-- what is read: the pair and its epoch, the payload, the process that it is from and the target that it is for, the place
-- of its connection among those of the socket, its number, and what the node has of it
pub record Opening : Type 0 where
  pub pair : ℕ
  pub epoch : ℕ
  pub payload : List ℕ
  pub from : ProcessId
  pub to : Target
  pub place : ℕ
  pub conn : ℕ
  pub arrived : Arrived

-- The opening is the first item there, of a process of the peer to a target of this node; its connection is open, no
-- other open one has its number, and nothing was read on it.
pub record OpensFirst (names : List Name) (scene : Scene) (name : Name) (rest : List Item) (o : Opening) : Type 0 where
  pub first : scene.way.flight scene.way.at ≡ items.Created o.pair o.epoch ∷ rest
  pub known : slice_get names o.pair ≡ Some name
  pub target : name.to ≡ o.to
  pub used : place_for o.pair o.epoch scene.created ≡ Some o.place
  pub created : slice_get (link_of scene.to).created o.place ≡ Some (opened o.conn)
  pub alone : (i : ℕ) (known : Connection) → slice_get (link_of scene.to).created i ≡ Some known → known.is_open ≡ true → known.number ≡ o.conn → i ≡ o.place
  pub arrival : find (λ arrived. arrived.conn == o.conn) scene.to.node.arrived ≡ Some o.arrived
  pub unread : o.arrived.bound ≡ nodes.Unread
  pub read : message_of o.payload ≡ Ok (messages.Opening (ends.Process o.from) (opened_to o.to))
  pub of_peer : same_node o.from.node o.arrived.peer ≡ true
  pub to_here : is_here scene.to.node (target_at o.to) ≡ true

-- what the connection is for: the process if it lives, the port if it is open and its process lives, and names always
abbrev pub bound_for : NodeState → ProcessId → Target → nodes.Bound
bound_for node from (targets.Process to) = if is_living node to then nodes.ToTarget from (targets.Process to) else nodes.Void
bound_for node from (targets.Port to) = if is_living node to.process && is_port_here node to then nodes.ToTarget from (targets.Port to) else nodes.Void
bound_for node from (targets.Named at name) = nodes.ToNames from

-- the node that has read it
abbrev pub node_after : NodeState → Opening → NodeState
node_after node o = bind node o.arrived.conn (bound_for node o.from o.to)

-- the scene after it
abbrev pub opened_in : Scene → List Item → Opening → Scene
opened_in scene rest o = record scene {
  to = record (scene.to) { node = node_after scene.to.node o };
  way = record (scene.way) { flight = put scene.way.at rest scene.way.flight };
}

-- The node binds it, and says nothing; and what is seen then is the passage after the move.
pub record IsOpened (names : List Name) (scene : Scene) (rest : List Item) (o : Opening) : Type 0 where
  pub node_binds : node_event scene.to.node (events.Received o.conn o.payload) ≡ Ok ([], node_after scene.to.node o)
  pub seen : view names (opened_in scene rest o) ≡ after Read (view names scene)
