-- A close that is read on the socket that the receiving node is up on.
use Rattle.std.specs.Prelude.{◌≡◌, ℕ, ◌+◌, true, List, [], ◌∷◌, slice_get, slice_set, Some, Ok}
use Rattle.ch_base.specs.declared.event.Event.TheVariants as events
use Rattle.ch_light.specs.declared.TheConstants.{FIRST_ID}
use Rattle.ch_light.specs.declared.Connection.{Connection}
use Rattle.ch_light.specs.Ids.{opened, closed}
use Rattle.ch_wire.specs.declared.frame.Frame.TheVariants as frames
use Rattle.ch_model.specs.declared.step.Step.TheVariants as steps
use Rattle.ch_model.specs.HostState.{Link, Socket, HostState}
use Rattle.ch_model.specs.HostSteps.{with_link}
use Rattle.ch_model.specs.HostItems.{reads_frame}
use Rattle.ch_model.specs.NodeArrivals.{departs}
use Rattle.ch_model.specs.Node.{node_event}
use Rattle.ch_delivery.specs.Passage as items
use Rattle.ch_delivery.specs.Passage.{Item}
use Rattle.ch_delivery.specs.Moves.{Read, put, after}
use Rattle.ch_laws_delivery.specs.Scene.{Name, Scene, link_of}
use Rattle.ch_laws_delivery.specs.Receiving.{place_for}
use Rattle.ch_laws_delivery.specs.View.{view}

-- what is read: the pair and its epoch, the place of its connection among those of the socket, and its number
pub record Closing : Type 0 where
  pub pair : ℕ
  pub epoch : ℕ
  pub place : ℕ
  pub conn : ℕ

-- The close is the first item there; its connection is open, and no other open one has its number.
pub record ClosesFirst (scene : Scene) (rest : List Item) (k : Closing) : Type 0 where
  pub first : scene.way.flight scene.way.at ≡ items.Closed k.pair k.epoch ∷ rest
  pub used : place_for k.pair k.epoch scene.created ≡ Some k.place
  pub created : slice_get (link_of scene.to).created k.place ≡ Some (opened k.conn)
  pub alone : (i : ℕ) (known : Connection) → slice_get (link_of scene.to).created i ≡ Some known → known.is_open ≡ true → known.number ≡ k.conn → i ≡ k.place

-- the host that has read it
abbrev pub host_after : HostState → Link → Closing → HostState
host_after host link k = with_link (record link { created = slice_set link.created k.place (closed k.conn) }) host

-- the scene after it
abbrev pub departed_in : Scene → List Item → Closing → Scene
departed_in scene rest k = record scene {
  to = record (scene.to) { node = departs scene.to.node k.conn; host = host_after scene.to.host (link_of scene.to) k };
  way = record (scene.way) { flight = put scene.way.at rest scene.way.flight };
}

-- The host closes the connection and tells its node, on whatever socket of the link; the node forgets it, and says nothing;
-- and what is seen then is the passage after the move.
pub record IsDeparted (names : List Name) (scene : Scene) (rest : List Item) (k : Closing) : Type 0 where
  pub host_tells : (socket : Socket) → reads_frame socket (link_of scene.to) (frames.Closed (FIRST_ID + k.place)) scene.to.host
      ≡ Ok (steps.Post (link_of scene.to).end (events.ConnectionClosed k.conn) ∷ [], host_after scene.to.host (link_of scene.to) k)
  pub node_forgets : node_event scene.to.node (events.ConnectionClosed k.conn) ≡ Ok ([], departs scene.to.node k.conn)
  pub seen : view names (departed_in scene rest k) ≡ after Read (view names scene)
