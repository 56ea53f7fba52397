-- That a connection is created, read on the socket that the receiving node is up on: no item of the passage says so, as
-- nothing is known of a connection before its opening message.
use Rattle.std.specs.Prelude.{◌≡◌, ℕ, ◌+◌, true, false, ◌==◌, List, [], ◌∷◌, ◌++◌, length, find, nat_lt, nat_le, Option, None, Ok}
use Rattle.ch_base.specs.declared.event.Event.TheVariants as events
use Rattle.ch_light.specs.declared.TheConstants.{FIRST_ID, MOST_IDS}
use Rattle.ch_light.specs.Ids.{opened}
use Rattle.ch_wire.specs.declared.frame.Frame.TheVariants as frames
use Rattle.ch_model.specs.declared.step.Step.TheVariants as steps
use Rattle.ch_model.specs.HostState.{Link, Socket, HostState}
use Rattle.ch_model.specs.HostSteps.{with_link}
use Rattle.ch_model.specs.HostItems.{most_arrived, arrived_at, with_arrival, next_arrival, reads_frame}
use Rattle.ch_model.specs.NodeArrivals.{arrives}
use Rattle.ch_model.specs.Node.{node_event}
use Rattle.ch_laws_delivery.specs.Scene.{Name, Use, Scene, link_of}
use Rattle.ch_laws_delivery.specs.View.{view}

-- the number that the connection gets at the node
abbrev pub number_in : Scene → ℕ
number_in scene = next_arrival scene.to.host (link_of scene.to).end

-- The socket's ids are those that were created there, with room for one more, and the count of connections can grow; none
-- with the next number is known.
pub record CreatesNext (scene : Scene) : Type 0 where
  pub level : length scene.created ≡ length (link_of scene.to).created
  pub unspent : nat_le MOST_IDS (length (link_of scene.to).created) ≡ false
  pub grows : nat_lt (arrived_at scene.to.host (link_of scene.to).end) most_arrived ≡ true
  pub fresh : find (λ arrived. arrived.conn == number_in scene) scene.to.node.arrived ≡ None

-- the host that has read it
abbrev pub host_after : HostState → Link → HostState
host_after host link = with_arrival link.end (with_link (record link { created = link.created ++ opened (next_arrival host link.end) ∷ [] }) host)

-- the scene after it, whatever the connection is for
abbrev pub created_in : Scene → Option Use → Scene
created_in scene what = record scene {
  to = record (scene.to) { node = arrives scene.to.node (number_in scene) (link_of scene.to).peer; host = host_after scene.to.host (link_of scene.to) };
  created = scene.created ++ what ∷ [];
}

-- The host gives the connection a number and tells its node, on whatever socket of the link; the node knows it, and says
-- nothing; the ids are still those that were created there; and what is seen is as before.
pub record IsCreated (names : List Name) (scene : Scene) (what : Option Use) : Type 0 where
  pub host_tells : (socket : Socket) → reads_frame socket (link_of scene.to) (frames.Created (FIRST_ID + length (link_of scene.to).created)) scene.to.host
      ≡ Ok (steps.Post (link_of scene.to).end (events.ConnectionOpened (number_in scene) (link_of scene.to).peer) ∷ [], host_after scene.to.host (link_of scene.to))
  pub node_knows : node_event scene.to.node (events.ConnectionOpened (number_in scene) (link_of scene.to).peer) ≡ Ok ([], arrives scene.to.node (number_in scene) (link_of scene.to).peer)
  pub level : length (created_in scene what).created ≡ length (link_of (created_in scene what).to).created
  pub seen : view names (created_in scene what) ≡ view names scene
