-- The sending node's link, which was up, fails.
use Rattle.std.specs.Prelude.{◌≡◌, ℕ, Bool, true, List, [], ◌∷◌, filter, not, slice_get, Some, Ok}
use Rattle.ch_base.specs.declared.event.Event.TheVariants as events
use Rattle.ch_base.specs.declared.event.Why.{Why}
use Rattle.ch_link.specs.declared.LinkState.TheVariants.{Idle, Up}
use Rattle.ch_link.specs.Table.{step_of}
use Rattle.ch_link.specs.declared.LinkIn.{LinkIn}
use Rattle.ch_link.specs.declared.LinkAct.TheVariants.{Fail}
use Rattle.ch_model.specs.declared.act.Act.{Act}
use Rattle.ch_model.specs.Greater.{is_greater}
use Rattle.ch_model.specs.declared.step.Step.TheVariants as steps
use Rattle.ch_model.specs.HostState.{Link, HostState}
use Rattle.ch_model.specs.HostSteps.{own_address, with_link}
use Rattle.ch_model.specs.HostWrites.{end_socket, forgotten}
use Rattle.ch_model.specs.HostLinks.{hears}
use Rattle.ch_model.specs.NodeState as nodes
use Rattle.ch_model.specs.NodeState.{NodeState, Pair}
use Rattle.ch_model.specs.NodeIds.{target_at}
use Rattle.ch_model.specs.NodePairs.{lost_pairs}
use Rattle.ch_model.specs.Node.{node_event}
use Rattle.ch_watch.specs.Same.{same_node}
use Rattle.ch_watch.specs.Watches.{lost_of}
use Rattle.ch_delivery.specs.Passage.{Broke}
use Rattle.ch_delivery.specs.Moves.{Break, after}
use Rattle.ch_laws_delivery.specs.Scene.{Name, Party, Scene, link_of}
use Rattle.ch_laws_delivery.specs.Sending.{has_ended, pair_at}
use Rattle.ch_laws_delivery.specs.View.{view}

-- The link is up on a socket, and this input fails it for that reason: its socket is lost, the peer closed its endpoint, or the
-- peer's answer to a probe is overdue.
pub record Fails (party : Party) (input : LinkIn) (sock : ℕ) (probed : Bool) (why : Why) : Type 0 where
  pub up : (link_of party).state ≡ Up sock probed
  pub fails : step_of (Up sock probed) input (is_greater (own_address party.host (link_of party).end) (link_of party).peer) ≡ (Idle, Fail why)

-- The names are of targets at the peer, and no process that is over has a connection; and the node's pairs become these.
pub record LosesSocket (names : List Name) (scene : Scene) (pairs : List Pair) : Type 0 where
  pub at_peer : (d : ℕ) (name : Name) → slice_get names d ≡ Some name → same_node (target_at name.to) scene.from.peer ≡ true
  pub closed : (d : ℕ) (name : Name) → slice_get names d ≡ Some name → has_ended scene.from.node name.by ≡ true → (conn : ℕ) → (pair_at scene.from.node name).mark ≡ nodes.Opened conn → ⊥
  pub pairs_lost : lost_pairs scene.from.peer scene.from.node.pairs ≡ Ok pairs

-- the host that has lost it: its end is ended, and the link forgets what waited and all connections
abbrev pub host_after : HostState → Link → ℕ → HostState
host_after host link sock = with_link (forgotten link Idle) (end_socket sock (with_link (record link { state = Idle }) host))

-- the node that has heard of it, before it tells those of its processes that watch something at the peer
abbrev pub node_after : Party → List Pair → NodeState
node_after party pairs = record (party.node) {
  watches = (lost_of party.node.watches party.peer).1;
  pairs = pairs;
  to_nodes = filter (λ known. not (same_node known.0 party.peer)) party.node.to_nodes;
  arrived = filter (λ arrived. not (same_node arrived.peer party.peer)) party.node.arrived;
}

-- the host ends its end, tells that the link broke, and tells its node
abbrev pub HostFails : Party → LinkIn → ℕ → Why → Type 0
HostFails party input sock why = hears input (link_of party) party.host
    ≡ Ok (steps.Down sock ∷ steps.Broke (link_of party).end (link_of party).peer why ∷ steps.Post (link_of party).end (events.ConnectionLost (link_of party).peer why) ∷ [], host_after party.host (link_of party) sock)

-- where the node watches nothing there it says nothing
abbrev pub IsSilent : Party → Why → List Pair → Type 0
IsSilent party why pairs = (lost_of party.node.watches party.peer).0 ≡ [] → node_event party.node (events.ConnectionLost party.peer why) ≡ Ok ([], node_after party pairs)

-- the scene after it, where the node is this
abbrev pub broken_in : Scene → ℕ → NodeState → Scene
broken_in scene sock now = record scene {
  from = record (scene.from) { node = now; host = host_after scene.from.host (link_of scene.from) sock };
  given = [];
  log = Broke ∷ scene.log;
}

-- The host fails the link; whatever the node does when it hears of it, it breaks its pairs, and what is seen then is the passage
-- after the move.
pub record IsBroken (names : List Name) (scene : Scene) (input : LinkIn) (sock : ℕ) (why : Why) (pairs : List Pair) : Type 0 where
  pub host_fails : HostFails scene.from input sock why
  pub silent : IsSilent scene.from why pairs
  pub seen : (did : List Act) (now : NodeState) → node_event scene.from.node (events.ConnectionLost scene.from.peer why) ≡ Ok (did, now) → view names (broken_in scene sock now) ≡ after Break (view names scene)
