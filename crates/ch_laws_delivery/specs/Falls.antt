-- The receiving node's link, which was up, fails.
use Rattle.std.specs.Prelude.{◌≡◌, ℕ, true, List, [], ◌∷◌, Ok}
use Rattle.ch_base.specs.declared.event.Event.TheVariants as events
use Rattle.ch_base.specs.declared.event.Why.{Why}
use Rattle.ch_link.specs.declared.LinkIn.{LinkIn}
use Rattle.ch_model.specs.declared.act.Act.{Act}
use Rattle.ch_model.specs.NodeState.{NodeState, Pair}
use Rattle.ch_model.specs.Node.{node_event}
use Rattle.ch_delivery.specs.Passage.{Fell, Stood}
use Rattle.ch_delivery.specs.Moves.{Fall, Stand, put, after, run}
use Rattle.ch_laws_delivery.specs.Scene.{Name, Scene, link_of}
use Rattle.ch_laws_delivery.specs.Losses.{host_after, node_after, HostFails, IsSilent}
use Rattle.ch_laws_delivery.specs.Standings.{standings}
use Rattle.ch_laws_delivery.specs.View.{view}

-- the scene after it, where the node is this: nothing comes from that socket any more
abbrev pub fallen_in : Scene → ℕ → NodeState → Scene
fallen_in scene sock now = record scene {
  to = record (scene.to) { node = now; host = host_after scene.to.host (link_of scene.to) sock };
  way = record (scene.way) { flight = put scene.way.at [] scene.way.flight; cut = put scene.way.at true scene.way.cut };
  created = [];
  log = Fell ∷ scene.log;
}

-- and where what its processes are told then counts as a move of its own
abbrev pub fallen_and_told_in : List Name → Scene → ℕ → NodeState → Scene
fallen_and_told_in names scene sock now = record (fallen_in scene sock now) { log = Stood (standings names now) ∷ Fell ∷ scene.log }

-- The host fails the link. Where the node watches nothing at the peer, what is seen then is the passage after the move; and
-- whatever its processes are told, it is the passage after that and after who stands for a target then.
pub record IsFallen (names : List Name) (scene : Scene) (input : LinkIn) (sock : ℕ) (why : Why) (pairs : List Pair) : Type 0 where
  pub host_fails : HostFails scene.to input sock why
  pub silent : IsSilent scene.to why pairs
  pub seen : view names (fallen_in scene sock (node_after scene.to pairs)) ≡ after Fall (view names scene)
  pub told : (did : List Act) (now : NodeState) → node_event scene.to.node (events.ConnectionLost scene.to.peer why) ≡ Ok (did, now) → view names (fallen_and_told_in names scene sock now) ≡ run (Fall ∷ Stand (standings names now) ∷ []) (view names scene)
