-- A node is shut, for good: its processes are over and its names gone, and its link with the peer is shut.
use Rattle.std.specs.Prelude.{◌≡◌, true, List, [], ◌∷◌, map, None, Ok}
use Rattle.ch_wire.specs.Spelling.{frame_spelling}
use Rattle.ch_wire.specs.declared.frame.Frame.TheVariants.{EndClosed}
use Rattle.ch_link.specs.declared.LinkState.{LinkState}
use Rattle.ch_link.specs.declared.LinkState.TheVariants.{Idle, Dialing, Up}
use Rattle.ch_link.specs.declared.LinkIn.TheVariants.{Shut}
use Rattle.ch_mail.specs.Mail.{downed}
use Rattle.ch_model.specs.declared.act.Act.TheVariants as acts
use Rattle.ch_model.specs.declared.note.Note.TheVariants as notes
use Rattle.ch_model.specs.declared.step.Step.{Step}
use Rattle.ch_model.specs.declared.step.Step.TheVariants as steps
use Rattle.ch_model.specs.HostState.{Link, HostState}
use Rattle.ch_model.specs.HostSteps.{with_link}
use Rattle.ch_model.specs.HostWrites.{end_socket, forgotten}
use Rattle.ch_model.specs.HostLinks.{hears}
use Rattle.ch_model.specs.NodeState.{NodeState}
use Rattle.ch_model.specs.NodeEnds.{shut_lists}
use Rattle.ch_model.specs.Node.{node_shut}
use Rattle.ch_delivery.specs.Passage.{Fell, Stood}
use Rattle.ch_delivery.specs.Moves as moves
use Rattle.ch_delivery.specs.Moves.{Stand, Fall, put, after, run}
use Rattle.ch_laws_delivery.specs.Scene.{Name, Party, Scene, link_of}
use Rattle.ch_laws_delivery.specs.Standings.{standings}
use Rattle.ch_laws_delivery.specs.View.{view}

-- the node that is shut
abbrev pub node_after : NodeState → NodeState
node_after node = record node { is_shut = true; mail = map downed node.mail; watches = shut_lists node.watches }

-- what the host does with the link: on the socket that it is up on it tells that the endpoint is closed, and that goes down;
-- one that it dials is left
abbrev pub shut_steps : LinkState → List Step
shut_steps (Up sock probed) = steps.Write sock (frame_spelling EndClosed) None ∷ steps.Down sock ∷ []
shut_steps (Dialing sock) = steps.Left sock ∷ []
shut_steps state = []

abbrev pub left_socket : LinkState → HostState → HostState
left_socket (Up sock probed) host = end_socket sock host
left_socket (Dialing sock) host = end_socket sock host
left_socket state host = host

-- the host whose link is shut
abbrev pub host_after : HostState → Link → HostState
host_after host link = with_link (forgotten link Idle) (left_socket link.state (with_link (record link { state = Idle }) host))

-- The node, which wasn't shut, tells it, and the host shuts the link.
pub record Shuts (party : Party) : Type 0 where
  pub node_shuts : node_shut party.node ≡ Ok (acts.Note (notes.Shut party.node.own) ∷ [], node_after party.node)
  pub host_shuts : hears Shut (link_of party) party.host ≡ Ok (shut_steps (link_of party).state, host_after party.host (link_of party))

-- ---- the sending node

-- the scene after it: no id is given on the link any more
abbrev pub shut_in : Scene → Scene
shut_in scene = record scene { from = record (scene.from) { node = node_after scene.from.node; host = host_after scene.from.host (link_of scene.from) }; given = [] }

-- what is seen then is the passage after the move
pub record IsShut (names : List Name) (scene : Scene) : Type 0 where
  pub shuts : Shuts scene.from
  pub seen : view names (shut_in scene) ≡ after moves.Shut (view names scene)

-- ---- the receiving node

-- the scene after it, where the link was up: nothing comes from its socket any more
abbrev pub shut_there_in : List Name → Scene → Scene
shut_there_in names scene = record scene {
  to = record (scene.to) { node = node_after scene.to.node; host = host_after scene.to.host (link_of scene.to) };
  way = record (scene.way) { flight = put scene.way.at [] scene.way.flight; cut = put scene.way.at true scene.way.cut };
  created = [];
  log = Fell ∷ Stood (standings names (node_after scene.to.node)) ∷ scene.log;
}

-- what is seen then is the passage after two moves: nobody stands for a target any more, and the link fails
pub record IsShutThere (names : List Name) (scene : Scene) : Type 0 where
  pub shuts : Shuts scene.to
  pub seen : view names (shut_there_in names scene) ≡ run (Stand (standings names (node_after scene.to.node)) ∷ Fall ∷ []) (view names scene)

-- the scene after it, where the link isn't up
abbrev pub shut_off_in : List Name → Scene → Scene
shut_off_in names scene = record scene {
  to = record (scene.to) { node = node_after scene.to.node; host = host_after scene.to.host (link_of scene.to) };
  log = Stood (standings names (node_after scene.to.node)) ∷ scene.log;
}

-- what is seen then is the passage after the first of them
pub record IsShutOff (names : List Name) (scene : Scene) : Type 0 where
  pub shuts : Shuts scene.to
  pub seen : view names (shut_off_in names scene) ≡ after (Stand (standings names (node_after scene.to.node))) (view names scene)
