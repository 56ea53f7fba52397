-- A message that is said on an open connection while the link is up: it is written on the socket.
use Rattle.std.specs.Prelude.{◌≡◌, ℕ, Bool, false, List, [], ◌∷◌, find, slice_get, Option, Some, Ok}
use Rattle.ch_ident.specs.declared.message.Message.{Message}
use Rattle.ch_light.specs.Ids.{id_of}
use Rattle.ch_link.specs.declared.LinkState.TheVariants.{Up}
use Rattle.ch_wire.specs.declared.frame.Frame.{Frame}
use Rattle.ch_wire.specs.declared.frame.Frame.TheVariants as frames
use Rattle.ch_model.specs.declared.step.Weight.{Weight}
use Rattle.ch_model.specs.HostState.{HostState}
use Rattle.ch_model.specs.HostSteps.{link_with}
use Rattle.ch_model.specs.HostWrites.{frame_step}
use Rattle.ch_model.specs.HostCalls.{carries, short_enough, host_send}
use Rattle.ch_model.specs.NodeState as nodes
use Rattle.ch_model.specs.NodeState.{Pair}
use Rattle.ch_model.specs.NodeIds.{is_here, target_at}
use Rattle.ch_model.specs.NodeActs.{growing}
use Rattle.ch_model.specs.NodePairs.{keeping}
use Rattle.ch_model.specs.NodeSends.{payload_of, with_said, say}
use Rattle.ch_delivery.specs.Moves.{Say, put, onto, after}
use Rattle.ch_laws_delivery.specs.Scene.{Name, Use, Way, Scene, link_of}
use Rattle.ch_laws_delivery.specs.Sending.{has_ended, pair_at, use_at, items_of}
use Rattle.ch_laws_delivery.specs.Sends.{weight_at, acts_of, IsSettled, said_in}
use Rattle.ch_laws_delivery.specs.View.{view}

-- the way after these frames are written on the socket that the sending node is up on: nothing comes to an end that is cut
abbrev pub sent : List (Option Use) → List (Frame × Weight) → Way → Way
sent uses written way = record way { flight = put way.on (onto (way.cut way.on) (way.flight way.on) (items_of uses written)) way.flight }

-- Pair c says a message: its process lives and its connection is open, to another node; the link is up on a socket; the
-- connection has an id there, which is for this pair and epoch; and the message is short enough.
pub record SaysUp (names : List Name) (scene : Scene) (c : ℕ) (name : Name) (conn id sock : ℕ) (probed : Bool) (said : Message) : Type 0 where
  pub known : slice_get names c ≡ Some name
  pub lives : has_ended scene.from.node name.by ≡ false
  pub opened : (pair_at scene.from.node name).mark ≡ nodes.Opened conn
  pub away : is_here scene.from.node (target_at name.to) ≡ false
  pub grows : growing (pair_at scene.from.node name).index ≡ Ok (pair_at scene.from.node name).index
  pub carried : find (carries scene.from.end conn) scene.from.host.links ≡ Some (link_of scene.from)
  pub up : (link_of scene.from).state ≡ Up sock probed
  pub given : id_of (link_of scene.from).given conn ≡ Some id
  pub used : use_at scene.given id ≡ Some (record { pair = c; epoch = (pair_at scene.from.node name).epoch })
  pub short : short_enough (payload_of (pair_at scene.from.node name).to said) ≡ Ok (payload_of (pair_at scene.from.node name).to said)

-- the frame that carries it, and how it waits where it has to
abbrev pub frame_of : ℕ → Pair → Message → Frame × Weight
frame_of id pair said = (frames.Data id (payload_of pair.to said), weight_at pair)

-- the scene after it, where the host is this
abbrev pub written_in : Scene → ℕ → Pair → ℕ → Message → HostState → Scene
written_in scene c pair id said host = record (said_in scene c pair host) { way = sent scene.given (frame_of id pair said ∷ []) scene.way }

-- The node says it, the host writes its frame and nothing more, the link is as it was, nothing more can be read than before, and
-- what is seen then is the passage after the move.
pub record IsWritten (names : List Name) (scene : Scene) (c : ℕ) (name : Name) (conn id sock : ℕ) (said : Message) : Type 0 where
  pub host : HostState
  pub node_says : say scene.from.node (pair_at scene.from.node name) said ≡ Ok (acts_of scene.from.node (pair_at scene.from.node name) conn said, keeping scene.from.node (with_said (pair_at scene.from.node name)))
  pub host_writes : host_send scene.from.host scene.from.end conn (payload_of (pair_at scene.from.node name).to said) (weight_at (pair_at scene.from.node name)) ≡ Ok (frame_step sock (frame_of id (pair_at scene.from.node name) said) ∷ [], host)
  pub settled : IsSettled scene.from.host → IsSettled host
  pub link : link_with host scene.from.end scene.from.peer ≡ link_of scene.from
  pub seen : view names (written_in scene c (pair_at scene.from.node name) id said host) ≡ after (Say c) (view names scene)
