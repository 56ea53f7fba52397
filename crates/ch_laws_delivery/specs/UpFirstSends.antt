-- The first message of an epoch, while the link is up: its connection is created on the socket, and opened.
use Rattle.std.specs.Prelude.{◌≡◌, ℕ, Bool, false, List, [], ◌∷◌, ◌++◌, length, find, slice_get, nat_le, Some, None, Ok}
use Rattle.ch_ident.specs.declared.message.Message.{Message}
use Rattle.ch_light.specs.declared.TheConstants.{MOST_IDS}
use Rattle.ch_light.specs.Ids.{id_of, opened}
use Rattle.ch_link.specs.declared.LinkState.TheVariants.{Up}
use Rattle.ch_wire.specs.declared.frame.Frame.{Frame}
use Rattle.ch_wire.specs.declared.frame.Frame.TheVariants as frames
use Rattle.ch_model.specs.declared.step.Weight.{Weight}
use Rattle.ch_model.specs.declared.step.Weight.TheVariants.{Free}
use Rattle.ch_model.specs.HostState.{Link, HostState}
use Rattle.ch_model.specs.HostSteps.{link_with}
use Rattle.ch_model.specs.HostWrites.{frame_step}
use Rattle.ch_model.specs.HostCalls.{open_endpoint, carries, short_enough, host_connect, host_send}
use Rattle.ch_model.specs.NodeState as nodes
use Rattle.ch_model.specs.NodeState.{NodeState, Pair}
use Rattle.ch_model.specs.NodeIds.{is_here, target_at}
use Rattle.ch_model.specs.NodeActs.{growing}
use Rattle.ch_model.specs.NodeConnections.{drawn}
use Rattle.ch_model.specs.NodeSends.{payload_of, say}
use Rattle.ch_delivery.specs.Moves.{Say, after}
use Rattle.ch_laws_delivery.specs.Scene.{Name, Scene, link_of}
use Rattle.ch_laws_delivery.specs.Sending.{has_ended, pair_at}
use Rattle.ch_laws_delivery.specs.Sends.{weight_at, IsSettled}
use Rattle.ch_laws_delivery.specs.FirstSends.{opening_of, next_id, first_acts, first_after, first_in}
use Rattle.ch_laws_delivery.specs.UpSends.{sent, frame_of}
use Rattle.ch_laws_delivery.specs.View.{view}

-- Pair c says a message: its process lives and it has no connection, to the other node; the link is up on a socket, where
-- nothing waits, and has an id for one connection more, whose number no open one has; and opening and message are short
-- enough.
pub record SaysFirstUp (names : List Name) (scene : Scene) (c : ℕ) (name : Name) (conn sock : ℕ) (probed : Bool) (said : Message) : Type 0 where
  pub known : slice_get names c ≡ Some name
  pub lives : has_ended scene.from.node name.by ≡ false
  pub fresh : (pair_at scene.from.node name).mark ≡ nodes.Unopened
  pub away : is_here scene.from.node (target_at name.to) ≡ false
  pub at_peer : target_at (pair_at scene.from.node name).to ≡ scene.from.peer
  pub grows : growing (pair_at scene.from.node name).index ≡ Ok (pair_at scene.from.node name).index
  pub draws : drawn scene.from.node ≡ Ok conn
  pub endpoint : open_endpoint scene.from.host scene.from.end ≡ Ok scene.from.end
  pub unspent : nat_le MOST_IDS (length (link_of scene.from).given) ≡ false
  pub uncarried : find (carries scene.from.end conn) scene.from.host.links ≡ None
  pub given : id_of ((link_of scene.from).given ++ opened conn ∷ []) conn ≡ Some (next_id (link_of scene.from))
  pub level : length scene.given ≡ length (link_of scene.from).given
  pub up : (link_of scene.from).state ≡ Up sock probed
  pub flushed : (link_of scene.from).waits ≡ []
  pub short_opening : short_enough (opening_of scene.from.node (pair_at scene.from.node name)) ≡ Ok (opening_of scene.from.node (pair_at scene.from.node name))
  pub short : short_enough (payload_of (pair_at scene.from.node name).to said) ≡ Ok (payload_of (pair_at scene.from.node name).to said)

-- the frame that creates the next connection, and the one that tells what it is for
abbrev pub created_frame : Link → Frame × Weight
created_frame link = (frames.Created (next_id link), Free)

abbrev pub opening_frame : NodeState → Link → Pair → Frame × Weight
opening_frame node link pair = (frames.Data (next_id link) (opening_of node pair), Free)

-- all that is written
abbrev pub first_frames : NodeState → Link → Pair → Message → List (Frame × Weight)
first_frames node link pair said = created_frame link ∷ opening_frame node link pair ∷ frame_of (next_id link) pair said ∷ []

-- the scene after it, where the host is this: the three frames are written
abbrev pub opened_up_in : Scene → ℕ → Pair → ℕ → Message → HostState → Scene
opened_up_in scene c pair conn said host = record (first_in scene c pair conn host) { way = sent (first_in scene c pair conn host).given (first_frames scene.from.node (link_of scene.from) pair said) scene.way }

-- The node says it, the host writes that the connection is created, its opening and the message, and nothing more; the link has
-- the connection and else is as it was, nothing more can be read than before, and what is seen then is the passage after the
-- move.
pub record IsWrittenFirst (names : List Name) (scene : Scene) (c : ℕ) (name : Name) (conn sock : ℕ) (said : Message) : Type 0 where
  pub connected : HostState
  pub told : HostState
  pub host : HostState
  pub node_says : say scene.from.node (pair_at scene.from.node name) said ≡ Ok (first_acts scene.from.node (pair_at scene.from.node name) conn said, first_after scene.from.node (pair_at scene.from.node name) conn)
  pub host_connects : host_connect scene.from.host scene.from.end (target_at (pair_at scene.from.node name).to) conn ≡ Ok (frame_step sock (created_frame (link_of scene.from)) ∷ [], connected)
  pub host_tells : host_send connected scene.from.end conn (opening_of scene.from.node (pair_at scene.from.node name)) Free
      ≡ Ok (frame_step sock (opening_frame scene.from.node (link_of scene.from) (pair_at scene.from.node name)) ∷ [], told)
  pub host_writes : host_send told scene.from.end conn (payload_of (pair_at scene.from.node name).to said) (weight_at (pair_at scene.from.node name))
      ≡ Ok (frame_step sock (frame_of (next_id (link_of scene.from)) (pair_at scene.from.node name) said) ∷ [], host)
  pub settled : IsSettled scene.from.host → IsSettled host
  pub link : link_with host scene.from.end scene.from.peer ≡ record (link_of scene.from) { given = (link_of scene.from).given ++ opened conn ∷ [] }
  pub seen : view names (opened_up_in scene c (pair_at scene.from.node name) conn said host) ≡ after (Say c) (view names scene)
