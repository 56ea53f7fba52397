-- A message that is said on an open connection while the link isn't up.
use Rattle.std.specs.Prelude.{◌≡◌, ℕ, true, false, List, [], ◌∷◌, find, slice_get, nat_lt, Some, None, Ok}
use Rattle.ch_ident.specs.declared.message.Message.{Message}
use Rattle.ch_light.specs.Ids.{id_of}
use Rattle.ch_model.specs.declared.act.Act.{Act}
use Rattle.ch_model.specs.declared.act.Act.TheVariants as acts
use Rattle.ch_model.specs.declared.note.Note.TheVariants as notes
use Rattle.ch_link.specs.declared.LinkState.{LinkState}
use Rattle.ch_link.specs.declared.LinkState.TheVariants.{Idle}
use Rattle.ch_model.specs.declared.step.Step.{Step}
use Rattle.ch_model.specs.declared.step.Step.TheVariants as steps
use Rattle.ch_model.specs.declared.step.Weight.{Weight}
use Rattle.ch_model.specs.HostState.{Link, HostState}
use Rattle.ch_model.specs.HostSteps.{link_with}
use Rattle.ch_model.specs.HostWrites.{is_up}
use Rattle.ch_model.specs.HostLinks.{most_dials, next_dial}
use Rattle.ch_model.specs.Host.{first_ready}
use Rattle.ch_model.specs.HostCalls.{carries, short_enough, has_room, host_send}
use Rattle.ch_model.specs.NodeState as nodes
use Rattle.ch_model.specs.NodeState.{NodeState, Pair}
use Rattle.ch_model.specs.NodeIds.{process_id, is_here, target_at}
use Rattle.ch_model.specs.NodeActs.{growing}
use Rattle.ch_model.specs.NodePairs.{keeping}
use Rattle.ch_model.specs.NodeSends.{payload_of, weight_of, with_said, say}
use Rattle.ch_delivery.specs.Passage.{Said}
use Rattle.ch_delivery.specs.Moves.{Say, after}
use Rattle.ch_laws_delivery.specs.Scene.{Name, Scene, link_of}
use Rattle.ch_laws_delivery.specs.Sending.{has_ended, pair_at, use_at}
use Rattle.ch_laws_delivery.specs.View.{view}

-- how the message waits
abbrev pub weight_at : Pair → Weight
weight_at pair = weight_of pair.epoch pair.index

-- Pair c says a message: its process lives and its connection is open, to another node; the link isn't up, and has room;
-- the connection has an id there, which is for this pair and epoch; and the message is short enough.
pub record SaysOnOpen (names : List Name) (scene : Scene) (c : ℕ) (name : Name) (conn id : ℕ) (said : Message) : Type 0 where
  pub known : slice_get names c ≡ Some name
  pub lives : has_ended scene.from.node name.by ≡ false
  pub opened : (pair_at scene.from.node name).mark ≡ nodes.Opened conn
  pub away : is_here scene.from.node (target_at name.to) ≡ false
  pub grows : growing (pair_at scene.from.node name).index ≡ Ok (pair_at scene.from.node name).index
  pub carried : find (carries scene.from.end conn) scene.from.host.links ≡ Some (link_of scene.from)
  pub down : is_up (link_of scene.from).state ≡ false
  pub given : id_of (link_of scene.from).given conn ≡ Some id
  pub used : use_at scene.given id ≡ Some (record { pair = c; epoch = (pair_at scene.from.node name).epoch })
  pub short : short_enough (payload_of (pair_at scene.from.node name).to said) ≡ Ok (payload_of (pair_at scene.from.node name).to said)
  pub room : has_room (link_of scene.from) (weight_at (pair_at scene.from.node name)) ≡ Ok (link_of scene.from)
  pub dials : nat_lt scene.from.host.dials most_dials ≡ true

-- the acts of the node: the message is said, and put on its connection
abbrev pub acts_of : NodeState → Pair → ℕ → Message → List Act
acts_of node pair conn said = acts.Note (notes.Said (process_id node pair.by) pair.to pair.epoch pair.index said) ∷ acts.Put conn (payload_of pair.to said) (weight_at pair) ∷ []

-- what the host does with a payload that waits: it dials, where nobody does
abbrev pub dial_steps : LinkState → Link → HostState → List Step
dial_steps Idle link host = steps.Dial (next_dial host) link.end link.peer ∷ []
dial_steps state link host = []

-- no whole item of a host's sockets is unread
abbrev pub IsSettled : HostState → Type 0
IsSettled host = first_ready host.sockets ≡ None

-- the scene after it, where the host is this
abbrev pub said_in : Scene → ℕ → Pair → HostState → Scene
said_in scene c pair host = record scene { from = record (scene.from) { node = keeping scene.from.node (with_said pair); host = host }; log = Said c pair.epoch pair.index ∷ scene.log }

-- The node says it, the host takes it and dials where nobody does, nothing more can be read than before, and what is seen
-- then is the passage after the move.
pub record IsSaid (names : List Name) (scene : Scene) (c : ℕ) (name : Name) (conn : ℕ) (said : Message) : Type 0 where
  pub host : HostState
  pub node_says : say scene.from.node (pair_at scene.from.node name) said ≡ Ok (acts_of scene.from.node (pair_at scene.from.node name) conn said, keeping scene.from.node (with_said (pair_at scene.from.node name)))
  pub host_takes : host_send scene.from.host scene.from.end conn (payload_of (pair_at scene.from.node name).to said) (weight_at (pair_at scene.from.node name)) ≡ Ok (dial_steps (link_of scene.from).state (link_of scene.from) scene.from.host, host)
  pub settled : IsSettled scene.from.host → IsSettled host
  pub down : is_up (link_with host scene.from.end scene.from.peer).state ≡ false
  pub seen : view names (said_in scene c (pair_at scene.from.node name) host) ≡ after (Say c) (view names scene)
