-- The first message of an epoch, while the link isn't up: it opens the connection.
use Rattle.std.specs.Prelude.{◌≡◌, ◌<◌, ℕ, ◌+◌, true, false, List, [], ◌∷◌, ◌++◌, length, find, slice_get, nat_lt, nat_le, Option, Some, None, Ok}
use Rattle.ch_ident.specs.declared.identifier.Identifier.TheVariants as ends
use Rattle.ch_ident.specs.declared.message.Message.{Message}
use Rattle.ch_ident.specs.declared.node_message.NodeMessage.TheVariants as messages
use Rattle.ch_ident.specs.Spelling as spelling
use Rattle.ch_light.specs.declared.TheConstants.{FIRST_ID, MOST_IDS}
use Rattle.ch_light.specs.Ids.{id_of, opened}
use Rattle.ch_link.specs.declared.LinkState.TheVariants.{Idle}
use Rattle.ch_wire.specs.declared.frame.Frame.{Frame}
use Rattle.ch_wire.specs.declared.frame.Frame.TheVariants as frames
use Rattle.ch_model.specs.declared.act.Act.{Act}
use Rattle.ch_model.specs.declared.act.Act.TheVariants as acts
use Rattle.ch_model.specs.declared.note.Note.TheVariants as notes
use Rattle.ch_model.specs.declared.step.Weight.{Weight}
use Rattle.ch_model.specs.declared.step.Weight.TheVariants.{Free}
use Rattle.ch_model.specs.HostState.{Link, HostState}
use Rattle.ch_model.specs.HostSteps.{link_with}
use Rattle.ch_model.specs.HostWrites.{is_up, counted_in}
use Rattle.ch_model.specs.HostLinks.{most_dials}
use Rattle.ch_model.specs.HostCalls.{open_endpoint, carries, short_enough, most_waiting, host_connect, host_send}
use Rattle.ch_model.specs.NodeState as nodes
use Rattle.ch_model.specs.NodeState.{NodeState, Pair}
use Rattle.ch_model.specs.NodeIds.{process_id, is_here, target_at, opened_to}
use Rattle.ch_model.specs.NodeActs.{growing}
use Rattle.ch_model.specs.NodePairs.{keeping}
use Rattle.ch_model.specs.NodeConnections.{drawn}
use Rattle.ch_model.specs.NodeSends.{payload_of, with_said, say}
use Rattle.ch_delivery.specs.Passage.{Said}
use Rattle.ch_delivery.specs.Moves.{Say, after}
use Rattle.ch_laws_delivery.specs.Scene.{Name, Use, Scene, link_of}
use Rattle.ch_laws_delivery.specs.Sending.{has_ended, pair_at}
use Rattle.ch_laws_delivery.specs.Sends.{weight_at, dial_steps, IsSettled}
use Rattle.ch_laws_delivery.specs.View.{view}

-- the frame is on an id that was given
abbrev pub IsGiven : List (Option Use) → Frame → Type 0
IsGiven uses (frames.Data id payload) = id < FIRST_ID + length uses
IsGiven uses (frames.Closed id) = id < FIRST_ID + length uses
IsGiven uses frame = Unit {0}

-- so is each that waits
abbrev pub AreGiven : List (Option Use) → List (Frame × Weight) → Type 0
AreGiven uses [] = Unit {0}
AreGiven uses (item ∷ rest) = IsGiven uses item.0 × AreGiven uses rest

-- the payload that opens a pair's connection
abbrev pub opening_of : NodeState → Pair → List ℕ
opening_of node pair = spelling.message (messages.Opening (ends.Process (process_id node pair.by)) (opened_to pair.to))

-- the id of the next connection
abbrev pub next_id : Link → ℕ
next_id link = FIRST_ID + length link.given

-- Pair c says a message: its process lives and it has no connection, to the other node; the link isn't up, and has room and
-- an id for one connection more, whose number no open one has; the ids of what waits were given; and opening and message
-- are short enough.
pub record SaysFirst (names : List Name) (scene : Scene) (c : ℕ) (name : Name) (conn : ℕ) (said : Message) : Type 0 where
  pub known : slice_get names c ≡ Some name
  pub lives : has_ended scene.from.node name.by ≡ false
  pub fresh : (pair_at scene.from.node name).mark ≡ nodes.Unopened
  pub away : is_here scene.from.node (target_at name.to) ≡ false
  pub at_peer : target_at (pair_at scene.from.node name).to ≡ scene.from.peer
  pub grows : growing (pair_at scene.from.node name).index ≡ Ok (pair_at scene.from.node name).index
  pub draws : drawn scene.from.node ≡ Ok conn
  pub endpoint : open_endpoint scene.from.host scene.from.end ≡ Ok scene.from.end
  pub unspent : nat_le MOST_IDS (length (link_of scene.from).given) ≡ false
  pub uncarried : find (carries scene.from.end conn) scene.from.host.links ≡ None
  pub given : id_of ((link_of scene.from).given ++ opened conn ∷ []) conn ≡ Some (next_id (link_of scene.from))
  pub level : length scene.given ≡ length (link_of scene.from).given
  pub old : AreGiven scene.given (link_of scene.from).waits
  pub down : is_up (link_of scene.from).state ≡ false
  pub short_opening : short_enough (opening_of scene.from.node (pair_at scene.from.node name)) ≡ Ok (opening_of scene.from.node (pair_at scene.from.node name))
  pub short : short_enough (payload_of (pair_at scene.from.node name).to said) ≡ Ok (payload_of (pair_at scene.from.node name).to said)
  pub room : nat_le most_waiting (counted_in (link_of scene.from)) ≡ false
  pub dials : (link_of scene.from).state ≡ Idle → nat_lt scene.from.host.dials most_dials ≡ true

-- the acts of the node: the message is said, the connection opened and told what it is for, and the message put on it
abbrev pub first_acts : NodeState → Pair → ℕ → Message → List Act
first_acts node pair conn said =
    acts.Note (notes.Said (process_id node pair.by) pair.to pair.epoch pair.index said) ∷ acts.Open conn (target_at pair.to) ∷ acts.Put conn (opening_of node pair) Free
    ∷ acts.Put conn (payload_of pair.to said) (weight_at pair) ∷ []

-- the pair with its connection
abbrev pub with_conn : Pair → ℕ → Pair
with_conn pair conn = record (with_said pair) { mark = nodes.Opened conn }

-- the node that has said it
abbrev pub first_after : NodeState → Pair → ℕ → NodeState
first_after node pair conn = record (keeping (keeping node (with_said pair)) (with_conn pair conn)) { opened = node.opened + 1 }

-- the scene after it, where the host is this
abbrev pub first_in : Scene → ℕ → Pair → ℕ → HostState → Scene
first_in scene c pair conn host = record scene {
  from = record (scene.from) { node = first_after scene.from.node pair conn; host = host };
  given = scene.given ++ Some (record { pair = c; epoch = pair.epoch }) ∷ [];
  log = Said c pair.epoch pair.index ∷ scene.log;
}

-- The node says it, the host opens the connection and takes both payloads, it dials where nobody does, nothing more can be
-- read than before, and what is seen then is the passage after the move.
pub record IsSaidFirst (names : List Name) (scene : Scene) (c : ℕ) (name : Name) (conn : ℕ) (said : Message) : Type 0 where
  pub connected : HostState
  pub told : HostState
  pub host : HostState
  pub node_says : say scene.from.node (pair_at scene.from.node name) said ≡ Ok (first_acts scene.from.node (pair_at scene.from.node name) conn said, first_after scene.from.node (pair_at scene.from.node name) conn)
  pub host_connects : host_connect scene.from.host scene.from.end (target_at (pair_at scene.from.node name).to) conn ≡ Ok (dial_steps (link_of scene.from).state (link_of scene.from) scene.from.host, connected)
  pub host_tells : host_send connected scene.from.end conn (opening_of scene.from.node (pair_at scene.from.node name)) Free ≡ Ok ([], told)
  pub host_takes : host_send told scene.from.end conn (payload_of (pair_at scene.from.node name).to said) (weight_at (pair_at scene.from.node name)) ≡ Ok ([], host)
  pub settled : IsSettled scene.from.host → IsSettled host
  pub down : is_up (link_with host scene.from.end scene.from.peer).state ≡ false
  pub seen : view names (first_in scene c (pair_at scene.from.node name) conn host) ≡ after (Say c) (view names scene)
