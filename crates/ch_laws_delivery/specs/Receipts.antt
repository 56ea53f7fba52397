-- A message that is read on the socket that the receiving node is up on, for somebody who is there.
use Rattle.std.specs.Prelude.{◌≡◌, ℕ, ◌+◌, ◌==◌, List, [], ◌∷◌, find, slice_get, Option, Some, None, Ok, if◌then◌else◌}
use Rattle.ch_base.specs.declared.event.Event.TheVariants as events
use Rattle.ch_ident.specs.declared.identifier.ProcessId.{ProcessId}
use Rattle.ch_ident.specs.declared.message.Message.{Message}
use Rattle.ch_ident.specs.declared.node_message.NodeMessage.TheVariants.{NamedSend}
use Rattle.ch_ident.specs.Reading.{message_of, user_of}
use Rattle.ch_light.specs.declared.TheConstants.{FIRST_ID}
use Rattle.ch_light.specs.Ids.{opened}
use Rattle.ch_mail.specs.Process.{Process}
use Rattle.ch_mail.specs.Mail.{put_of}
use Rattle.ch_static.specs.declared.target.Target.{Target}
use Rattle.ch_static.specs.declared.target.Target.TheVariants as targets
use Rattle.ch_wire.specs.declared.frame.Frame.TheVariants as frames
use Rattle.ch_model.specs.declared.act.Act.TheVariants as acts
use Rattle.ch_model.specs.declared.note.Note.TheVariants as notes
use Rattle.ch_model.specs.declared.step.Step.TheVariants as steps
use Rattle.ch_model.specs.HostState.{Socket}
use Rattle.ch_model.specs.HostItems.{reads_frame}
use Rattle.ch_model.specs.NodeState as nodes
use Rattle.ch_model.specs.NodeState.{NodeState, Arrived}
use Rattle.ch_model.specs.NodeIds.{is_living, is_port_here, target_at}
use Rattle.ch_model.specs.NodeAsks.{standing}
use Rattle.ch_model.specs.Node.{node_event}
use Rattle.ch_delivery.specs.Passage as items
use Rattle.ch_delivery.specs.Passage.{Item, Got}
use Rattle.ch_delivery.specs.Moves.{Read, put, after}
use Rattle.ch_laws_delivery.specs.Scene.{Name, Scene, link_of}
use Rattle.ch_laws_delivery.specs.Receiving.{place_for}
use Rattle.ch_laws_delivery.specs.View.{view}

-- ---- a target and what comes to it

-- who stands for a target, by its id
abbrev pub stands_at : NodeState → Target → Option ProcessId
stands_at node (targets.Process process) = if is_living node process then Some process else None
stands_at node (targets.Port port) = if is_port_here node port then (if is_living node port.process then Some port.process else None) else None
stands_at node (targets.Named at name) = standing node name

-- the port that a message to a target is put into, where it isn't the mailbox
abbrev pub port_of : Target → Option ℕ
port_of (targets.Port port) = Some port.port
port_of to = None

-- what a connection to a target is bound to
abbrev pub bound_as : ProcessId → Target → nodes.Bound
bound_as from (targets.Named at name) = nodes.ToNames from
bound_as from to = nodes.ToTarget from to

-- a payload carries the message to a target: with the name, where that is one
abbrev pub Carries : Target → List ℕ → Message → Type 0
Carries (targets.Named at name) payload said = message_of payload ≡ Ok (NamedSend name said.mark said.body)
Carries to payload said = user_of payload ≡ Ok said

-- ---- the message

-- what is read: the pair, its epoch, the message's index and payload, its message, the process that it is from, the target
-- that it is for and who stands for that, the place of its connection among those of the socket, its number, what the node
-- has of it, and the mail with the message
pub record Reading : Type 0 where
  pub pair : ℕ
  pub epoch : ℕ
  pub index : ℕ
  pub payload : List ℕ
  pub said : Message
  pub from : ProcessId
  pub to : Target
  pub receiver : ProcessId
  pub place : ℕ
  pub conn : ℕ
  pub arrived : Arrived
  pub mail : List Process

-- The message is the first item there; its connection is open and was bound to its target, of this node; and who stands for
-- that gets it.
pub record ReadsFirst (names : List Name) (scene : Scene) (name : Name) (rest : List Item) (r : Reading) : Type 0 where
  pub first : scene.way.flight scene.way.at ≡ items.Message r.pair r.epoch r.index ∷ rest
  pub known : slice_get names r.pair ≡ Some name
  pub target : name.to ≡ r.to
  pub here : target_at r.to ≡ scene.to.node.own
  pub used : place_for r.pair r.epoch scene.created ≡ Some r.place
  pub created : slice_get (link_of scene.to).created r.place ≡ Some (opened r.conn)
  pub arrival : find (λ arrived. arrived.conn == r.conn) scene.to.node.arrived ≡ Some r.arrived
  pub bound : r.arrived.bound ≡ bound_as r.from r.to
  pub stands : stands_at scene.to.node r.to ≡ Some r.receiver
  pub read : Carries r.to r.payload r.said
  pub fits : put_of scene.to.node.mail r.receiver.counter (port_of r.to) r.said ≡ Ok r.mail

-- the node that has got it
abbrev pub node_after : NodeState → Reading → NodeState
node_after node r = record node { mail = r.mail }

-- the scene after it
abbrev pub got_in : Scene → List Item → Reading → Scene
got_in scene rest r = record scene {
  to = record (scene.to) { node = node_after scene.to.node r };
  way = record (scene.way) { flight = put scene.way.at rest scene.way.flight };
  log = Got r.pair r.epoch r.index (Some r.receiver.counter) ∷ scene.log;
}

-- The host tells the node, on whatever socket of the link; the node tells that the message is got; and what is seen then
-- is the passage after the move.
pub record IsGot (names : List Name) (scene : Scene) (rest : List Item) (r : Reading) : Type 0 where
  pub host_tells : (socket : Socket) → reads_frame socket (link_of scene.to) (frames.Data (FIRST_ID + r.place) r.payload) scene.to.host
      ≡ Ok (steps.Post (link_of scene.to).end (events.Received r.conn r.payload) ∷ [], scene.to.host)
  pub node_gets : node_event scene.to.node (events.Received r.conn r.payload) ≡ Ok (acts.Note (notes.Got r.from r.to (Some r.receiver)) ∷ [], node_after scene.to.node r)
  pub seen : view names (got_in scene rest r) ≡ after Read (view names scene)
