-- A message that is read on the socket that the receiving node is up on, for nobody: its name stands for no process; or its
-- connection leads nowhere, or to a process that is over.
use Rattle.std.specs.Prelude.{◌≡◌, ℕ, ◌+◌, true, false, ◌==◌, List, [], ◌∷◌, find, slice_get, Some, None, Ok}
use Rattle.ch_base.specs.declared.event.Event.TheVariants as events
use Rattle.ch_ident.specs.declared.identifier.ProcessId.{ProcessId}
use Rattle.ch_ident.specs.declared.message.Message.{Message}
use Rattle.ch_light.specs.declared.TheConstants.{FIRST_ID}
use Rattle.ch_light.specs.Ids.{opened}
use Rattle.ch_static.specs.declared.target.Target.TheVariants as targets
use Rattle.ch_wire.specs.declared.frame.Frame.TheVariants as frames
use Rattle.ch_model.specs.declared.act.Act.TheVariants as acts
use Rattle.ch_model.specs.declared.note.Note.TheVariants as notes
use Rattle.ch_model.specs.declared.step.Step.TheVariants as steps
use Rattle.ch_model.specs.HostState.{Socket}
use Rattle.ch_model.specs.HostItems.{reads_frame}
use Rattle.ch_model.specs.NodeState as nodes
use Rattle.ch_model.specs.NodeState.{NodeState, Arrived}
use Rattle.ch_model.specs.NodeIds.{is_own, is_living}
use Rattle.ch_model.specs.NodeAsks.{standing}
use Rattle.ch_model.specs.Node.{node_event}
use Rattle.ch_delivery.specs.Passage as items
use Rattle.ch_delivery.specs.Passage.{Item, Got}
use Rattle.ch_delivery.specs.Moves.{Read, put, after}
use Rattle.ch_laws_delivery.specs.Scene.{Name, Scene, link_of}
use Rattle.ch_laws_delivery.specs.Receiving.{place_for}
use Rattle.ch_laws_delivery.specs.Receipts.{Carries}
use Rattle.ch_laws_delivery.specs.View.{view}

-- what is read: the pair, its epoch, the message's index and payload, the place of its connection among those of the
-- socket, its number, and what the node has of it
pub record Arriving : Type 0 where
  pub pair : ℕ
  pub epoch : ℕ
  pub index : ℕ
  pub payload : List ℕ
  pub place : ℕ
  pub conn : ℕ
  pub arrived : Arrived

-- The message is the first item there, and its connection is open.
pub record ArrivesFirst (scene : Scene) (rest : List Item) (r : Arriving) : Type 0 where
  pub first : scene.way.flight scene.way.at ≡ items.Message r.pair r.epoch r.index ∷ rest
  pub used : place_for r.pair r.epoch scene.created ≡ Some r.place
  pub created : slice_get (link_of scene.to).created r.place ≡ Some (opened r.conn)
  pub arrival : find (λ arrived. arrived.conn == r.conn) scene.to.node.arrived ≡ Some r.arrived

-- the host tells the node that the payload came, on whatever socket of the link
abbrev pub Tells : Scene → Arriving → Type 0
Tells scene r = (socket : Socket) → reads_frame socket (link_of scene.to) (frames.Data (FIRST_ID + r.place) r.payload) scene.to.host
    ≡ Ok (steps.Post (link_of scene.to).end (events.Received r.conn r.payload) ∷ [], scene.to.host)

-- ---- a name that nobody has

-- Its connection goes to names, and it carries a message to a name of this node that nobody has.
pub record ReadsForNobody (names : List Name) (scene : Scene) (by : ℕ) (name : List ℕ) (from : ProcessId) (said : Message) (r : Arriving) : Type 0 where
  pub known : slice_get names r.pair ≡ Some (record { by = by; to = targets.Named scene.to.node.own name })
  pub bound : r.arrived.bound ≡ nodes.ToNames from
  pub read : Carries (targets.Named scene.to.node.own name) r.payload said
  pub nobody : standing scene.to.node name ≡ None

-- the scene after it
abbrev pub missed_in : Scene → List Item → Arriving → Scene
missed_in scene rest r = record scene { way = record (scene.way) { flight = put scene.way.at rest scene.way.flight }; log = Got r.pair r.epoch r.index None ∷ scene.log }

-- The node tells that nobody gets it; and what is seen then is the passage after the move.
pub record IsMissed (names : List Name) (scene : Scene) (rest : List Item) (name : List ℕ) (from : ProcessId) (r : Arriving) : Type 0 where
  pub host_tells : Tells scene r
  pub node_misses : node_event scene.to.node (events.Received r.conn r.payload) ≡ Ok (acts.Note (notes.Got from (targets.Named scene.to.node.own name) None) ∷ [], scene.to.node)
  pub seen : view names (missed_in scene rest r) ≡ after Read (view names scene)

-- ---- a connection that leads nowhere

-- what a connection is for is nothing, or a process or port that is over here
abbrev pub LeadsNowhere : NodeState → nodes.Bound → Type 0
LeadsNowhere node nodes.Void = Unit {0}
LeadsNowhere node (nodes.ToTarget from (targets.Process to)) = (is_own node to ≡ true) × (is_living node to ≡ false)
LeadsNowhere node (nodes.ToTarget from (targets.Port to)) = (is_own node to.process ≡ true) × (is_living node to.process ≡ false)
LeadsNowhere node bound = ⊥

-- the scene after it
abbrev pub dropped_in : Scene → List Item → Scene
dropped_in scene rest = record scene { way = record (scene.way) { flight = put scene.way.at rest scene.way.flight } }

-- The node drops it, and says nothing; and what is seen then is the passage after the move.
pub record IsDropped (names : List Name) (scene : Scene) (rest : List Item) (r : Arriving) : Type 0 where
  pub host_tells : Tells scene r
  pub node_drops : node_event scene.to.node (events.Received r.conn r.payload) ≡ Ok ([], scene.to.node)
  pub seen : view names (dropped_in scene rest) ≡ after Read (view names scene)
