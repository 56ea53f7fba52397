-- Processes of the receiving node are made or over there, ports are opened, and names change hands.
use Rattle.std.specs.Prelude.{◌≡◌, ℕ, true, ◌==◌, List, ◌∷◌, find, slice_get, is_some, Option, Some, None}
use Rattle.ch_light.specs.declared.Connection.{Connection}
use Rattle.ch_mail.specs.Mail.{life_of}
use Rattle.ch_static.specs.declared.target.Target.{Target}
use Rattle.ch_static.specs.declared.target.Target.TheVariants as targets
use Rattle.ch_model.specs.NodeState as nodes
use Rattle.ch_model.specs.NodeState.{NodeState, Arrived}
use Rattle.ch_model.specs.NodeIds.{is_own, is_port_here}
use Rattle.ch_delivery.specs.Passage.{Stood}
use Rattle.ch_delivery.specs.Moves.{Stand, after}
use Rattle.ch_laws_delivery.specs.Scene.{Name, Scene, link_of}
use Rattle.ch_laws_delivery.specs.Sending.{named, is_over_at}
use Rattle.ch_laws_delivery.specs.Receiving.{standing_for, place_for}
use Rattle.ch_laws_delivery.specs.View.{view}

-- ---- connections lead where their pairs do

-- the process was made there, and the port opened
abbrev pub WasThere : NodeState → Target → Type 0
WasThere node (targets.Process process) = (is_own node process ≡ true) × (is_some (life_of node.mail process.counter) ≡ true)
WasThere node (targets.Port port) = (is_own node port.process ≡ true) × ((is_some (life_of node.mail port.process.counter) ≡ true) × (is_port_here node port ≡ true))
WasThere node (targets.Named at name) = ⊥

-- a target is the pair's, and was there
abbrev pub IsTo : NodeState → Option Name → Target → Type 0
IsTo node None to = ⊥
IsTo node (Some name) to = (name.to ≡ to) × WasThere node to

-- a connection of a pair leads to names where its target is one, and else to its target
abbrev pub LeadsTo : NodeState → Option Name → nodes.Bound → Type 0
LeadsTo node o (nodes.ToNames from) = named o ≡ true
LeadsTo node o (nodes.ToTarget from to) = IsTo node o to
LeadsTo node o bound = Unit {0}

-- Each open connection of a pair, on the socket that is read, leads where the pair does.
abbrev pub Faithful : List Name → Scene → Type 0
Faithful names scene = (c e place : ℕ) (known : Connection) (arrived : Arrived) → place_for c e scene.created ≡ Some place → slice_get (link_of scene.to).created place ≡ Some known → known.is_open ≡ true
    → find (λ arrived. arrived.conn == known.number) scene.to.node.arrived ≡ Some arrived → LeadsTo scene.to.node (slice_get names c) arrived.bound

-- ---- a node and what becomes of it

-- It is the same node, with the same connections, and who was over there is over still.
pub record Ages (node now : NodeState) : Type 0 where
  pub own : now.own ≡ node.own
  pub unique : now.unique ≡ node.unique
  pub arrived : now.arrived ≡ node.arrived
  pub over : (by : ℕ) → is_over_at node by ≡ true → is_over_at now by ≡ true

-- who stands for each pair's target then
abbrev pub standings : List Name → NodeState → ℕ → Option ℕ
standings names node = λ c. standing_for node (slice_get names c)

-- the scene after it
abbrev pub stood_in : List Name → Scene → NodeState → Scene
stood_in names scene now = record scene { to = record (scene.to) { node = now }; log = Stood (standings names now) ∷ scene.log }

-- what is seen then is the passage after the move
abbrev pub IsStood : List Name → Scene → NodeState → Type 0
IsStood names scene now = view names (stood_in names scene now) ≡ after (Stand (standings names now)) (view names scene)
