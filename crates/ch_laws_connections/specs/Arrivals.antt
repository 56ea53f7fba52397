-- The connections that have arrived at a node: what its host has created, and what the node keeps.
use Rattle.std.specs.Prelude.{◌≡◌, ◌≤◌, ◌<◌, ℕ, ◌+◌, ◌*◌, Bool, true, false, ◌&&◌, ◌==◌, List, [], ◌∷◌, find, Some, if◌then◌else◌}
use Rattle.ch_base.specs.declared.address.Address.{Address}
use Rattle.ch_base.specs.declared.event.Event.TheVariants as events
use Rattle.ch_light.specs.declared.Connection.{Connection}
use Rattle.ch_watch.specs.Same.{same_node}
use Rattle.ch_model.specs.declared.step.Step.{Step}
use Rattle.ch_model.specs.declared.step.Step.TheVariants.{Post}
use Rattle.ch_model.specs.CellSteps.{is_at}
use Rattle.ch_model.specs.HostItems.{arrived_at}
use Rattle.ch_model.specs.HostState.{HostState}
use Rattle.ch_model.specs.HostSteps.{link_with}
use Rattle.ch_model.specs.NodeState.{NodeState, Arrived}
use Rattle.ch_model.specs.WorldState.{Cell}
use Rattle.ch_laws_connections.specs.Tables.{open_in}
use Rattle.ch_laws_connections.specs.Senders.{once, total}

-- the connections that arrived on the link of an endpoint with a peer, on the socket that is up or awaited
abbrev pub made_at : HostState → ℕ → Address → List Connection
made_at host end peer = (link_with host end peer).created

-- how often a connection is open among those
abbrev pub made_so : HostState → ℕ → ℕ → Address → ℕ
made_so host end conn peer = open_in (made_at host end peer) conn

-- it is this connection, from the peer
abbrev pub has_come : ℕ → Address → Arrived → ℕ
has_come conn peer arrived = if same_node arrived.peer peer then once (arrived.conn == conn) else 0

-- how often a connection is open after some steps are told, where it was so often before them
abbrev pub after_told : List Step → ℕ → ℕ → Address → ℕ → ℕ
after_told [] end conn peer n = n
after_told (Post e (events.ConnectionOpened c p) ∷ rest) end conn peer n = after_told rest end conn peer (once ((e == end) && ((c == conn) && same_node p peer)) + n)
after_told (Post e (events.ConnectionClosed c) ∷ rest) end conn peer n = after_told rest end conn peer (if (e == end) && (c == conn) then 0 else n)
after_told (Post e (events.ConnectionLost p why) ∷ rest) end conn peer n = after_told rest end conn peer (if (e == end) && same_node p peer then 0 else n)
after_told (step ∷ rest) end conn peer n = after_told rest end conn peer n

-- the number is that of one of the first n connections that arrived
abbrev pub IsOfArrived : ℕ → ℕ → Type 0
IsOfArrived n conn = (k : ℕ) × (k < n) × (conn ≡ 2 * k + 1)

-- each connection is created once, on one link of the endpoint alone, under a number of those that arrived there
pub record MadeOnce (host : HostState) (end : ℕ) : Type 0 where
  pub alone : (conn : ℕ) (peer : Address) → made_so host end conn peer ≤ 1
  pub one_link : (conn : ℕ) (peer other : Address) → 1 ≤ made_so host end conn peer → 1 ≤ made_so host end conn other → peer ≡ other
  pub drawn : (conn : ℕ) (peer : Address) → 1 ≤ made_so host end conn peer → IsOfArrived (arrived_at host end) conn

-- so it is, and what is created is what the node keeps
abbrev pub Meets : HostState → ℕ → List Arrived → Type 0
Meets host end arrived = MadeOnce host end × ((conn : ℕ) (peer : Address) → made_so host end conn peer ≡ total (has_come conn peer) arrived)

-- of a node that isn't shut
abbrev pub MeetsAs : Bool → HostState → ℕ → List Arrived → Type 0
MeetsAs false host end arrived = Meets host end arrived
MeetsAs true host end arrived = Unit {0}

-- each node of a cell keeps what its host has created
abbrev pub CellMeets : Cell → Type 0
CellMeets cell = (end : ℕ) (there : ℕ × NodeState) → find (is_at end) cell.nodes ≡ Some there → MeetsAs there.1.is_shut cell.host end there.1.arrived
