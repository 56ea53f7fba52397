-- What no step changes: where a host is, whom it takes and which endpoints it has, and who its nodes are.
use Rattle.std.specs.Prelude.{◌≡◌, ℕ, List, [], ◌∷◌}
use Rattle.ch_base.specs.declared.address.Address.{Address}
use Rattle.ch_model.specs.HostState.{Endpoint, HostState}
use Rattle.ch_model.specs.NodeState.{NodeState}
use Rattle.ch_model.specs.WorldState.{Cell}

-- the numbers of endpoints, in order of opening
abbrev pub numbers_of : List Endpoint → List ℕ
numbers_of [] = []
numbers_of (endpoint ∷ rest) = endpoint.number ∷ numbers_of rest

-- the host text, the port, the host texts that the host takes, and its endpoints' numbers are as before
pub record HostStays (before after : HostState) : Type 0 where
  pub host : after.host ≡ before.host
  pub port : after.port ≡ before.port
  pub circle : after.circle ≡ before.circle
  pub ends : numbers_of after.ends ≡ numbers_of before.ends

-- who a node is: its own address, its unique number and its labels
abbrev pub Who : Type 0
Who = Address × ℕ × List (List ℕ)

abbrev pub who_is : NodeState → Who
who_is node = (node.own, node.unique, node.labels)

-- the node's own address, its unique number and its labels are as before
pub record NodeStays (before after : NodeState) : Type 0 where
  pub own : after.own ≡ before.own
  pub unique : after.unique ≡ before.unique
  pub labels : after.labels ≡ before.labels

-- the number of the endpoint of each node, and who that node is, in order
abbrev pub seats_of : List (ℕ × NodeState) → List (ℕ × Who)
seats_of [] = []
seats_of (node ∷ rest) = (node.0, who_is node.1) ∷ seats_of rest

-- the host stays, and at each endpoint that has a node the same node is
pub record CellStays (before after : Cell) : Type 0 where
  pub host : HostStays before.host after.host
  pub nodes : seats_of after.nodes ≡ seats_of before.nodes
