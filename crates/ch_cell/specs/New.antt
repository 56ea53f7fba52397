-- A site where nothing has happened.
use Rattle.std.specs.Prelude.{◌≡◌, ℕ, List, [], ◌∷◌, ◌++◌, map}
use Rattle.ch_model.specs.HostCalls.{host_new, host_open}
use Rattle.ch_model.specs.NodeState.{NodeState}
use Rattle.ch_model.specs.Node.{node_new}
use Rattle.ch_model.specs.WorldState.{Cell}
use Rattle.ch_model.specs.Cell.{opened_for}
use Rattle.ch_cell.specs.declared.site.Opening.{Opening}

-- a node at the endpoint that its own address names, where nothing has happened
abbrev pub node_of : Opening → ℕ × NodeState
node_of opening = (opening.own.id, node_new opening.own opening.unique opening.labels)

-- a host and its nodes, where nothing has happened
abbrev pub site_new : List ℕ → ℕ → List (List ℕ) → List Opening → Cell
site_new host port circle openings = record { host = opened_for (map node_of openings) (host_new host port circle); nodes = map node_of openings }

-- one more node, at an endpoint of its own
abbrev pub opened_at : Opening → Cell → Cell
opened_at opening cell = record { host = (host_open cell.host opening.own.id).1; nodes = cell.nodes ++ node_of opening ∷ [] }

-- more nodes, one after another
abbrev pub all_opened : List Opening → Cell → Cell
all_opened [] cell = cell
all_opened (opening ∷ rest) cell = all_opened rest (opened_at opening cell)

-- the nodes' own addresses are of this host and port
abbrev pub AreOf : List ℕ → ℕ → List Opening → Type 0
AreOf host port [] = Unit {0}
AreOf host port (opening ∷ rest) = (opening.own.host ≡ host) × (opening.own.port ≡ port) × AreOf host port rest

-- a node as the model names it: the number of its endpoint, its unique number and its labels
abbrev pub named : Opening → ℕ × ℕ × List (List ℕ)
named opening = (opening.own.id, opening.unique, opening.labels)
