-- Of which pair a key is.
use Rattle.std.specs.Prelude.{◌≡◌, ℕ, List, [], ◌∷◌}
use Rattle.ch_base.specs.declared.address.Address.{Address}
use Rattle.ch_static.specs.declared.target.Target.{Target}
use Rattle.ch_static.specs.declared.target.Target.TheVariants as targets
use Rattle.ch_model.specs.NodeState.{Pair}
use Rattle.ch_node.specs.declared.key.Key.{Key}
use Rattle.ch_node.specs.declared.key.Spot.{Spot}
use Rattle.ch_node.specs.declared.key.What.{What}
use Rattle.ch_node.specs.declared.key.What.TheVariants as whats

-- the node of a key
abbrev pub node_of : Spot → Address
node_of spot = record { host = spot.host.items; port = spot.port; id = spot.id }

-- what is at a node
abbrev pub target_at : What → Address → Target
target_at (whats.Process u c) node = targets.Process (record { node = node; unique = u; counter = c })
target_at (whats.Port u c p) node = targets.Port (record { process = record { node = node; unique = u; counter = c }; port = p })
target_at (whats.Named name) node = targets.Named node name.items

-- it is the key of that process and that target
abbrev pub IsKeyOf : Key → ℕ → Target → Type 0
IsKeyOf key by to = (key.by ≡ by) × (target_at key.what (node_of key.at) ≡ to)

-- each pair has its key, in the pairs' order
abbrev pub Keyed : List Key → List Pair → Type 0
Keyed [] [] = Unit {0}
Keyed (key ∷ keys) (pair ∷ pairs) = IsKeyOf key pair.by pair.to × Keyed keys pairs
Keyed keys pairs = ⊥

-- the pairs are of the same processes and targets, in the same order
abbrev pub SameKeys : List Pair → List Pair → Type 0
SameKeys [] [] = Unit {0}
SameKeys (a ∷ pairs) (b ∷ others) = (b.by ≡ a.by) × (b.to ≡ a.to) × SameKeys pairs others
SameKeys pairs others = ⊥
