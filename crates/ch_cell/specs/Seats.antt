-- What the node at an endpoint is asked.
use Rattle.std.specs.Prelude.{◌≡◌, ℕ, List, find, slice_get, slice_set, Option, Some, None, Result, Ok, Err}
use Rattle.ch_base.specs.declared.address.Address.{Address}
use Rattle.ch_static.specs.declared.command.Command.{Command}
use Rattle.ch_model.specs.Node.{target_node}
use Rattle.ch_model.specs.declared.act.Act.{Act}
use Rattle.ch_model.specs.declared.command.CommandError.{CommandError}
use Rattle.ch_model.specs.declared.command.CommandError.TheVariants as errors
use Rattle.ch_model.specs.NodeState.{NodeState}
use Rattle.ch_model.specs.CellSteps.{is_at, store_node}

-- a node's answer, and the nodes with that one kept in its place
abbrev pub stored : ℕ → List (ℕ × NodeState) → Result (List Act × NodeState) CommandError → Result (List Act × List (ℕ × NodeState)) CommandError
stored end nodes (Ok done) = Ok (done.0, store_node end done.1 nodes)
stored end nodes (Err e) = Err e

-- what the node at an endpoint answers; none where no node is there
abbrev pub seat_asked : ℕ → (NodeState → Result (List Act × NodeState) CommandError) → List (ℕ × NodeState) → Option (Result (List Act × List (ℕ × NodeState)) CommandError)
seat_asked end f nodes = elim (find (is_at end) nodes) [
  | None ↦ None
  | Some node ↦ Some (stored end nodes (f node.1))
]

-- the same of the node at a place
abbrev pub stored_at : List (ℕ × NodeState) → ℕ → ℕ → Result (List Act × NodeState) CommandError → Result (List Act × List (ℕ × NodeState)) CommandError
stored_at nodes place end (Ok done) = Ok (done.0, slice_set nodes place (end, done.1))
stored_at nodes place end (Err e) = Err e

abbrev pub asked_of : (NodeState → Result (List Act × NodeState) CommandError) → List (ℕ × NodeState) → ℕ → Option (ℕ × NodeState) → Option (Result (List Act × List (ℕ × NodeState)) CommandError)
asked_of f nodes place None = None
asked_of f nodes place (Some node) = Some (stored_at nodes place node.0 (f node.1))

abbrev pub asked_at : (NodeState → Result (List Act × NodeState) CommandError) → List (ℕ × NodeState) → ℕ → Option (Result (List Act × List (ℕ × NodeState)) CommandError)
asked_at f nodes place = asked_of f nodes place (slice_get nodes place)

-- the node at an endpoint
abbrev pub seated : Option (ℕ × NodeState) → Option NodeState
seated None = None
seated (Some node) = Some node.1

abbrev pub node_at : ℕ → List (ℕ × NodeState) → Option NodeState
node_at end nodes = seated (find (is_at end) nodes)

-- whence and whither a command is directed, where the node is there
pub record Whither : Type 0 where
  pub own : Address
  pub peer : Option Address

abbrev pub directed_from : ℕ → Command → NodeState → Whither
directed_from by command node = record { own = node.own; peer = target_node node by command }

abbrev pub directed_of : ℕ → Command → Option (ℕ × NodeState) → Option Whither
directed_of by command None = None
directed_of by command (Some node) = Some (directed_from by command node.1)

-- A refusal is the model's, and leaves the nodes as they were, but for a stop.
abbrev pub Refuses : CommandError → Result (List Act × List (ℕ × NodeState)) CommandError → List (ℕ × NodeState) → List (ℕ × NodeState) → Type 0
Refuses errors.OutOfMemory given old new = Unit {0}
Refuses errors.Worn given old new = given ≡ Err errors.Worn
Refuses e given old new = (given ≡ Err e) × (new ≡ old)

-- the answer, seen as the acts in order, is what is given
abbrev pub Answers : Option (Result (List Act × List (ℕ × NodeState)) CommandError) → Option (Result (List Act) CommandError) → List (ℕ × NodeState) → List (ℕ × NodeState) → Type 0
Answers None None old new = new ≡ old
Answers (Some given) (Some (Ok acts)) old new = given ≡ Ok (acts, new)
Answers (Some given) (Some (Err e)) old new = Refuses e given old new
Answers given result old new = ⊥

-- what was answered, seen as acts in order
abbrev pub acts_in : {X : Type 0} → (X → List Act) → Result X CommandError → Result (List Act) CommandError
acts_in view (Ok outcome) = Ok (view outcome)
acts_in view (Err e) = Err e

-- what is read of a node, or the other answer where no node is there
abbrev pub read_of : {X : Type 0} → X → (NodeState → X) → Option NodeState → X
read_of other f None = other
read_of other f (Some node) = f node
