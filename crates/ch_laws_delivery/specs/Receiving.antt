-- The receiving node as a passage sees it: who stands for a target, and what the node knows of connections.
use Rattle.std.specs.Prelude.{ℕ, Bool, false, ◌&&◌, suc, ◌==◌, List, [], ◌∷◌, find, slice_get, Option, Some, None, if◌then◌else◌}
use Rattle.std.specs.Option.{option_map}
use Rattle.ch_ident.specs.declared.identifier.ProcessId.{ProcessId}
use Rattle.ch_light.specs.declared.Connection.{Connection}
use Rattle.ch_static.specs.declared.target.Target.{Target}
use Rattle.ch_static.specs.declared.target.Target.TheVariants as targets
use Rattle.ch_model.specs.NodeState as nodes
use Rattle.ch_model.specs.NodeState.{NodeState, Arrived}
use Rattle.ch_model.specs.NodeIds.{is_living, is_port_here}
use Rattle.ch_model.specs.NodeAsks.{standing}
use Rattle.ch_delivery.specs.Passage.{Binding, Unknown, Void, Bound, is_some}
use Rattle.ch_laws_delivery.specs.Scene.{Name, Use}

-- ---- who receives

-- the process, where it was made here and isn't over
abbrev pub if_living : NodeState → ProcessId → Option ℕ
if_living node process = if is_living node process then Some process.counter else None

-- who stands for a target: its process, where that lives, and for a name who has it
abbrev pub stands_for : NodeState → Target → Option ℕ
stands_for node (targets.Process process) = if_living node process
stands_for node (targets.Port port) = if is_port_here node port then if_living node port.process else None
stands_for node (targets.Named at name) = option_map (λ process. process.counter) (standing node name)

-- the same of a pair; where none has that number it is nobody
abbrev pub standing_for : NodeState → Option Name → Option ℕ
standing_for node None = None
standing_for node (Some name) = stands_for node name.to

-- ---- connections

-- what an arrived connection is for: nothing is told yet; to nobody; to names; or to a target, while that is there
abbrev pub binding_of : NodeState → nodes.Bound → Binding
binding_of node nodes.Unread = Unknown
binding_of node nodes.Void = Void
binding_of node nodes.FromNode = Void
binding_of node (nodes.ToNames from) = Bound
binding_of node (nodes.ToTarget from to) = if is_some (stands_for node to) then Bound else Void

abbrev pub of_arrived : NodeState → Option Arrived → Binding
of_arrived node None = Unknown
of_arrived node (Some arrived) = binding_of node arrived.bound

-- the connection of a number
abbrev pub of_conn : NodeState → ℕ → Binding
of_conn node conn = of_arrived node (find (λ arrived. arrived.conn == conn) node.arrived)

-- the connection at a place of those that were created: nothing is known of one that is closed
abbrev pub of_created : NodeState → Option Connection → Binding
of_created node None = Unknown
of_created node (Some created) = if created.is_open then of_conn node created.number else Unknown

-- the id is for this pair and epoch
abbrev pub is_for : ℕ → ℕ → Option Use → Bool
is_for c e None = false
is_for c e (Some u) = u.pair == c && u.epoch == e

-- the place of the id that is for them, among those from the first on
abbrev pub place_for : ℕ → ℕ → List (Option Use) → Option ℕ
place_for c e [] = None
place_for c e (u ∷ rest) = if is_for c e u then Some 0 else option_map suc (place_for c e rest)

abbrev pub at_place : NodeState → List Connection → Option ℕ → Binding
at_place node created None = Unknown
at_place node created (Some place) = of_created node (slice_get created place)

-- what the node knows of the connection of a pair and epoch, by what the ids are for
abbrev pub bound_of : NodeState → List Connection → List (Option Use) → ℕ → ℕ → Binding
bound_of node created uses c e = at_place node created (place_for c e uses)
