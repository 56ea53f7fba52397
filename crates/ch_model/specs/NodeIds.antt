-- Which processes, ports and references are the node's own, and whether they are there.
use Rattle.std.specs.Prelude.{ℕ, Bool, false, not, ◌&&◌, ◌==◌, List, Option, None, length, nat_lt, slice_get, if◌then◌else◌}
use Rattle.std.specs.Option.{option_map_or}
use Rattle.ch_base.specs.declared.address.Address.{Address}
use Rattle.ch_ident.specs.declared.identifier.ProcessId.{ProcessId}
use Rattle.ch_ident.specs.declared.identifier.SendPortId.{SendPortId}
use Rattle.ch_ident.specs.declared.identifier.Ref.{Ref}
use Rattle.ch_ident.specs.declared.identifier.Identifier.{Identifier}
use Rattle.ch_ident.specs.declared.identifier.Identifier.TheVariants as ends
use Rattle.ch_mail.specs.declared.life.Life.{Life}
use Rattle.ch_mail.specs.Process.{Process}
use Rattle.ch_mail.specs.Lives.{is_over}
use Rattle.ch_mail.specs.Mail.{life_of}
use Rattle.ch_static.specs.declared.target.Target.{Target}
use Rattle.ch_static.specs.declared.target.Target.TheVariants as targets
use Rattle.ch_watch.specs.Same.{same_node}
use Rattle.ch_model.specs.NodeState.{NodeState}

-- the id of the node's process of a number
abbrev pub process_id : NodeState → ℕ → ProcessId
process_id node counter = record { node = node.own; unique = node.unique; counter = counter }

-- the node's reference of a number
abbrev pub reference_to : NodeState → ℕ → Ref
reference_to node number = record { node = node.own; number = number }

-- the address is the node's own
abbrev pub is_here : NodeState → Address → Bool
is_here node address = same_node address node.own

-- the process is of this node, and of this run of it
unfoldable pub is_own : NodeState → ProcessId → Bool
is_own node process = is_here node process.node && (process.unique == node.unique)

-- the life of a process, where it is the node's and was made
unfoldable pub life_here : NodeState → ProcessId → Option Life
life_here node process = if is_own node process then life_of node.mail process.counter else None

-- the process was made here, and isn't over
unfoldable pub is_living : NodeState → ProcessId → Bool
is_living node process = option_map_or (λ life. not (is_over life)) (life_here node process) false

-- a process of the mail has that port
unfoldable pub has_port : List Process → ℕ → ℕ → Bool
has_port mail number port = option_map_or (λ process. nat_lt port (length process.ports)) (slice_get mail number) false

-- the port was opened here
unfoldable pub is_port_here : NodeState → SendPortId → Bool
is_port_here node port = is_own node port.process && has_port node.mail port.process.counter port.port

-- the node of a target
abbrev pub target_at : Target → Address
target_at (targets.Process process) = process.node
target_at (targets.Port port) = port.process.node
target_at (targets.Named at name) = at

-- what the connection to a target is opened to: the process, the port, or the node of the name
abbrev pub opened_to : Target → Identifier
opened_to (targets.Process process) = ends.Process process
opened_to (targets.Port port) = ends.Port port
opened_to (targets.Named at name) = ends.Node at
