-- When two addresses or two references are one, and at which node something is.
use Rattle.std.specs.Prelude.{Bool, ◌&&◌, ◌==◌}
use Rattle.std.specs.Str.{bytes_eq}
use Rattle.ch_base.specs.declared.address.Address.{Address}
use Rattle.ch_ident.specs.declared.identifier.Identifier.{Identifier}
use Rattle.ch_ident.specs.declared.identifier.Identifier.TheVariants.{Node, Process, Port}
use Rattle.ch_ident.specs.declared.identifier.Ref.{Ref}

-- the node at which an identifier is
unfoldable pub node_of : Identifier → Address
node_of (Node node) = node
node_of (Process process) = process.node
node_of (Port port) = port.process.node

-- two addresses are one
unfoldable pub same_node : Address → Address → Bool
same_node a b = bytes_eq a.host b.host && ((a.port == b.port) && (a.id == b.id))

-- two references are one
unfoldable pub same_ref : Ref → Ref → Bool
same_ref a b = same_node a.node b.node && (a.number == b.number)
