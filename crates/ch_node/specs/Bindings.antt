-- How the code's bindings are seen.
use Rattle.ch_model.specs.NodeState as kept
use Rattle.ch_node.specs.declared.arrived.Binding.{Binding}
use Rattle.ch_node.specs.declared.arrived.Binding.TheVariants as bindings

-- what a connection that arrived is for
abbrev pub bound_of : Binding → kept.Bound
bound_of bindings.Unread = kept.Unread
bound_of bindings.Void = kept.Void
bound_of bindings.FromNode = kept.FromNode
bound_of (bindings.ToNames from) = kept.ToNames from
bound_of (bindings.ToTarget from to) = kept.ToTarget from to
