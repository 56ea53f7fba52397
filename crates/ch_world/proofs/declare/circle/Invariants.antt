use Rattle.std.proofs.Common.{◌≡◌, take, map}
use Rattle.ch_world.proofs.declare.circle.Given as goal

abbrev pub invariant-loop-node : goal.invariant-loop-node
invariant-loop-node l = l.hosts.items ≡ map (λ node. node.address.host) (take l.node-index l.nodes)
