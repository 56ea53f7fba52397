use Rattle.std.proofs.Common.{◌≡◌, [], take}
use Rattle.std.specs.Prelude.{fold}
use Rattle.ch_world.specs.Declaring.{first_added}
use Rattle.ch_world.proofs.declare.firsts.Given as goal

abbrev pub invariant-loop-node : goal.invariant-loop-node
invariant-loop-node l = l.firsts.items ≡ fold (λ found node. first_added found node.address) [] (take l.node-index l.nodes)
