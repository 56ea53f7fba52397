use Rattle.std.proofs.Common.{◌≡◌, take}
use Rattle.ch_model.specs.World.{nodes_of}
use Rattle.ch_world.proofs.declare.nodes.Given as goal

abbrev pub invariant-loop-line : goal.invariant-loop-line
invariant-loop-line l = l.nodes.items ≡ nodes_of (take l.line-index l.lines)
