use Rattle.std.proofs.Common.{◌≡◌, take}
use Rattle.std.specs.List.{flat_map}
use Rattle.ch_model.specs.World.{stranger_in}
use Rattle.ch_world.proofs.declare.strangers.Given as goal

abbrev pub invariant-loop-line : goal.invariant-loop-line
invariant-loop-line l = l.strangers.items ≡ flat_map (λ line. stranger_in line.what) (take l.line-index l.lines)
