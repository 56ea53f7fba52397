use Rattle.std.proofs.Common.{◌≡◌, take}
use Rattle.ch_model.specs.World.{names_of}
use Rattle.ch_world.proofs.declare.names.Given as goal

abbrev pub invariant-loop-line : goal.invariant-loop-line
invariant-loop-line l = l.names ≡ names_of (take l.line-index l.lines)
