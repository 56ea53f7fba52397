use Rattle.std.proofs.Common.{◌≡◌, take}
use Rattle.ch_model.specs.World.{labels_of}
use Rattle.ch_world.proofs.declare.labels.Given as goal

abbrev pub invariant-loop-line : goal.invariant-loop-line
invariant-loop-line l = l.labels ≡ labels_of (take l.line-index l.lines) l.node
