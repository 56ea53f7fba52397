use Rattle.std.proofs.Common.{◌≡◌, map, take}
use Rattle.ch_model.specs.NodeEnds.{fallen}
use Rattle.ch_node.proofs.state.State.names_fall.Given as goal

abbrev pub invariant-loop-name : goal.invariant-loop-name
invariant-loop-name l = l.acts.items ≡ map (fallen l.self) (take l.name-index l.names)
