use Rattle.std.proofs.Common.{◌≡◌, ◌++◌, map, take, drop}
use Rattle.ch_model.specs.NodePairs.{closed_by}
use Rattle.ch_node.proofs.pairs.close_all.Given as goal

abbrev pub invariant-loop-pair : goal.invariant-loop-pair
invariant-loop-pair l = l.pairs ≡ map (closed_by l.by) (take l.pair-index l.initial.pairs) ++ drop l.pair-index l.initial.pairs
