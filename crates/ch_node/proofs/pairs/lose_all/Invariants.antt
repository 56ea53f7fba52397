use Rattle.std.proofs.Common.{◌≡◌, take, drop}
use Rattle.ch_model.specs.NodePairs.{lost_pairs}
use Rattle.ch_node.specs.Keys.{SameKeys}
use Rattle.ch_node.proofs.Losses.{in_front}
use Rattle.ch_node.proofs.pairs.lose_all.Given as goal

abbrev pub invariant-loop-pair : goal.invariant-loop-pair
invariant-loop-pair l = (lost_pairs l.peer l.initial.pairs ≡ in_front (take l.pair-index l.pairs) (lost_pairs l.peer (drop l.pair-index l.pairs))) × SameKeys l.initial.pairs l.pairs
