use Rattle.std.proofs.Common.{◌≡◌, ◌≤◌, drop, length}
use Rattle.ch_model.specs.NodePairs.{rising}
use Rattle.ch_node.proofs.pairs.rising.Given as goal

abbrev pub invariant-numbers : goal.invariant-numbers
invariant-numbers l = (l.left ≤ length l.numbers) × (l.sorted.items ≡ rising (drop l.left l.numbers))

abbrev pub decreases-numbers : goal.decreases-numbers
decreases-numbers l = l.left
