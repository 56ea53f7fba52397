use Rattle.std.proofs.Common.{arith}
use Rattle.ch_node.proofs.Keyed.{same_all, same_set}
use Rattle.ch_node.proofs.Losses.{none_in_front, next}
use Rattle.ch_node.proofs.pairs.lose_all.Goals as goal

pub loop-pair-init : goal.loop-pair-init
loop-pair-init c = (none_in_front _, same_all _)

pub returns-in_err-lose-clause-keys : goal.returns-in_err-lose-clause-keys
returns-in_err-lose-clause-keys c = same_set _ c.loop-pair.pairs c.loop-pair.pair-index _ c.lose.new.self c.loop-pair.invariant.1 (omega arith) c.in_err-lose.ensures.key.0 c.in_err-lose.ensures.key.1

pub loop-pair-preserved : goal.loop-pair-preserved
loop-pair-preserved c =
    (next c.args.peer.now c.loop-pair.pairs c.loop-pair.pair-index _ _ c.lose.new.self (omega arith) c.loop-pair.invariant.0 c.in_ok-lose.ensures.lost, same_set _ c.loop-pair.pairs c.loop-pair.pair-index _ c.lose.new.self c.loop-pair.invariant.1 (omega arith) c.in_ok-lose.ensures.key.0 c.in_ok-lose.ensures.key.1)
