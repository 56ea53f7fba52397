use Rattle.std.proofs.Common.{◌≡◌, drop}
use Rattle.ch_model.specs.NodeActs.{after, each_in_turn}
use Rattle.ch_model.specs.NodeArrivals.{lost_told}
use Rattle.ch_node.proofs.state.State.lost_all_told.Given as goal

abbrev pub invariant-loop-waiting : goal.invariant-loop-waiting
invariant-loop-waiting l = each_in_turn (lost_told l.why) l.lost l.initial.self ≡ after l.acts.items (each_in_turn (lost_told l.why) (drop l.waiting-index l.lost) l.self)
