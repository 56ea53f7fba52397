use Rattle.std.proofs.Common.{◌≡◌, drop}
use Rattle.ch_model.specs.NodeActs.{after, each_in_turn}
use Rattle.ch_model.specs.NodeWatches.{tell_end}
use Rattle.ch_node.proofs.state.State.tell_ends.Given as goal

abbrev pub invariant-loop-watch : goal.invariant-loop-watch
invariant-loop-watch l = each_in_turn (λ watch m. tell_end m watch l.reason) l.watches l.initial.self ≡ after l.acts.items (each_in_turn (λ watch m. tell_end m watch l.reason) (drop l.watch-index l.watches) l.self)
