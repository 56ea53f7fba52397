use Rattle.std.proofs.Common.{ap, ◌∙◌}
use Rattle.ch_model.specs.NodeArrivals.{peer_lost}
use Rattle.ch_node.specs.contracts.state.State.{the_view}
use Rattle.ch_node.proofs.Steps.{same_done, lost_is}
use Rattle.ch_node.proofs.state.State.peer_lost.Goals as goal

pub returns : goal.returns
returns c = same_done _ _ _ _ (lost_is (the_view c.self.inside) c.args.peer.now c.args.why _ _ _ _ _ c.in_ok-lose.ensures ((λ i. (c.deref.ensures.value i, c.lost.new.self)) ∙ c.in_ok-lost.ensures.does) c.drop_node.ensures c.drop_peer.ensures ∙ ap (λ n. peer_lost n c.args.peer.now c.args.why) c.self.view_is) c.lost_all_told.ensures
