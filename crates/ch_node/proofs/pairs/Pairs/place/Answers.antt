use Rattle.std.proofs.Common.{◌<◌, position, length, IfSome, ap, subst, ◌∙◌}
use Rattle.ch_model.specs.NodePairs.{is_pair}
use Rattle.ch_node.proofs.Keyed.{places, long}
use Rattle.ch_node.proofs.pairs.Pairs.place.Goals as goal

pub returns-clause-place : goal.returns-clause-place
returns-clause-place c = c.get_index_of.ensures.index ∙ places c.args.key.now c.args.by c.args.to.now c.requires _ _ c.self.invariant ∙ ap (position (is_pair c.args.by c.args.to.now)) c.self.view_is

pub returns-clause-within : goal.returns-clause-within
returns-clause-within c = subst (λ n. IfSome c.get_index_of.result (λ i. i < n)) (long _ _ c.self.invariant ∙ ap length c.self.view_is) c.get_index_of.ensures.within
