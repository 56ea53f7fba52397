use Rattle.std.proofs.Common.{rules, not, Bool, filter, ap, sym, subst, ◌∙◌}
use Rattle.std.proofs.lemmas.Fn.{filter_same}
use Rattle.ch_watch.specs.Same.{same_node}
use Rattle.ch_model.specs.NodeState.{Arrived}
use Rattle.ch_node.specs.Incoming.{Rises}
use Rattle.ch_node.proofs.Numbered.{filtered}
use Rattle.ch_node.proofs.incoming.Incoming.drop_peer.Goals as goal

pub invariant_of-self : goal.invariant_of-self
invariant_of-self c =
    let test : Arrived → Bool = λ arrived. not (same_node arrived.peer c.args.peer.now) in
    let kept = filter_same _ test _ (λ x b f. search rules) _ _ c.retain.ensures.filtered in
    λ e. subst (λ l. Rises 0 l c.self.inside.bound) (sym kept) (filtered test 0 c.self.inside.bound _ (c.self.invariant e))

pub returns : goal.returns
returns c =
    let test : Arrived → Bool = λ arrived. not (same_node arrived.peer c.args.peer.now) in
    filter_same _ test _ (λ x b f. search rules) _ _ c.retain.ensures.filtered ∙ ap (filter test) c.self.view_is
