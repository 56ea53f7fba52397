use Rattle.std.proofs.Common.{rules, not}
use Rattle.std.proofs.lemmas.Fn.{filter_same}
use Rattle.ch_watch.specs.Same.{same_node}
use Rattle.ch_node.proofs.events.drop_node.Goals as goal

pub returns : goal.returns
returns c = filter_same _ (λ known. not (same_node known.0 c.args.peer.now)) _ (λ x b f. search rules) _ _ c.retain.ensures.filtered
