use Rattle.std.proofs.Common.{rules, not}
use Rattle.std.proofs.lemmas.Fn.{filter_same}
use Rattle.ch_watch.specs.Same.{same_ref}
use Rattle.ch_watch.proofs.watched.drop_watch.Goals as goal

pub returns : goal.returns
returns c = filter_same _ (λ watched. not (same_ref watched.watch c.args.watch.now)) _ (λ x b f. search rules) _ _ c.retain.ensures.filtered
