use Rattle.std.proofs.Common.{rules, ◌==◌, not}
use Rattle.std.proofs.lemmas.Fn.{filter_same}
use Rattle.ch_watch.proofs.watched.drop_process.Goals as goal

pub returns : goal.returns
returns c = filter_same _ (λ watched. not (watched.process == c.args.process)) _ (λ x b f. search rules) _ _ c.retain.ensures.filtered
