use Rattle.std.proofs.Common.{◌≡◌, ◌==◌, map, filter, take}
use Rattle.ch_watch.proofs.watched.watches_on.Given as goal

abbrev pub invariant-loop-watched : goal.invariant-loop-watched
invariant-loop-watched l = l.items.items ≡ map (λ watched. watched.watch) (filter (λ watched. watched.process == l.process) (take l.watched-index l.watched))
