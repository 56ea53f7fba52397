use Rattle.std.proofs.Common.{◌≡◌, ◌++◌, filter}
use Rattle.ch_watch.specs.Open.{awaits}
use Rattle.ch_watch.proofs.open_numbers.OpenNumbers.awaiting.Given as goal

abbrev pub invariant-loop-waiting : goal.invariant-loop-waiting
invariant-loop-waiting l = l.lost.items ++ filter (awaits l.peer) l.waiting-iterator ≡ filter (awaits l.peer) l.self.waiting
