use Rattle.std.proofs.Common.{◌≡◌, take}
use Rattle.ch_model.proofs.local.events_copied.Given as goal

abbrev pub invariant-loop-happened : goal.invariant-loop-happened
invariant-loop-happened l = l.own.items ≡ take l.happened-index l.events
