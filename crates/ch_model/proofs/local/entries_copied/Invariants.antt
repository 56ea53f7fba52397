use Rattle.std.proofs.Common.{◌≡◌, take}
use Rattle.ch_model.proofs.local.entries_copied.Given as goal

abbrev pub invariant-loop-entry : goal.invariant-loop-entry
invariant-loop-entry l = l.own.items ≡ take l.entry-index l.entries
