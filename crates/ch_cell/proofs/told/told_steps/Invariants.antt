use Rattle.std.proofs.Common.{◌≡◌, map}
use Rattle.ch_model.specs.declared.local.LocalEntry.TheVariants as local
use Rattle.ch_cell.proofs.told.told_steps.Given as goal

abbrev pub invariant-loop-step : goal.invariant-loop-step
invariant-loop-step l = l.entries.items ≡ map (λ step. local.Step step) l.yielded
