use Rattle.std.proofs.Common.{◌≡◌}
use Rattle.std.specs.Vec.Iter.{into_iter_items}
use Rattle.ch_model.specs.CellSteps.{after_entries, steps_on}
use Rattle.ch_cell.proofs.site.Site.steps.Given as goal

abbrev pub invariant-loop-step : goal.invariant-loop-step
invariant-loop-step l = after_entries l.entries.items (steps_on (into_iter_items l.step-iterator) l.self) ≡ steps_on l.fn.steps.items l.fn.self
