use Rattle.std.proofs.Common.{◌≡◌}
use Rattle.std.specs.Vec.Iter.{into_iter_items}
use Rattle.ch_model.specs.CellSteps.{after_entries, acts_on}
use Rattle.ch_cell.proofs.site.Site.acts.Given as goal

abbrev pub invariant-loop-act : goal.invariant-loop-act
invariant-loop-act l = after_entries l.entries.items (acts_on l.end (into_iter_items l.act-iterator) l.self) ≡ acts_on l.end l.fn.acts.items l.fn.self
