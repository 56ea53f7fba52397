use Rattle.std.proofs.Common.{◌≡◌}
use Rattle.ch_model.specs.CellSteps.{after_entries, kept_bytes, all_items}
use Rattle.ch_cell.proofs.site.Site.items.Given as goal

abbrev pub invariant-items : goal.invariant-items
invariant-items l = after_entries l.entries.items (all_items l.self) ≡ all_items l.fn.self

abbrev pub decreases-items : goal.decreases-items
decreases-items l = kept_bytes l.self.host
