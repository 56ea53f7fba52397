use Rattle.std.proofs.Common.{◌≡◌}
use Rattle.std.specs.Vec.Iter.{into_iter_items}
use Rattle.ch_cell.specs.New.{all_opened}
use Rattle.ch_cell.proofs.site.Site.opened.Given as goal

abbrev pub invariant-loop-opening : goal.invariant-loop-opening
invariant-loop-opening l = all_opened (into_iter_items l.opening-iterator) l.site ≡ all_opened l.fn.openings.items l.fn.self
