use Rattle.std.proofs.Common.{◌≡◌}
use Rattle.std.specs.Vec.Iter.{into_iter_items}
use Rattle.ch_model.specs.WorldSteps.{after_told, all_told}
use Rattle.ch_world.specs.Hosts.{cell_in}
use Rattle.ch_world.proofs.realm.Realm.told.Given as goal

abbrev pub invariant-loop-entry : goal.invariant-loop-entry
invariant-loop-entry l = after_told l.entries.items (all_told l.at.place (cell_in l.at) (into_iter_items l.entry-iterator) l.self) ≡ all_told l.at.place (cell_in l.at) l.fn.followed l.fn.self
