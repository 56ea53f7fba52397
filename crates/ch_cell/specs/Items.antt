-- The next item of a cell.
use Rattle.std.specs.Prelude.{◌≡◌, ◌<◌, List, [], Option, Some, None, Ok}
use Rattle.ch_model.specs.declared.step.Step.{Step}
use Rattle.ch_model.specs.WorldState.{Cell}
use Rattle.ch_model.specs.CellSteps.{◌then◌, steps_on, kept_bytes, all_items}

-- Where none is left, nothing follows and nothing is changed. Else what follows are the host's steps, and then all items
-- of the cell after it, which keeps fewer bytes unread.
abbrev pub NextItem : Cell → Option (List Step) → Cell → Type 0
NextItem old None new = (all_items old ≡ Ok ([], old)) × (new ≡ old)
NextItem old (Some steps) new = (all_items old ≡ (steps_on steps new then all_items)) × (kept_bytes new.host < kept_bytes old.host)
