use Rattle.ch_laws_items.proofs.Cells.{none_left, one_first, all_rests}
use Rattle.ch_laws_items.proofs.one_after_another.Goals as goal

pub returns-clause-none : goal.returns-clause-none
returns-clause-none c = none_left

pub returns-clause-one : goal.returns-clause-one
returns-clause-one c = one_first

pub returns-clause-until_none : goal.returns-clause-until_none
returns-clause-until_none c = all_rests
