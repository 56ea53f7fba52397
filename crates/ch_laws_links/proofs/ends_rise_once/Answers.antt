use Rattle.ch_laws_links.proofs.Journals.{rises_once_in, falls_from_up_in, leaves_unrisen_in, rests_in}
use Rattle.ch_laws_links.proofs.ends_rise_once.Goals as goal

pub returns-clause-once : goal.returns-clause-once
returns-clause-once c = rises_once_in

pub returns-clause-from_up : goal.returns-clause-from_up
returns-clause-from_up c = falls_from_up_in

pub returns-clause-unrisen : goal.returns-clause-unrisen
returns-clause-unrisen c = leaves_unrisen_in

pub returns-clause-rests : goal.returns-clause-rests
returns-clause-rests c = rests_in
