use Rattle.ch_laws_messages.proofs.GotGotsKept.{gots_kept}
use Rattle.ch_laws_messages.proofs.GotWells.{well_before}
use Rattle.ch_laws_messages.proofs.got.receipts_are_kept.Goals as goal

pub returns-clause-kept : goal.returns-clause-kept
returns-clause-kept c = gots_kept

pub returns-clause-before : goal.returns-clause-before
returns-clause-before c = well_before
