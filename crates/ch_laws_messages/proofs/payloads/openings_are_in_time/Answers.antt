use Rattle.ch_laws_messages.proofs.PayloadsTurns.{openings_fresh, openings_kept}
use Rattle.ch_laws_messages.proofs.payloads.openings_are_in_time.Goals as goal

pub returns-clause-fresh : goal.returns-clause-fresh
returns-clause-fresh c = openings_fresh

pub returns-clause-kept : goal.returns-clause-kept
returns-clause-kept c = openings_kept
