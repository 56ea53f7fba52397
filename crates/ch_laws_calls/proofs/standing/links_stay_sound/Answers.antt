use Rattle.ch_laws_calls.proofs.StandingKept.{calls_kept, fresh_links}
use Rattle.ch_laws_calls.proofs.standing.links_stay_sound.Goals as goal

pub returns-clause-kept : goal.returns-clause-kept
returns-clause-kept c = calls_kept

pub returns-clause-fresh : goal.returns-clause-fresh
returns-clause-fresh c = fresh_links
