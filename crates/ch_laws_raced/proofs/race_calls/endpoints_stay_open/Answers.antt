use Rattle.ch_laws_raced.proofs.RaceCallsUnshut.{unshut_kept, fresh_unshut}
use Rattle.ch_laws_raced.proofs.race_calls.endpoints_stay_open.Goals as goal

pub returns-clause-fresh : goal.returns-clause-fresh
returns-clause-fresh z = fresh_unshut

pub returns-clause-kept : goal.returns-clause-kept
returns-clause-kept z = unshut_kept
