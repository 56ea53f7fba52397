use Rattle.ch_laws_calls.proofs.FitsGives.{fit_gives}
use Rattle.ch_laws_calls.proofs.FitsKept.{fit_kept, fresh_fit}
use Rattle.ch_laws_calls.proofs.fits.frames_fit.Goals as goal

pub returns-clause-fresh : goal.returns-clause-fresh
returns-clause-fresh c = fresh_fit

pub returns-clause-kept : goal.returns-clause-kept
returns-clause-kept c = fit_kept

pub returns-clause-gives : goal.returns-clause-gives
returns-clause-gives c = fit_gives
