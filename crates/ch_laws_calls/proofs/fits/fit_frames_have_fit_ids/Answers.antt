use Rattle.ch_laws_calls.proofs.FitsAccounts.{ids_fit}
use Rattle.ch_laws_calls.proofs.fits.fit_frames_have_fit_ids.Goals as goal

pub returns : goal.returns
returns c = ids_fit
