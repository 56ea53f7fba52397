use Rattle.ch_laws_plain.proofs.AsksShort.{opening_short}
use Rattle.ch_laws_plain.proofs.asks.openings_fit_in_frames.Goals as goal

pub returns : goal.returns
returns c = opening_short
