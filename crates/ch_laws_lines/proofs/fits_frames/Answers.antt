use Rattle.ch_laws_lines.proofs.OneOfMany.{many_fit}
use Rattle.ch_laws_lines.proofs.fits_frames.Goals as goal

pub returns : goal.returns
returns c = λ bytes. many_fit bytes
