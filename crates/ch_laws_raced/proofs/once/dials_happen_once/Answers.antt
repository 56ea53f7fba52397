use Rattle.ch_laws_raced.proofs.OnceKept.{none_dialed, once_kept}
use Rattle.ch_laws_raced.proofs.OnceTogether.{many_kept, many_once}
use Rattle.ch_laws_raced.proofs.once.dials_happen_once.Goals as goal

pub returns : goal.returns
returns c = record { kept = once_kept; many = many_kept; first = none_dialed; whole = many_once }
