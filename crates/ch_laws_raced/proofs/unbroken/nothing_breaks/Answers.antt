use Rattle.ch_laws_raced.proofs.UnbrokenKept.{nothing_broken, unbroken_kept, many_kept}
use Rattle.ch_laws_raced.proofs.UnbrokenTogether.{many_unbroken}
use Rattle.ch_laws_raced.proofs.unbroken.nothing_breaks.Goals as goal

pub returns : goal.returns
returns c = record { kept = unbroken_kept; many = many_kept; first = nothing_broken; whole = many_unbroken }
