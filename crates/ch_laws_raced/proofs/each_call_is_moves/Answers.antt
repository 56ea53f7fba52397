use Rattle.ch_laws_raced.proofs.Raced.{raced_kept}
use Rattle.ch_laws_raced.proofs.each_call_is_moves.Goals as goal

pub returns : goal.returns
returns z = raced_kept
