use Rattle.ch_laws_live.proofs.Kept.{nothing_lives, lively_kept, many_kept}
use Rattle.ch_laws_live.proofs.one_socket_lives.Goals as goal

pub returns : goal.returns
returns c = record { kept = lively_kept; many = many_kept; first = nothing_lives }
