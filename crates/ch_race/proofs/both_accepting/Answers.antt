use Rattle.std.proofs.Common.{refl, inr}
use Rattle.ch_link.specs.Table.{step_of}
use Rattle.ch_race.specs.Moves.{End_t}
use Rattle.ch_race.proofs.both_accepting.Goals as goal

-- the greater node is to read the end of its input on the socket that it is up on
pub returns-clause-forbidden : goal.returns-clause-forbidden
unfolding step_of
returns-clause-forbidden c = λ law. law (End_t 0) refl (tt, refl, inr refl) refl
