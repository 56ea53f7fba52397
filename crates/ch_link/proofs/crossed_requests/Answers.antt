use Rattle.std.proofs.Common.{refl}
use Rattle.ch_link.specs.Table.{step_of}
use Rattle.ch_link.proofs.Laws.{one}
use Rattle.ch_link.proofs.crossed_requests.Goals as goal

pub returns : goal.returns
unfolding step_of
returns c = record { one = one; greater = λ d s. refl; lesser = λ d s. refl }
