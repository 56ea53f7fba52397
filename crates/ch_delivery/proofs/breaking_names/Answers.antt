use Rattle.std.proofs.Common.{refl}
use Rattle.ch_delivery.proofs.breaking_names.Goals as goal

pub returns-clause-forbidden : goal.returns-clause-forbidden
returns-clause-forbidden c = λ law. law 1 refl refl
