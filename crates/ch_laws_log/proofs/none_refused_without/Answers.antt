use Rattle.ch_laws_log.proofs.Feeding.{none_refused}
use Rattle.ch_laws_log.proofs.none_refused_without.Goals as goal

pub returns : goal.returns
returns c = none_refused
