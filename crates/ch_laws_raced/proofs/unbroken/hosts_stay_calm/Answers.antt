use Rattle.ch_laws_raced.proofs.UnbrokenItems.{calm_next}
use Rattle.ch_laws_raced.proofs.UnbrokenOvers.{calm_over}
use Rattle.ch_laws_raced.proofs.unbroken.hosts_stay_calm.Goals as goal

pub returns : goal.returns
returns c = record { next = calm_next; ended = calm_over }
