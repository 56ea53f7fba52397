use Rattle.ch_laws_delivery.proofs.Opens.{is_opened}
use Rattle.ch_laws_delivery.proofs.opened_by_a_process.Goals as goal

pub returns : goal.returns
returns z = λ names scene name rest o h. is_opened names scene name rest o h
