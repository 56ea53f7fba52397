use Rattle.ch_laws_delivery.proofs.Gets.{is_got}
use Rattle.ch_laws_delivery.proofs.read_by_a_process.Goals as goal

pub returns : goal.returns
returns z = λ names scene name rest r h. is_got names scene name rest r h
