use Rattle.ch_laws_delivery.proofs.Farewells.{is_finished}
use Rattle.ch_laws_delivery.proofs.over_at_the_sender.Goals as goal

pub returns : goal.returns
returns z = λ names scene number now ps others h. is_finished names scene number now ps others h
