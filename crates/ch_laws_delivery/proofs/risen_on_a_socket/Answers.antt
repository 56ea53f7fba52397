use Rattle.ch_laws_delivery.proofs.Rises.{is_risen}
use Rattle.ch_laws_delivery.proofs.risen_on_a_socket.Goals as goal

pub returns : goal.returns
returns z = λ names scene input sock i h later. is_risen names scene input sock i h later
