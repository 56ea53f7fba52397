use Rattle.ch_laws_delivery.proofs.Rises.{is_come}
use Rattle.ch_laws_delivery.proofs.come_on_a_socket.Goals as goal

pub returns : goal.returns
returns z = λ names scene input sock i h later. is_come names scene input sock i h later
