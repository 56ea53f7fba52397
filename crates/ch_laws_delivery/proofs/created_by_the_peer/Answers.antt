use Rattle.ch_laws_delivery.proofs.Creates.{is_created}
use Rattle.ch_laws_delivery.proofs.created_by_the_peer.Goals as goal

pub returns : goal.returns
returns z = λ names scene what h. is_created names scene what h
