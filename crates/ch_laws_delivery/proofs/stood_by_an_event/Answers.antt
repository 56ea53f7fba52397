use Rattle.ch_laws_delivery.proofs.Stands.{is_stood}
use Rattle.ch_laws_delivery.proofs.stood_by_an_event.Goals as goal

pub returns : goal.returns
returns z = λ names scene now faithful h. is_stood names scene now faithful h
