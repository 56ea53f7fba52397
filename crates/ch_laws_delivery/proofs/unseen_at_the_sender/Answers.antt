use Rattle.ch_laws_delivery.proofs.Quiets.{is_unseen}
use Rattle.ch_laws_delivery.proofs.unseen_at_the_sender.Goals as goal

pub returns : goal.returns
returns z = λ names scene now h. is_unseen scene now h names
