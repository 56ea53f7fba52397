use Rattle.ch_laws_delivery.proofs.QuietLines.{is_told_in, is_stood_in}
use Rattle.ch_laws_delivery.proofs.told_by_a_line.Goals as goal

pub returns-clause-sender : goal.returns-clause-sender
returns-clause-sender z = λ world from to legs scene what event did after s l. is_told_in world from to legs scene what event did after s l

pub returns-clause-receiver : goal.returns-clause-receiver
returns-clause-receiver z = λ names world from to legs scene what event did after s l faithful ages. is_stood_in names world from to legs scene what event did after s l faithful ages
