use Rattle.ch_laws_delivery.proofs.OverWorlds.{is_over_in}
use Rattle.ch_laws_delivery.proofs.over_by_a_line.Goals as goal

pub returns : goal.returns
returns z = λ names world from to legs scene what event did after number ps others s apart l h. is_over_in names world from to legs scene what event did after number ps others s apart l h
