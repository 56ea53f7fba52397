use Rattle.ch_laws_delivery.proofs.AgainWorlds.{is_reconnected_in, is_closed_in}
use Rattle.ch_laws_delivery.proofs.reconnected_by_a_line.Goals as goal

pub returns-clause-down : goal.returns-clause-down
returns-clause-down z = λ names named_apart world from to legs scene c name conn id table by target s l acts h. is_reconnected_in names named_apart world from to legs scene c name conn id table by target s l acts h

pub returns-clause-up : goal.returns-clause-up
returns-clause-up z = λ names named_apart world from to legs scene c name conn id sock probed table by target s apart l acts h. is_closed_in names named_apart world from to legs scene c name conn id table by target s l acts sock probed apart h
