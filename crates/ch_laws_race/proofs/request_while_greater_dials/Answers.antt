use Rattle.std.proofs.Common.{refl}
use Rattle.ch_race.specs.Pair.{Greater}
use Rattle.ch_laws_race.proofs.RequestsRead.{request_while_dialing}
use Rattle.ch_laws_race.proofs.request_while_greater_dials.Goals as goal

pub returns : goal.returns
returns z = λ scene cell i s known own h. request_while_dialing scene Greater cell i s known h.request.acts h.request.reads h.request.matches own refl h.stands h.dials h.request.way
