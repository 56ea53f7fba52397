use Rattle.ch_laws_race.proofs.RequestsRead.{request_refused}
use Rattle.ch_laws_race.proofs.request_while_shut.Goals as goal

pub returns : goal.returns
returns z = λ scene x cell i s known h. request_refused scene x cell i s known h.request.acts h.request.reads h.request.matches h.shut h.request.way
