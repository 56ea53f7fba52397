use Rattle.ch_laws_race.proofs.ProbesThere.{request_up}
use Rattle.ch_laws_race.proofs.request_while_up.Goals as goal

pub returns : goal.returns
returns z = λ scene x cell i s known e j standing up h. request_up scene x cell i s known h.request.acts h.request.reads h.request.matches e j standing up h.has h.apart h.up_kept h.request.way h.probe h.stands h.is
