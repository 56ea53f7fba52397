use Rattle.ch_laws_race.proofs.RequestsRead as requests
use Rattle.ch_laws_race.proofs.request_while_probed.Goals as goal

pub returns : goal.returns
returns z = λ scene x cell i s known up h. requests.request_while_probed scene x cell i s known h.request.acts h.request.reads h.request.matches up h.stands h.is h.request.way
