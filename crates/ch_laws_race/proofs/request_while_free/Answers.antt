use Rattle.ch_laws_race.proofs.RequestsRead as requests
use Rattle.ch_laws_race.proofs.request_while_free.Goals as goal

pub returns : goal.returns
returns z = λ scene x cell i s known h. requests.request_while_free scene x cell i s known h.request.acts h.request.reads h.request.matches h.free h.stands h.payloads h.spelled h.request.way
