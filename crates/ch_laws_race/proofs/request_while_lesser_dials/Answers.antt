use Rattle.std.proofs.Common.{refl}
use Rattle.ch_race.specs.Pair.{Lesser}
use Rattle.ch_laws_race.proofs.LeavesDial.{request_taken}
use Rattle.ch_laws_race.proofs.request_while_lesser_dials.Goals as goal

pub returns : goal.returns
returns z = λ scene cell i s known j dialed own h. request_taken scene Lesser cell i s known h.request.acts h.request.reads h.request.matches j dialed own h.dial h.own_kept h.payloads h.spelled h.request.way refl h.stands h.dials
