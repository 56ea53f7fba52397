use Rattle.ch_laws_raced.proofs.RaceCallsRaced.{marked_raced, noted_raced, seated_raced, connected_raced, sent_raced, closed_raced}
use Rattle.ch_laws_raced.proofs.race_calls.races_go_on.Goals as goal

pub returns-clause-marked : goal.returns-clause-marked
returns-clause-marked z = λ journal log world number answer raced. marked_raced journal log world raced number answer

pub returns-clause-noted : goal.returns-clause-noted
returns-clause-noted z = λ journal log world note raced. noted_raced journal log world raced note

pub returns-clause-seated : goal.returns-clause-seated
returns-clause-seated z = λ journal log world place cell nodes there raced. seated_raced journal log world raced place cell there nodes

pub returns-clause-connected : goal.returns-clause-connected
returns-clause-connected z = λ journal log world place cell end peer conn steps host there does sound shown raced. connected_raced journal log world raced place cell there sound shown steps host end peer conn does

pub returns-clause-sent : goal.returns-clause-sent
returns-clause-sent z = λ journal log world place cell end conn payload weight steps host there does sound shown unshut raced. sent_raced journal log world raced place cell there sound shown steps host end conn payload weight unshut does

pub returns-clause-closed : goal.returns-clause-closed
returns-clause-closed z = λ journal log world place cell end conn steps host there does sound shown raced. closed_raced journal log world raced place cell there sound shown steps host end conn does
