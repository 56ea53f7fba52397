use Rattle.ch_laws_race.proofs.OtherLinks as links
use Rattle.ch_laws_race.proofs.calls_of_others.Goals as goal

pub returns-clause-connect : goal.returns-clause-connect
returns-clause-connect z = λ scene place cell end peer conn done other so. links.connects_other scene place cell end peer conn done other so

pub returns-clause-send : goal.returns-clause-send
returns-clause-send z = λ scene place cell end conn payload weight link done found other so. links.sends_other scene place cell end conn payload weight link done found other so

pub returns-clause-close : goal.returns-clause-close
returns-clause-close z = λ scene place cell end conn link done found other so. links.closes_other scene place cell end conn link done found other so
