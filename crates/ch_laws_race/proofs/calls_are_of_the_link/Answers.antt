use Rattle.ch_laws_race.proofs.Calls as calls
use Rattle.ch_laws_race.proofs.calls_are_of_the_link.Goals as goal

pub returns-clause-connect : goal.returns-clause-connect
returns-clause-connect z = λ scene x conn given h. calls.connects scene x conn given h

pub returns-clause-send : goal.returns-clause-send
returns-clause-send z = λ scene x conn payload weight id h. calls.sends scene x conn payload weight id h

pub returns-clause-close : goal.returns-clause-close
returns-clause-close z = λ scene x conn closed h. calls.closes scene x conn closed h
