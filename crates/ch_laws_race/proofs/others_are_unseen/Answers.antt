use Rattle.ch_laws_race.proofs.Others.{unseen, no_moves}
use Rattle.ch_laws_race.proofs.others_are_unseen.Goals as goal

pub returns-clause-anywhere : goal.returns-clause-anywhere
returns-clause-anywhere z = λ scene place cell done h. unseen scene place cell done h

pub returns-clause-here : goal.returns-clause-here
returns-clause-here z = λ scene x cell done h. no_moves scene x cell done h
