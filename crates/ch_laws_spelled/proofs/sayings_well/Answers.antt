use Rattle.ch_laws_spelled.proofs.Sayings.{saying_at, all_counted, first_well}
use Rattle.ch_laws_spelled.proofs.sayings_well.Goals as goal

pub returns-clause-said : goal.returns-clause-said
returns-clause-said c = λ journal x y log well i s e. saying_at journal x y log well i s e

pub returns-clause-counted : goal.returns-clause-counted
returns-clause-counted c = λ journal log well. all_counted journal log well

pub returns-clause-first : goal.returns-clause-first
returns-clause-first c = λ journal one two well. first_well journal one two well
