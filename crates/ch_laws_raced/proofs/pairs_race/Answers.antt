use Rattle.ch_laws_raced.proofs.Together.{many_raced}
use Rattle.ch_laws_raced.proofs.pairs_race.Goals as goal

pub returns-clause-all : goal.returns-clause-all
returns-clause-all z = λ bytes front rest whole log world e peers. (many_raced bytes front rest whole log world e peers).0

pub returns-clause-raced : goal.returns-clause-raced
returns-clause-raced z = λ bytes front rest whole log world e peers. (many_raced bytes front rest whole log world e peers).1
