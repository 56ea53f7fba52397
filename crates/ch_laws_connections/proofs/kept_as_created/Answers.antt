use Rattle.ch_laws_connections.proofs.MadeSteps.{fresh_meets, cell_meets, worlds_meet}
use Rattle.ch_laws_connections.proofs.kept_as_created.Goals as goal

pub returns-clause-fresh : goal.returns-clause-fresh
returns-clause-fresh c = fresh_meets

pub returns-clause-step : goal.returns-clause-step
returns-clause-step c = cell_meets

pub returns-clause-worlds : goal.returns-clause-worlds
returns-clause-worlds c = worlds_meet
