use Rattle.ch_laws_messages.proofs.PromisedFronts.{all_stand}
use Rattle.ch_laws_messages.proofs.PromisedSpelt.{front_spelt}
use Rattle.ch_laws_messages.proofs.promised.all_stands.Goals as goal

pub returns-clause-fronts : goal.returns-clause-fronts
returns-clause-fronts c = all_stand

pub returns-clause-spelt : goal.returns-clause-spelt
returns-clause-spelt c = front_spelt
