use Rattle.ch_laws_delivery.proofs.Names.{registers_still, unregisters_still}
use Rattle.ch_laws_delivery.proofs.names_that_change.Goals as goal

pub returns-clause-registered : goal.returns-clause-registered
returns-clause-registered z = λ n by name room did now h. registers_still n by name room did now h

pub returns-clause-taken : goal.returns-clause-taken
returns-clause-taken z = λ n by name room did now h. unregisters_still n by name room did now h
