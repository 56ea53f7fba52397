use Rattle.ch_laws_plain_nodes.proofs.Events.{bound_read, bound_again}
use Rattle.ch_laws_plain_nodes.proofs.openings_bind.Goals as goal

pub returns-clause-plainly : goal.returns-clause-plainly
returns-clause-plainly c = λ node peer payload o. bound_read node peer payload o

pub returns-clause-exactly : goal.returns-clause-exactly
returns-clause-exactly c = bound_again
