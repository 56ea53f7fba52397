use Rattle.std.proofs.Common.{subst}
use Rattle.ch_laws_endings.proofs.NodeEnds.{Caused, event_caused}
use Rattle.ch_laws_endings.proofs.CommandEnds.{Asked, command_asked, make_caused, shut_caused}
use Rattle.ch_laws_endings.proofs.nodes_end_with_cause.Goals as goal

pub returns-clause-make : goal.returns-clause-make
returns-clause-make c = λ node after done is. subst Caused is (make_caused node)

pub returns-clause-command : goal.returns-clause-command
returns-clause-command c = λ node after by command room done is. subst (Asked node by command) is (command_asked node by command room)

pub returns-clause-event : goal.returns-clause-event
returns-clause-event c = λ node after event done is. subst Caused is (event_caused node event)

pub returns-clause-shut : goal.returns-clause-shut
returns-clause-shut c = λ node after done is. subst Caused is (shut_caused node)
