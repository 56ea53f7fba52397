use Rattle.ch_laws_messages.proofs.AnswersAsks.{ends_ask_none, items_ask_none}
use Rattle.ch_laws_messages.proofs.answers.hosts_are_asked_nothing.Goals as goal

pub returns-clause-ends : goal.returns-clause-ends
returns-clause-ends c = ends_ask_none

pub returns-clause-items : goal.returns-clause-items
returns-clause-items c = items_ask_none
