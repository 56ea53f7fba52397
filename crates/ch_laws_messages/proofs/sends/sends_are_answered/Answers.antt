use Rattle.ch_laws_messages.proofs.SendsJournals.{many_answered}
use Rattle.ch_laws_messages.proofs.SendsLines.{sends_answered}
use Rattle.ch_laws_messages.proofs.sends.sends_are_answered.Goals as goal

pub returns-clause-nodes : goal.returns-clause-nodes
returns-clause-nodes c = sends_answered

pub returns-clause-many : goal.returns-clause-many
returns-clause-many c = many_answered
