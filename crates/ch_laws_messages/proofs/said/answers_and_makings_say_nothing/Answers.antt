use Rattle.ch_laws_messages.proofs.SaidMakes.{made_say}
use Rattle.ch_laws_messages.proofs.SaidStill.{marked_say}
use Rattle.ch_laws_messages.proofs.said.answers_and_makings_say_nothing.Goals as goal

pub returns-clause-marked : goal.returns-clause-marked
returns-clause-marked c = marked_say

pub returns-clause-made : goal.returns-clause-made
returns-clause-made c = made_say
