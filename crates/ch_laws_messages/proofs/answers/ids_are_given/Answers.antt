use Rattle.ch_laws_messages.proofs.AnswersAsks.{ids_given}
use Rattle.ch_laws_messages.proofs.answers.ids_are_given.Goals as goal

pub returns : goal.returns
returns c = ids_given
