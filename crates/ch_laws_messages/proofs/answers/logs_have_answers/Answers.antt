use Rattle.ch_laws_messages.proofs.AnswersJournals.{many_have_answers}
use Rattle.ch_laws_messages.proofs.answers.logs_have_answers.Goals as goal

pub returns : goal.returns
returns c = many_have_answers
