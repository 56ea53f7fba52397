use Rattle.ch_laws_many.proofs.Journals.{is_journal}
use Rattle.ch_laws_messages.proofs.AnswersWhole.{all_answered, has_answers}
use Rattle.ch_laws_messages.proofs.answers.answers_are_whole.Goals as goal

pub returns-clause-answered : goal.returns-clause-answered
returns-clause-answered c = all_answered

pub returns-clause-whole : goal.returns-clause-whole
returns-clause-whole c = has_answers

pub returns-clause-many : goal.returns-clause-many
returns-clause-many c = is_journal
