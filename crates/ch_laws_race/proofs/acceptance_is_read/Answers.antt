use Rattle.std.proofs.Common.{refl}
use Rattle.ch_wire.specs.declared.answer.Answer.TheVariants as answers
use Rattle.ch_laws_race.proofs.AnswersRead.{accepted_read}
use Rattle.ch_laws_race.proofs.acceptance_is_read.Goals as goal

pub returns : goal.returns
returns z = λ scene x cell i s known h. accepted_read scene x cell i s known answers.Accepted h.answer.acts h.answer.reads h.answer.user h.answer.dials refl h.payloads h.way
