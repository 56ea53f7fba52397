use Rattle.std.proofs.Common.{refl}
use Rattle.ch_wire.specs.declared.answer.Answer.TheVariants as answers
use Rattle.ch_laws_race.proofs.AnswersRead.{invalid_read}
use Rattle.ch_laws_race.proofs.refusal_is_read.Goals as goal

pub returns : goal.returns
returns z = λ scene x cell i s known h. invalid_read scene x cell i s known answers.Invalid h.acts h.reads h.user h.dials refl
