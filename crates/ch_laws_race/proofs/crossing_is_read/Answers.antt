use Rattle.std.proofs.Common.{refl}
use Rattle.ch_wire.specs.declared.answer.Answer.TheVariants as answers
use Rattle.ch_laws_race.proofs.AnswersRead.{crossed_read}
use Rattle.ch_laws_race.proofs.crossing_is_read.Goals as goal

pub returns : goal.returns
returns z = λ scene x cell i s known h. crossed_read scene x cell i s known answers.Crossed h.acts h.reads h.user h.dials refl
