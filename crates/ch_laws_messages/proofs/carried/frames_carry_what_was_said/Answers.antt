use Rattle.ch_laws_messages.proofs.CarriedWritten.{all_written}
use Rattle.ch_laws_messages.proofs.carried.frames_carry_what_was_said.Goals as goal

pub returns : goal.returns
returns c = λ journal nodes. all_written journal
