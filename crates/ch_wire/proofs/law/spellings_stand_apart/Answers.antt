use Rattle.ch_wire.proofs.Spellings.{requests_apart, answers_apart, frames_apart}
use Rattle.ch_wire.proofs.law.spellings_stand_apart.Goals as goal

pub returns-clause-requests : goal.returns-clause-requests
returns-clause-requests c = requests_apart

pub returns-clause-answers : goal.returns-clause-answers
returns-clause-answers c = answers_apart

pub returns-clause-frames : goal.returns-clause-frames
returns-clause-frames c = frames_apart
