use Rattle.ch_model.specs.World.{names_of}
use Rattle.ch_laws_messages.proofs.SendsJournals.{are_small}
use Rattle.ch_laws_messages.proofs.SendsSmall.{says_small}
use Rattle.ch_laws_messages.proofs.sends.counters_are_small.Goals as goal

pub returns-clause-lines : goal.returns-clause-lines
returns-clause-lines c = are_small

pub returns-clause-said : goal.returns-clause-said
returns-clause-said c = λ journal log many small place. says_small journal (names_of journal) many small log place
