use Rattle.ch_model.specs.World.{names_of}
use Rattle.ch_laws_messages.proofs.SendsCounts.{done_as_said}
use Rattle.ch_laws_messages.proofs.SendsUps.{up_as_told}
use Rattle.ch_laws_messages.proofs.SendsWaiting.{waiting_said}
use Rattle.ch_laws_messages.proofs.SendsWaits.{waits_as_said}
use Rattle.ch_laws_messages.proofs.sends.hosts_have_what_logs_count.Goals as goal

pub returns-clause-up : goal.returns-clause-up
returns-clause-up c = up_as_told

pub returns-clause-done : goal.returns-clause-done
returns-clause-done c = λ journal x y log many own place. done_as_said journal (names_of journal) many x y log own place

pub returns-clause-waiting : goal.returns-clause-waiting
returns-clause-waiting c = λ journal x y log many apart plain own place down. waiting_said journal (names_of journal) many x y apart log plain own place down

pub returns-clause-waits : goal.returns-clause-waits
returns-clause-waits c = waits_as_said
