use Rattle.ch_laws_places.proofs.Last.{takes_place, turn_reads}
use Rattle.ch_laws_places.proofs.place_of_read.Goals as goal

pub returns-clause-turn : goal.returns-clause-turn
returns-clause-turn c = turn_reads

pub returns-clause-place : goal.returns-clause-place
returns-clause-place c = takes_place
