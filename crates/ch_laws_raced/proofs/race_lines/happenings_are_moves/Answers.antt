use Rattle.ch_laws_raced.proofs.RaceLinesComes.{comes_moved}
use Rattle.ch_laws_raced.proofs.RaceLinesFeeds.{feeds_moved}
use Rattle.ch_laws_raced.proofs.RaceLinesJoins.{joins_moved}
use Rattle.ch_laws_raced.proofs.RaceLinesOvers.{overs_moved}
use Rattle.ch_laws_raced.proofs.race_lines.happenings_are_moves.Goals as goal

pub returns-clause-joined : goal.returns-clause-joined
returns-clause-joined z = joins_moved

pub returns-clause-came : goal.returns-clause-came
returns-clause-came z = comes_moved

pub returns-clause-fed : goal.returns-clause-fed
returns-clause-fed z = feeds_moved

pub returns-clause-ended : goal.returns-clause-ended
returns-clause-ended z = overs_moved
