use Rattle.ch_laws_messages.proofs.SaidFed.{came_say, fed_say}
use Rattle.ch_laws_messages.proofs.SaidTakes.{taken_say}
use Rattle.ch_laws_messages.proofs.said.what_comes_and_is_taken_says_nothing.Goals as goal

pub returns-clause-taken : goal.returns-clause-taken
returns-clause-taken c = taken_say

pub returns-clause-came : goal.returns-clause-came
returns-clause-came c = came_say

pub returns-clause-fed : goal.returns-clause-fed
returns-clause-fed c = fed_say
