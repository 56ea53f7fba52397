use Rattle.std.proofs.Common.{ap}
use Rattle.ch_model.specs.NodeState.{Pair}
use Rattle.ch_laws_plain_nodes.proofs.Sends.{home_notes, away_pair, home_pair}
use Rattle.ch_laws_plain_nodes.proofs.Commands.{does_away, does_home, does_open, others_stay}
use Rattle.ch_laws_plain_nodes.proofs.plain_nodes_send.Goals as goal

pub returns-clause-away : goal.returns-clause-away
returns-clause-away c = does_away

pub returns-clause-home : goal.returns-clause-home
returns-clause-home c = λ node after by to said room done h e. let s = does_home node after by to said room done h e in (s, home_notes node by to said done after s)

pub returns-clause-opens : goal.returns-clause-opens
returns-clause-opens c = does_open

pub returns-clause-marked : goal.returns-clause-marked
returns-clause-marked c = λ node after by to said room done h e. ap (λ (pair : Pair). pair.mark) (away_pair node by to said done after (does_away node after by to said room done h e))

pub returns-clause-unmarked : goal.returns-clause-unmarked
returns-clause-unmarked c = λ node after by to said room done h e. ap (λ (pair : Pair). pair.mark) (home_pair node by to said done after (does_home node after by to said room done h e))

pub returns-clause-others : goal.returns-clause-others
returns-clause-others c = others_stay
