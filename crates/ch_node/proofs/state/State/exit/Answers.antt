use Rattle.std.proofs.Common.{rules}
use Rattle.ch_node.proofs.Steps.{same_given}
use Rattle.ch_node.proofs.state.State.exit.Goals as goal

pub returns-clause-does : goal.returns-clause-does
returns-clause-does c = same_given _ _ _ _ (search rules) c.doom_by.ensures.does
