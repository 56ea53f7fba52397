use Rattle.std.proofs.Common.{ap}
use Rattle.ch_ident.specs.declared.reason.Reason.TheVariants.{Exception}
use Rattle.ch_model.specs.NodeEnds.{over}
use Rattle.ch_node.proofs.Steps.{same_done}
use Rattle.ch_node.proofs.state.State.over_unlabelled.Goals as goal

pub returns : goal.returns
returns c = same_done _ _ _ _ (ap (λ t. over c.args.self.now c.args.number (Exception t)) c.in_ok-text.ensures) c.over.ensures
