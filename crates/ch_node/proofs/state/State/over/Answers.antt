use Rattle.std.proofs.Common.{sym, ◌∙◌}
use Rattle.ch_mail.specs.Mail.{end_of}
use Rattle.ch_model.specs.NodeActs.{or_unchanged}
use Rattle.ch_node.specs.contracts.state.State.{the_view}
use Rattle.ch_node.proofs.Steps.{same_done, over_from}
use Rattle.ch_node.proofs.state.State.over.Goals as goal

pub returns : goal.returns
returns c = same_done _ _ _ _ (over_from c.args.self.now (the_view c.self.inside) c.args.number c.args.reason.now _ _ _ ((λ i. or_unchanged c.args.self.now.mail (end_of c.args.self.now.mail c.args.number (sym c.in_ok-copy.ensures i))) ∙ c.in_ok-end_mail.ensures.0) (c.self.view_is ∙ c.in_ok-end_mail.ensures.1) c.in_ok-ending.ensures.does) c.end_told.ensures
