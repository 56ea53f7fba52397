use Rattle.std.proofs.Common.{sym, ◌∙◌}
use Rattle.ch_endpoint.proofs.Sending.{close_lost, close_does}
use Rattle.ch_endpoint.proofs.state.State.closes_at.Goals as goal

pub returns-in-None-clause-does : goal.returns-in-None-clause-does
returns-in-None-clause-does c = close_lost c.args.self.now c.args.end c.args.conn _ c.requires (sym c.id_of.ensures.value ∙ c.in-None.is)

pub returns-in-Ok-clause-does : goal.returns-in-Ok-clause-does
returns-in-Ok-clause-does c = close_does c.args.self.now c.args.end c.args.conn c.in-Some.id _ _ c.requires (sym c.id_of.ensures.value ∙ c.in-Some.is) c.in-Ok.ensures
