use Rattle.std.proofs.Common.{ap, ◌∙◌}
use Rattle.ch_model.specs.HostState.{Link}
use Rattle.ch_endpoint.specs.Arrivals.{may_create}
use Rattle.ch_endpoint.proofs.Arriving.{created_more}
use Rattle.ch_endpoint.proofs.link.Link.create.Goals as goal

pub invariant_of-self : goal.invariant_of-self
invariant_of-self c = (c.self.invariant.0, c.self.invariant.1, created_more c.args.id c.args.conn c.self.inside.arrived _ _ (ap (λ (l : Link). may_create c.args.id l.created) c.self.view_is ∙ c.requires) c.in-Ok.ensures.does c.self.invariant.2)
