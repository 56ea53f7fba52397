use Rattle.ch_model.specs.HostCalls.{host_close_endpoint}
use Rattle.ch_laws_items.proofs.Calls.{endpoint_closed}
use Rattle.ch_cell.proofs.Kept.{asked_sound}
use Rattle.ch_cell.proofs.site.Site.close_endpoint.Goals as goal

pub invariant_of-self : goal.invariant_of-self
invariant_of-self c = asked_sound (λ steps. steps.items) c.self.inside.host c.close_endpoint.new.self c.close_endpoint.result (host_close_endpoint c.self.inside.host.state c.args.end) (endpoint_closed c.self.inside.host.state c.args.end) c.self.invariant c.close_endpoint.ensures.does c.close_endpoint.ensures.err c.close_endpoint.ensures.spent
