use Rattle.ch_model.specs.HostCalls.{host_close}
use Rattle.ch_laws_items.proofs.Calls.{closed}
use Rattle.ch_cell.proofs.Kept.{asked_sound}
use Rattle.ch_cell.proofs.site.Site.close.Goals as goal

pub invariant_of-self : goal.invariant_of-self
invariant_of-self c = asked_sound (λ steps. steps.items) c.self.inside.host c.close.new.self c.close.result (host_close c.self.inside.host.state c.args.end c.args.conn) (closed c.self.inside.host.state c.args.end c.args.conn) c.self.invariant c.close.ensures.does c.close.ensures.err c.close.ensures.spent

pub invariant_of-self-in-Ok : goal.invariant_of-self-in-Ok
invariant_of-self-in-Ok c = asked_sound (λ steps. steps.items) c.self.inside.host c.close.new.self c.close.result (host_close c.self.inside.host.state c.args.end c.args.conn) (closed c.self.inside.host.state c.args.end c.args.conn) c.self.invariant c.close.ensures.does c.close.ensures.err c.close.ensures.spent
