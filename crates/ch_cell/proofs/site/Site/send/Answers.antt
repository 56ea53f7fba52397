use Rattle.ch_model.specs.HostCalls.{host_send}
use Rattle.ch_laws_items.proofs.Calls.{sent}
use Rattle.ch_cell.proofs.Kept.{asked_sound}
use Rattle.ch_cell.proofs.site.Site.send.Goals as goal

pub invariant_of-self : goal.invariant_of-self
invariant_of-self c = asked_sound (λ steps. steps.items) c.self.inside.host c.send.new.self c.send.result (host_send c.self.inside.host.state c.args.end c.args.conn c.args.payload.now c.args.weight) (sent c.self.inside.host.state c.args.end c.args.conn c.args.payload.now c.args.weight) c.self.invariant c.send.ensures.does c.send.ensures.err c.send.ensures.spent

pub invariant_of-self-in-Ok : goal.invariant_of-self-in-Ok
invariant_of-self-in-Ok c = asked_sound (λ steps. steps.items) c.self.inside.host c.send.new.self c.send.result (host_send c.self.inside.host.state c.args.end c.args.conn c.args.payload.now c.args.weight) (sent c.self.inside.host.state c.args.end c.args.conn c.args.payload.now c.args.weight) c.self.invariant c.send.ensures.does c.send.ensures.err c.send.ensures.spent
