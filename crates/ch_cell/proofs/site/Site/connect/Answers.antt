use Rattle.ch_model.specs.HostCalls.{host_connect}
use Rattle.ch_laws_items.proofs.Calls.{connected}
use Rattle.ch_cell.proofs.Kept.{asked_sound}
use Rattle.ch_cell.proofs.site.Site.connect.Goals as goal

pub invariant_of-self : goal.invariant_of-self
invariant_of-self c = asked_sound (λ steps. steps.items) c.self.inside.host c.connect.new.self c.connect.result (host_connect c.self.inside.host.state c.args.end c.args.peer.now c.args.conn) (connected c.self.inside.host.state c.args.end c.args.peer.now c.args.conn) c.self.invariant c.connect.ensures.does c.connect.ensures.err c.connect.ensures.spent

pub invariant_of-self-in-Ok : goal.invariant_of-self-in-Ok
invariant_of-self-in-Ok c = asked_sound (λ steps. steps.items) c.self.inside.host c.connect.new.self c.connect.result (host_connect c.self.inside.host.state c.args.end c.args.peer.now c.args.conn) (connected c.self.inside.host.state c.args.end c.args.peer.now c.args.conn) c.self.invariant c.connect.ensures.does c.connect.ensures.err c.connect.ensures.spent
