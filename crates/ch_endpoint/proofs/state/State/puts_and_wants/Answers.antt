use Rattle.ch_endpoint.proofs.Sends.{puts_then_wants}
use Rattle.ch_endpoint.proofs.state.State.puts_and_wants.Goals as goal

pub returns : goal.returns
returns c = rw c.in_ok-steps.ensures (puts_then_wants c.args.item c.args.end c.args.peer.now c.args.self.now c.puts.new.self _ _ _ c.in_ok-first.ensures.does c.in_ok-more.ensures)
