use Rattle.ch_endpoint.proofs.Heard.{accepts_done}
use Rattle.ch_endpoint.proofs.state.State.leaves_and_accepts.Goals as goal

pub returns : goal.returns
returns c = rw c.in_ok-steps.ensures (accepts_done c.args.end c.args.peer.now c.args.own c.asked_on.result c.args.old c.args.input c.args.self.now c.leaves.new.self _ _ _ c.asked_on.ensures c.in_ok-first.ensures.does c.in_ok-first.ensures.links c.in_ok-more.ensures)
