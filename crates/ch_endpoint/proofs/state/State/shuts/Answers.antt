use Rattle.ch_endpoint.specs.Waits.{forgetting}
use Rattle.ch_endpoint.proofs.Heard.{shuts_done, with_links}
use Rattle.ch_endpoint.proofs.state.State.shuts.Goals as goal

pub returns : goal.returns
returns c = rw c.in_ok-steps.ensures (shuts_done c.args.end c.args.peer.now c.args.old c.args.input c.args.self.now c.leaves_off.new.self _ _ _ c.in_ok-said.ensures c.in_ok-left.ensures.does c.in_ok-left.ensures.links (with_links forgetting c.args.end c.args.peer.now _ _ _ c.self.view_is c.in_ok-forget.ensures))
