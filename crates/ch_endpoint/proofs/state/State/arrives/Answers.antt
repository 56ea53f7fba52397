use Rattle.ch_endpoint.specs.Arrivals.{creating}
use Rattle.ch_endpoint.proofs.FramesRead.{arrives_done}
use Rattle.ch_endpoint.proofs.Heard.{with_links}
use Rattle.ch_endpoint.proofs.ItemsRead.{one_told}
use Rattle.ch_endpoint.proofs.state.State.arrives.Goals as goal

pub returns : goal.returns
returns c = one_told c.one.result (λ steps. steps.items) _ _ _ (arrives_done c.args.end c.args.peer.now c.in_ok-copy.field-0 c.args.conn c.args.self.now _ _ c.in_ok-copy.ensures (with_links (creating c.args.conn) c.args.end c.args.peer.now _ _ _ c.self.view_is c.in_ok-create.ensures) c.counts_arrival.ensures) c.one.ensures
