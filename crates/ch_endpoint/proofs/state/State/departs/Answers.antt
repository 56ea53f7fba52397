use Rattle.ch_endpoint.specs.Arrivals.{closing_id}
use Rattle.ch_endpoint.proofs.FramesRead.{departs_done}
use Rattle.ch_endpoint.proofs.Heard.{with_links}
use Rattle.ch_endpoint.proofs.ItemsRead.{one_told}
use Rattle.ch_endpoint.proofs.state.State.departs.Goals as goal

pub returns : goal.returns
returns c = one_told c.one.result (λ steps. steps.items) _ _ _ (departs_done c.args.end c.args.peer.now c.args.id c.args.conn c.args.self.now _ (with_links (closing_id c.args.id) c.args.end c.args.peer.now _ _ _ c.self.view_is c.in_ok-close_id.ensures)) c.one.ensures
