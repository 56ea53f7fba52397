use Rattle.ch_endpoint.specs.Waits.{waiting}
use Rattle.ch_endpoint.proofs.Sends.{waiting_stands}
use Rattle.ch_endpoint.proofs.Heard.{with_links}
use Rattle.ch_endpoint.proofs.state.State.waits.Goals as goal

pub returns-clause-state : goal.returns-clause-state
returns-clause-state c = waiting_stands c.args.end c.args.peer.now c.args.item c.args.self.now _ (with_links (waiting c.args.item) c.args.end c.args.peer.now _ _ _ c.self.view_is c.in_ok-wait.ensures)
