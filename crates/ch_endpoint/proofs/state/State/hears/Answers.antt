use Rattle.ch_model.specs.HostState.{Link}
use Rattle.ch_endpoint.proofs.Heard.{hears_done, never_dials, with_links}
use Rattle.ch_endpoint.proofs.state.State.hears.Goals as goal

pub does_act-requires : goal.does_act-requires
does_act-requires c = rw c.step-now.ensures.table (never_dials _ _ _ c.requires)

pub returns : goal.returns
returns c = hears_done c.args.end c.args.peer.now c.args.input c.args.self.now _ c.state_with-old.result c.step-now.result.0 c.step-now.result.1 _ _ c.state_with-old.ensures c.in_ok-greater.ensures c.step-now.ensures.table (with_links (λ (l : Link). record l { state = c.step-now.result.0 }) c.args.end c.args.peer.now _ _ _ c.self.view_is c.in_ok-set_state.ensures) c.in_ok-steps.ensures
