use Rattle.std.proofs.Common.{ap, length, ◌+◌, ◌∙◌}
use Rattle.ch_model.specs.HostState.{HostState}
use Rattle.ch_model.specs.HostSteps.{link_with}
use Rattle.ch_endpoint.specs.Waits.{giving}
use Rattle.ch_endpoint.proofs.Sends.{opens_done, worn_kept}
use Rattle.ch_endpoint.proofs.Heard.{with_links}
use Rattle.ch_endpoint.proofs.state.State.opens.Goals as goal

pub puts_and_wants-requires-clause-worn : goal.puts_and_wants-requires-clause-worn
puts_and_wants-requires-clause-worn c = worn_kept c.args.end c.args.peer.now c.args.conn c.args.self.now _ (with_links (giving c.args.conn) c.args.end c.args.peer.now _ _ _ c.self.view_is c.in_ok-id.ensures.ok) c.requires.worn

pub returns : goal.returns
returns c =
    let id = c.in_ok-id.ensures.id ∙ ap (λ (h : HostState). 1024 + length (link_with h c.args.end c.args.peer.now).given) c.self.view_is in
    opens_done c.args.end c.args.peer.now c.args.conn c.in_ok-id.id c.args.self.now _ _ (with_links (giving c.args.conn) c.args.end c.args.peer.now _ _ _ c.self.view_is c.in_ok-id.ensures.ok) id c.in_ok-steps.ensures
