use Rattle.std.proofs.Common.{sym, ◌∙◌}
use Rattle.ch_wire.specs.declared.frame.Frame.TheVariants as frames
use Rattle.ch_model.specs.declared.step.Weight.TheVariants.{Free}
use Rattle.ch_model.specs.HostSteps.{link_with}
use Rattle.ch_endpoint.specs.Waits.{closing}
use Rattle.ch_endpoint.proofs.Tables.{key_with}
use Rattle.ch_endpoint.proofs.Sends.{puts_kept}
use Rattle.ch_endpoint.proofs.Heard.{with_links}
use Rattle.ch_endpoint.proofs.state.State.closes.Goals as goal

pub returns : goal.returns
returns c =
    let key = key_with c.args.end c.args.peer.now c.args.self.now.links in
    sym (puts_kept (frames.Closed c.args.id, Free) c.args.end c.args.peer.now (closing c.args.conn (link_with c.args.self.now c.args.end c.args.peer.now)) c.args.self.now _ key.0 key.1 (with_links (closing c.args.conn) c.args.end c.args.peer.now _ _ _ c.self.view_is c.in_ok-close.ensures)) ∙ c.in_ok-steps.ensures.does
