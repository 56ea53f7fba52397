use Rattle.std.proofs.Common.{ap, ◌*◌, ◌∙◌}
use Rattle.ch_model.specs.HostSteps.{store_socket}
use Rattle.ch_model.specs.HostLinks.{dialed}
use Rattle.ch_endpoint.proofs.Sends.{wants_dial}
use Rattle.ch_endpoint.proofs.state.State.dial.Goals as goal

pub returns : goal.returns
returns c =
    let sockets = c.in_ok-keep.ensures ∙ ap (λ k. store_socket k c.self.inside.sockets) (c.dialed-socket.ensures ∙ ap (dialed (2 * c.self.inside.dials) c.args.end) c.in_ok-copy.ensures) in
    rw c.in_ok-copy-2.ensures (wants_dial c.args.end c.args.peer.now _ _ _ _ c.self.view_is c.requires.idle c.requires.room c.in_ok-set_state.ensures sockets)
