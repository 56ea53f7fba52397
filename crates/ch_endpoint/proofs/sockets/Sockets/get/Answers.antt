use Rattle.std.proofs.Common.{ap, find, ◌∙◌}
use Rattle.ch_model.specs.HostSteps.{is_socket}
use Rattle.ch_endpoint.proofs.SocketTables.{turned, found_by}
use Rattle.ch_endpoint.proofs.sockets.Sockets.get.Goals as goal

pub returns : goal.returns
returns c = c.get.ensures.value ∙ found_by _ c.args.number (turned c.args.number) _ c.self.invariant.under ∙ ap (find (is_socket c.args.number)) c.self.view_is
