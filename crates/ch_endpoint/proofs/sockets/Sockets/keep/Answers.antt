use Rattle.std.proofs.Common.{ap, sym, ◌∙◌}
use Rattle.ch_model.specs.HostState.{Socket}
use Rattle.ch_model.specs.HostSteps.{store_socket}
use Rattle.ch_endpoint.proofs.SocketTables.{inserted}
use Rattle.ch_endpoint.proofs.sockets.Sockets.keep.Goals as goal

pub invariant_of-self-2 : goal.invariant_of-self-2
invariant_of-self-2 c = (inserted c.socket.inside.number _ _ c.self.inside.ready c.remove.new.self c.args.socket c.self.invariant (ap (λ (s : Socket). s.number) (sym c.socket.view_is)) c.requires c.in_ok-insert.ensures.entries c.remove.ensures.updates.0).1

pub returns : goal.returns
returns c = (inserted c.socket.inside.number _ _ c.self.inside.ready c.remove.new.self c.args.socket c.self.invariant (ap (λ (s : Socket). s.number) (sym c.socket.view_is)) c.requires c.in_ok-insert.ensures.entries c.remove.ensures.updates.0).0 ∙ ap (store_socket c.args.socket) c.self.view_is
