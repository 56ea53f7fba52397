use Rattle.std.proofs.Common.{ap, sym, ◌∙◌}
use Rattle.std.specs.Map.{values_of}
use Rattle.ch_model.specs.HostState.{Socket}
use Rattle.ch_model.specs.HostSteps.{store_socket}
use Rattle.ch_model.specs.Host.{is_ready}
use Rattle.ch_endpoint.specs.Ends.{ended_one, ended_among}
use Rattle.ch_endpoint.proofs.SocketTables.{written, absent, told_idle}
use Rattle.ch_endpoint.proofs.sockets.Sockets.end.Goals as goal

pub invariant_of-self-in-Some : goal.invariant_of-self-in-Some
invariant_of-self-in-Some c = (written c.args.number c.self.inside.table.entries _ c.self.inside.ready c.remove.new.self c.in-Some.socket.now c.end.new.self c.self.invariant c.in-Some.ensures.value (ap (λ (s : Socket). s.number) c.end.ensures) (c.get_mut.follows.holds c.end.new.self).0 (told_idle c.self.inside.ready c.remove.new.self c.args.number (is_ready c.end.new.self) (ap is_ready c.end.ensures) c.remove.ensures.updates.0)).keeps

pub returns-in-None : goal.returns-in-None
returns-in-None c =
    ap (λ t. values_of t.entries) c.get_mut.follows.holds-at-none
    ∙ sym (ap (λ o. ended_one o (values_of c.self.inside.table.entries)) (absent c.args.number c.self.inside.table.entries c.self.invariant.under c.in-None.ensures.value))
    ∙ ap (ended_among c.args.number) c.self.view_is

pub returns-in-Some : goal.returns-in-Some
returns-in-Some c =
    let at = written c.args.number c.self.inside.table.entries _ c.self.inside.ready c.remove.new.self c.in-Some.socket.now c.end.new.self c.self.invariant c.in-Some.ensures.value (ap (λ (s : Socket). s.number) c.end.ensures) (c.get_mut.follows.holds c.end.new.self).0 (told_idle c.self.inside.ready c.remove.new.self c.args.number (is_ready c.end.new.self) (ap is_ready c.end.ensures) c.remove.ensures.updates.0) in
    at.stored
    ∙ ap (λ s. store_socket s (values_of c.self.inside.table.entries)) c.end.ensures
    ∙ sym (ap (λ o. ended_one o (values_of c.self.inside.table.entries)) at.found)
    ∙ ap (ended_among c.args.number) c.self.view_is
