use Rattle.std.proofs.Common.{refl, ap, sym, ◌∙◌}
use Rattle.std.specs.Map.{values_of}
use Rattle.ch_model.specs.HostState.{Socket}
use Rattle.ch_model.specs.HostSteps.{store_socket}
use Rattle.ch_model.specs.Host.{is_ready}
use Rattle.ch_endpoint.specs.Ends.{opened_one, opened_among}
use Rattle.ch_endpoint.proofs.SocketTables.{written, absent, told_noted, told_note, told_same_set}
use Rattle.ch_endpoint.proofs.sockets.Sockets.open.Goals as goal

pub invariant_of-self-in_err-insert-in-Some : goal.invariant_of-self-in_err-insert-in-Some
invariant_of-self-in_err-insert-in-Some c = (written c.args.number c.self.inside.table.entries _ c.self.inside.ready c.insert.new.self c.in-Some.socket.now c.in-Some.socket.now c.self.invariant c.in-Some.ensures.value refl (c.get_mut.follows.holds c.in-Some.socket.now).0 (told_same_set c.args.number c.self.inside.table.entries c.self.inside.ready c.insert.new.self c.in-Some.socket.now c.in-Some.socket.now c.self.invariant c.in-Some.ensures.value refl c.in_err-insert-in-Some.ensures.err)).keeps

pub invariant_of-self-in-Some : goal.invariant_of-self-in-Some
invariant_of-self-in-Some c = (written c.args.number c.self.inside.table.entries _ c.self.inside.ready c.note.new.ready c.in-Some.socket.now c.open.new.self c.self.invariant c.in-Some.ensures.value (ap (λ (s : Socket). s.number) c.open.ensures) (c.get_mut.follows.holds c.open.new.self).0 (told_note c.self.inside.ready c.note.new.ready c.args.number c.is_ready.result (is_ready c.open.new.self) c.is_ready.ensures (told_noted c.self.inside.ready c.insert.new.self c.note.new.ready c.args.number c.is_ready.result c.in_ok-insert-in-Some.ensures.updates.0 c.note.ensures))).keeps

pub returns-in-None : goal.returns-in-None
returns-in-None c =
    ap (λ t. values_of t.entries) c.get_mut.follows.holds-at-none
    ∙ sym (ap (λ o. opened_one o (values_of c.self.inside.table.entries)) (absent c.args.number c.self.inside.table.entries c.self.invariant.under c.in-None.ensures.value))
    ∙ ap (opened_among c.args.number) c.self.view_is

pub returns-in_ok-insert-in-Some : goal.returns-in_ok-insert-in-Some
returns-in_ok-insert-in-Some c =
    let at = written c.args.number c.self.inside.table.entries _ c.self.inside.ready c.note.new.ready c.in-Some.socket.now c.open.new.self c.self.invariant c.in-Some.ensures.value (ap (λ (s : Socket). s.number) c.open.ensures) (c.get_mut.follows.holds c.open.new.self).0 (told_note c.self.inside.ready c.note.new.ready c.args.number c.is_ready.result (is_ready c.open.new.self) c.is_ready.ensures (told_noted c.self.inside.ready c.insert.new.self c.note.new.ready c.args.number c.is_ready.result c.in_ok-insert-in-Some.ensures.updates.0 c.note.ensures)) in
    at.stored
    ∙ ap (λ s. store_socket s (values_of c.self.inside.table.entries)) c.open.ensures
    ∙ sym (ap (λ o. opened_one o (values_of c.self.inside.table.entries)) at.found)
    ∙ ap (opened_among c.args.number) c.self.view_is
