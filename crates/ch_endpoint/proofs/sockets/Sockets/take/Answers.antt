use Rattle.std.proofs.Common.{ap, sym, find, ◌∙◌}
use Rattle.std.specs.Map.{values_of}
use Rattle.ch_model.specs.HostSteps.{is_socket, store_socket}
use Rattle.ch_model.specs.Host.{is_ready}
use Rattle.ch_endpoint.specs.Taking.{front_at, taken_one, taken_among}
use Rattle.ch_endpoint.proofs.SocketTables.{written, absent, told_note, number_found, on_ok, if_same}
use Rattle.ch_endpoint.proofs.sockets.Sockets.take.Goals as goal

pub invariant_of-self-in-Some : goal.invariant_of-self-in-Some
invariant_of-self-in-Some c = (written c.args.number c.self.inside.table.entries _ c.self.inside.ready c.note.new.ready c.in-Some.socket.now c.take-front.new.self c.self.invariant c.in-Some.ensures.value c.take-front.ensures.number (c.get_mut.follows.holds c.take-front.new.self).0 (told_note c.self.inside.ready c.note.new.ready c.args.number c.is_ready.result (is_ready c.take-front.new.self) c.is_ready.ensures c.note.ensures)).keeps

pub returns-in-None-clause-front : goal.returns-in-None-clause-front
returns-in-None-clause-front c = sym (ap (λ o. (front_at o).0) (ap (find (is_socket c.args.number)) (sym c.self.view_is) ∙ absent c.args.number c.self.inside.table.entries c.self.invariant.under c.in-None.ensures.value))

pub returns-in-None-clause-left : goal.returns-in-None-clause-left
returns-in-None-clause-left c =
    ap (λ t. values_of t.entries) c.get_mut.follows.holds-at-none
    ∙ sym (ap (λ o. taken_one o (values_of c.self.inside.table.entries)) (absent c.args.number c.self.inside.table.entries c.self.invariant.under c.in-None.ensures.value))
    ∙ ap (taken_among c.args.number) c.self.view_is

pub returns-in-Some-clause-front : goal.returns-in-Some-clause-front
returns-in-Some-clause-front c =
    let at = number_found c.args.number c.self.inside.table.entries c.in-Some.socket.now c.self.invariant.under c.in-Some.ensures.value in
    if_same c.take-front.result _ _ (sym (ap (λ o. (front_at o).0) (ap (find (is_socket c.args.number)) (sym c.self.view_is) ∙ at.0))) c.take-front.ensures.front

pub returns-in-Some-clause-left : goal.returns-in-Some-clause-left
returns-in-Some-clause-left c =
    let at = written c.args.number c.self.inside.table.entries _ c.self.inside.ready c.note.new.ready c.in-Some.socket.now c.take-front.new.self c.self.invariant c.in-Some.ensures.value c.take-front.ensures.number (c.get_mut.follows.holds c.take-front.new.self).0 (told_note c.self.inside.ready c.note.new.ready c.args.number c.is_ready.result (is_ready c.take-front.new.self) c.is_ready.ensures c.note.ensures) in
    on_ok c.take-front.result _ _ (λ left.
    at.stored
    ∙ ap (λ s. store_socket s (values_of c.self.inside.table.entries)) left
    ∙ sym (ap (λ o. taken_one o (values_of c.self.inside.table.entries)) at.found)
    ∙ ap (taken_among c.args.number) c.self.view_is) c.take-front.ensures.left
