use Rattle.std.proofs.Common.{refl, ap, sym, subst, ◌∙◌}
use Rattle.std.specs.Map.{values_of}
use Rattle.ch_model.specs.HostState.{Socket}
use Rattle.ch_model.specs.HostSteps.{store_socket}
use Rattle.ch_model.specs.Host.{is_ready}
use Rattle.ch_endpoint.specs.Taking.{used_one, used_among}
use Rattle.ch_endpoint.specs.ReadySets.{KeepsSockets}
use Rattle.ch_endpoint.proofs.SocketTables.{written, absent, told_same_set}
use Rattle.ch_endpoint.proofs.sockets.Sockets.use_for.Goals as goal
use Rattle.ch_endpoint.proofs.sockets.Sockets.use_for.Goals.{in-None, in-Some}

pub invariant_of-self : goal.invariant_of-self
invariant_of-self c = elim c.match-get_mut.branch [
  | in-None w ↦ subst (λ i. KeepsSockets i.table.entries i.ready) (sym w.self-inside-is) (subst (λ t. KeepsSockets t.entries c.self.inside.ready) (sym c.get_mut.follows.holds-at-none) c.self.invariant)
  | in-Some w ↦ subst (λ i. KeepsSockets i.table.entries i.ready) (sym w.self-inside-is) (written c.args.number c.self.inside.table.entries (c.get_mut.follows.lender w.use_for.new.self).entries c.self.inside.ready c.self.inside.ready w.in-Some.socket.now w.use_for.new.self c.self.invariant w.in-Some.ensures.value (ap (λ (s : Socket). s.number) w.use_for.ensures) (c.get_mut.follows.holds w.use_for.new.self).0 (told_same_set c.args.number c.self.inside.table.entries c.self.inside.ready c.self.inside.ready w.in-Some.socket.now w.use_for.new.self c.self.invariant w.in-Some.ensures.value (ap is_ready w.use_for.ensures) refl)).keeps
]

pub returns : goal.returns
returns c = elim c.match-get_mut.branch [
  | in-None w ↦ ap (λ i. values_of i.table.entries) w.self-inside-is ∙ ap (λ t. values_of t.entries) c.get_mut.follows.holds-at-none
      ∙ sym (ap (λ o. used_one c.args.end c.args.peer o (values_of c.self.inside.table.entries)) (absent c.args.number c.self.inside.table.entries c.self.invariant.under w.in-None.ensures.value))
      ∙ ap (used_among c.args.end c.args.peer c.args.number) c.self.view_is
  | in-Some w ↦ (
      let at = written c.args.number c.self.inside.table.entries (c.get_mut.follows.lender w.use_for.new.self).entries c.self.inside.ready c.self.inside.ready w.in-Some.socket.now w.use_for.new.self c.self.invariant w.in-Some.ensures.value (ap (λ (s : Socket). s.number) w.use_for.ensures) (c.get_mut.follows.holds w.use_for.new.self).0 (told_same_set c.args.number c.self.inside.table.entries c.self.inside.ready c.self.inside.ready w.in-Some.socket.now w.use_for.new.self c.self.invariant w.in-Some.ensures.value (ap is_ready w.use_for.ensures) refl) in
      ap (λ i. values_of i.table.entries) w.self-inside-is ∙ at.stored
      ∙ ap (λ s. store_socket s (values_of c.self.inside.table.entries)) w.use_for.ensures
      ∙ sym (ap (λ o. used_one c.args.end c.args.peer o (values_of c.self.inside.table.entries)) at.found)
      ∙ ap (used_among c.args.end c.args.peer c.args.number) c.self.view_is)
]
