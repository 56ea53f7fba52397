use Rattle.std.proofs.Common.{◌≡◌, length, refl, ap, sym, subst, ◌∙◌, arith}
use Rattle.ch_model.specs.HostState.{Link}
use Rattle.ch_model.specs.HostCalls.{carries}
use Rattle.ch_endpoint.specs.Waits.{giving}
use Rattle.ch_endpoint.specs.Carriers.{lower, AreCarriers}
use Rattle.ch_endpoint.proofs.Tables.{changed, changed_apart, stands, key_with}
use Rattle.ch_endpoint.proofs.CarrierTables.{carriers_given, given_fewer}
use Rattle.ch_endpoint.proofs.KeyTables.{keys_changed}
use Rattle.ch_endpoint.proofs.links.Links.give.Goals as goal

pub returns-clause-ok : goal.returns-clause-ok
returns-clause-ok c = changed (giving c.args.conn) (λ l. (refl, refl)) c.args.end c.args.peer.now _ _ _ _ c.in_ok-place.ensures c.self.view_is _ _ c.index_mut.ensures.value c.in_ok-id.ensures.ok

pub invariant_of-self : goal.invariant_of-self
invariant_of-self c = (c.self.invariant.0, c.self.invariant.1, subst (λ es. AreCarriers es c.self.inside.rows.items) (sym c.in_err-insert.ensures.err) c.self.invariant.2)

pub invariant_of-self-2 : goal.invariant_of-self-2
invariant_of-self-2 c =
    let own : c.index_mut.result.now.end ≡ c.args.end = ap (λ (l : Link). l.end) (stands c.args.end c.args.peer.now c.args.self.now _ c.self.inside.rows.items c.in_ok-place.place c.in_ok-place.ensures c.self.view_is c.index_mut.result.now c.index_mut.ensures.value) ∙ (key_with c.args.end c.args.peer.now c.args.self.now).0 in (
      changed_apart (giving c.args.conn) (λ l. (refl, refl)) c.args.end c.args.peer.now _ _ _ _ c.in_ok-place.ensures c.self.view_is _ _ c.index_mut.ensures.value c.in_ok-id.ensures.ok,
      keys_changed _ _ (giving c.args.conn) (λ l. (refl, refl)) _ _ _ _ _ c.index_mut.ensures.value c.in_ok-id.ensures.ok c.self.invariant.1,
      carriers_given c.args.end c.args.conn c.self.inside.carriers.entries c.insert.new.self.entries c.self.inside.rows.items c.in_ok-place.place c.lower-first.result c.index_mut.result.now c.give.new.self (omega (arith, c.in_ok-place.ensures.within, ap length c.self.view_is)) c.index_mut.ensures.value own (given_fewer c.args.conn c.args.end c.index_mut.result.now c.give.new.self c.in_ok-id.ensures.ok) (ap (λ (l : Link). l.end) c.in_ok-id.ensures.ok) (c.lower-first.ensures ∙ ap (λ o. lower o c.in_ok-place.place) (c.copied.ensures ∙ c.get.ensures.value)) c.in_ok-insert.ensures.updates.0 c.self.invariant.2,
    )

pub invariant_of-self-in_err-id : goal.invariant_of-self-in_err-id
invariant_of-self-in_err-id c =
    let own : c.index_mut.result.now.end ≡ c.args.end = ap (λ (l : Link). l.end) (stands c.args.end c.args.peer.now c.args.self.now _ c.self.inside.rows.items c.in_ok-place.place c.in_ok-place.ensures c.self.view_is c.index_mut.result.now c.index_mut.ensures.value) ∙ (key_with c.args.end c.args.peer.now c.args.self.now).0 in (
      changed_apart (λ l. l) (λ l. (refl, refl)) c.args.end c.args.peer.now _ _ _ _ c.in_ok-place.ensures c.self.view_is _ _ c.index_mut.ensures.value c.in_err-id.ensures.err,
      keys_changed _ _ (λ l. l) (λ l. (refl, refl)) _ _ _ _ _ c.index_mut.ensures.value c.in_err-id.ensures.err c.self.invariant.1,
      carriers_given c.args.end c.args.conn c.self.inside.carriers.entries c.insert.new.self.entries c.self.inside.rows.items c.in_ok-place.place c.lower-first.result c.index_mut.result.now c.give.new.self (omega (arith, c.in_ok-place.ensures.within, ap length c.self.view_is)) c.index_mut.ensures.value own (λ other apart h. ap (carries c.args.end other) (sym c.in_err-id.ensures.err) ∙ h) (ap (λ (l : Link). l.end) c.in_err-id.ensures.err) (c.lower-first.ensures ∙ ap (λ o. lower o c.in_ok-place.place) (c.copied.ensures ∙ c.get.ensures.value)) c.in_ok-insert.ensures.updates.0 c.self.invariant.2,
    )
