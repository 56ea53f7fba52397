use Rattle.std.proofs.Common.{refl, [], ap, ◌∙◌}
use Rattle.ch_model.specs.HostState.{Link}
use Rattle.ch_endpoint.proofs.Tables.{changed, changed_apart, stands}
use Rattle.ch_endpoint.proofs.CarrierTables.{carriers_changed}
use Rattle.ch_endpoint.proofs.KeyTables.{keys_changed}
use Rattle.ch_endpoint.proofs.links.Links.take_waits.Goals as goal

pub returns-clause-ok : goal.returns-clause-ok
returns-clause-ok c = changed (λ (l : Link). record l { waits = [] }) (λ l. (refl, refl)) c.args.end c.args.peer.now _ _ _ _ c.in_ok-place.ensures c.self.view_is _ _ c.index_mut.ensures.value c.take_waits-items.ensures.left

pub returns-clause-taken : goal.returns-clause-taken
returns-clause-taken c = c.take_waits-items.ensures.taken ∙ ap (λ (l : Link). l.waits) (stands c.args.end c.args.peer.now _ _ _ _ c.in_ok-place.ensures c.self.view_is _ c.index_mut.ensures.value)

pub invariant_of-self : goal.invariant_of-self
invariant_of-self c = (changed_apart (λ (l : Link). record l { waits = [] }) (λ l. (refl, refl)) c.args.end c.args.peer.now _ _ _ _ c.in_ok-place.ensures c.self.view_is _ _ c.index_mut.ensures.value c.take_waits-items.ensures.left, keys_changed _ _ (λ (l : Link). record l { waits = [] }) (λ l. (refl, refl)) _ _ _ _ _ c.index_mut.ensures.value c.take_waits-items.ensures.left c.self.invariant.1, carriers_changed (λ (l : Link). record l { waits = [] }) (λ e n l h. h) _ _ _ _ _ c.index_mut.ensures.value c.take_waits-items.ensures.left c.self.invariant.2)
