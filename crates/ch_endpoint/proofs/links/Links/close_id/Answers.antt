use Rattle.std.proofs.Common.{refl}
use Rattle.ch_endpoint.specs.Arrivals.{closing_id}
use Rattle.ch_endpoint.proofs.Tables.{changed, changed_apart}
use Rattle.ch_endpoint.proofs.CarrierTables.{carriers_changed}
use Rattle.ch_endpoint.proofs.KeyTables.{keys_changed}
use Rattle.ch_endpoint.proofs.links.Links.close_id.Goals as goal

pub returns : goal.returns
returns c = changed (closing_id c.args.id) (λ l. (refl, refl)) c.args.end c.args.peer.now _ _ _ _ c.in_ok-place.ensures c.self.view_is _ _ c.index_mut.ensures.value c.close_id.ensures

pub invariant_of-self : goal.invariant_of-self
invariant_of-self c = (changed_apart (closing_id c.args.id) (λ l. (refl, refl)) c.args.end c.args.peer.now _ _ _ _ c.in_ok-place.ensures c.self.view_is _ _ c.index_mut.ensures.value c.close_id.ensures, keys_changed _ _ (closing_id c.args.id) (λ l. (refl, refl)) _ _ _ _ _ c.index_mut.ensures.value c.close_id.ensures c.self.invariant.1, carriers_changed (closing_id c.args.id) (λ e n l h. h) _ _ _ _ _ c.index_mut.ensures.value c.close_id.ensures c.self.invariant.2)
