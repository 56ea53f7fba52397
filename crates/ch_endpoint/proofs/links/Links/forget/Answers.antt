use Rattle.std.proofs.Common.{refl}
use Rattle.ch_endpoint.specs.Waits.{forgetting}
use Rattle.ch_endpoint.proofs.Tables.{changed, changed_apart}
use Rattle.ch_endpoint.proofs.CarrierTables.{carriers_changed, forgotten_carries}
use Rattle.ch_endpoint.proofs.KeyTables.{keys_changed}
use Rattle.ch_endpoint.proofs.links.Links.forget.Goals as goal

pub returns : goal.returns
returns c = changed forgetting (λ l. (refl, refl)) c.args.end c.args.peer.now _ _ _ _ c.in_ok-place.ensures c.self.view_is _ _ c.index_mut.ensures.value c.forget.ensures

pub invariant_of-self : goal.invariant_of-self
invariant_of-self c = (changed_apart forgetting (λ l. (refl, refl)) c.args.end c.args.peer.now _ _ _ _ c.in_ok-place.ensures c.self.view_is _ _ c.index_mut.ensures.value c.forget.ensures, keys_changed _ _ forgetting (λ l. (refl, refl)) _ _ _ _ _ c.index_mut.ensures.value c.forget.ensures c.self.invariant.1, carriers_changed forgetting forgotten_carries _ _ _ _ _ c.index_mut.ensures.value c.forget.ensures c.self.invariant.2)
