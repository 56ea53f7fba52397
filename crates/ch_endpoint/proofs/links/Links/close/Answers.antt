use Rattle.std.proofs.Common.{refl}
use Rattle.ch_endpoint.specs.Waits.{closing}
use Rattle.ch_endpoint.proofs.Tables.{changed, changed_apart}
use Rattle.ch_endpoint.proofs.CarrierTables.{carriers_changed, closed_carries}
use Rattle.ch_endpoint.proofs.KeyTables.{keys_changed}
use Rattle.ch_endpoint.proofs.links.Links.close.Goals as goal

pub returns : goal.returns
returns c = changed (closing c.args.conn) (λ l. (refl, refl)) c.args.end c.args.peer.now _ _ _ _ c.in_ok-place.ensures c.self.view_is _ _ c.index_mut.ensures.value c.close.ensures

pub invariant_of-self : goal.invariant_of-self
invariant_of-self c = (changed_apart (closing c.args.conn) (λ l. (refl, refl)) c.args.end c.args.peer.now _ _ _ _ c.in_ok-place.ensures c.self.view_is _ _ c.index_mut.ensures.value c.close.ensures, keys_changed _ _ (closing c.args.conn) (λ l. (refl, refl)) _ _ _ _ _ c.index_mut.ensures.value c.close.ensures c.self.invariant.1, carriers_changed (closing c.args.conn) (closed_carries c.args.conn) _ _ _ _ _ c.index_mut.ensures.value c.close.ensures c.self.invariant.2)
