use Rattle.std.proofs.Common.{refl}
use Rattle.ch_endpoint.specs.Waits.{waiting}
use Rattle.ch_endpoint.proofs.Tables.{changed, changed_apart}
use Rattle.ch_endpoint.proofs.CarrierTables.{carriers_changed}
use Rattle.ch_endpoint.proofs.KeyTables.{keys_changed}
use Rattle.ch_endpoint.proofs.links.Links.wait.Goals as goal

pub returns : goal.returns
returns c = changed (waiting c.args.item) (λ l. (refl, refl)) c.args.end c.args.peer.now _ _ _ _ c.in_ok-place.ensures c.self.view_is _ _ c.index_mut.ensures.value c.in_ok-wait.ensures.ok

pub invariant_of-self : goal.invariant_of-self
invariant_of-self c = (changed_apart (λ l. l) (λ l. (refl, refl)) c.args.end c.args.peer.now _ _ _ _ c.in_ok-place.ensures c.self.view_is _ _ c.index_mut.ensures.value c.in_err-wait.ensures.err, keys_changed _ _ (λ l. l) (λ l. (refl, refl)) _ _ _ _ _ c.index_mut.ensures.value c.in_err-wait.ensures.err c.self.invariant.1, carriers_changed (λ l. l) (λ e n l h. h) _ _ _ _ _ c.index_mut.ensures.value c.in_err-wait.ensures.err c.self.invariant.2)

pub invariant_of-self-2 : goal.invariant_of-self-2
invariant_of-self-2 c = (changed_apart (waiting c.args.item) (λ l. (refl, refl)) c.args.end c.args.peer.now _ _ _ _ c.in_ok-place.ensures c.self.view_is _ _ c.index_mut.ensures.value c.in_ok-wait.ensures.ok, keys_changed _ _ (waiting c.args.item) (λ l. (refl, refl)) _ _ _ _ _ c.index_mut.ensures.value c.in_ok-wait.ensures.ok c.self.invariant.1, carriers_changed (waiting c.args.item) (λ e n l h. h) _ _ _ _ _ c.index_mut.ensures.value c.in_ok-wait.ensures.ok c.self.invariant.2)
