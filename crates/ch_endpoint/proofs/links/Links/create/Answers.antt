use Rattle.std.proofs.Common.{refl}
use Rattle.ch_endpoint.specs.Arrivals.{creating}
use Rattle.ch_endpoint.proofs.Tables.{changed, changed_apart}
use Rattle.ch_endpoint.proofs.CarrierTables.{carriers_changed}
use Rattle.ch_endpoint.proofs.KeyTables.{keys_changed}
use Rattle.ch_endpoint.proofs.links.Links.create.Goals as goal

pub returns : goal.returns
returns c = changed (creating c.args.conn) (λ l. (refl, refl)) c.args.end c.args.peer.now _ _ _ _ c.in_ok-place.ensures c.self.view_is _ _ c.index_mut.ensures.value c.in_ok-create.ensures.ok

pub invariant_of-self : goal.invariant_of-self
invariant_of-self c = (changed_apart (λ l. l) (λ l. (refl, refl)) c.args.end c.args.peer.now _ _ _ _ c.in_ok-place.ensures c.self.view_is _ _ c.index_mut.ensures.value c.in_err-create.ensures.err, keys_changed _ _ (λ l. l) (λ l. (refl, refl)) _ _ _ _ _ c.index_mut.ensures.value c.in_err-create.ensures.err c.self.invariant.1, carriers_changed (λ l. l) (λ e n l h. h) _ _ _ _ _ c.index_mut.ensures.value c.in_err-create.ensures.err c.self.invariant.2)

pub invariant_of-self-2 : goal.invariant_of-self-2
invariant_of-self-2 c = (changed_apart (creating c.args.conn) (λ l. (refl, refl)) c.args.end c.args.peer.now _ _ _ _ c.in_ok-place.ensures c.self.view_is _ _ c.index_mut.ensures.value c.in_ok-create.ensures.ok, keys_changed _ _ (creating c.args.conn) (λ l. (refl, refl)) _ _ _ _ _ c.index_mut.ensures.value c.in_ok-create.ensures.ok c.self.invariant.1, carriers_changed (creating c.args.conn) (λ e n l h. h) _ _ _ _ _ c.index_mut.ensures.value c.in_ok-create.ensures.ok c.self.invariant.2)
