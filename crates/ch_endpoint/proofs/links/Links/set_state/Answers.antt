use Rattle.std.proofs.Common.{refl}
use Rattle.ch_model.specs.HostState.{Link}
use Rattle.ch_endpoint.proofs.Tables.{changed, changed_apart}
use Rattle.ch_endpoint.proofs.CarrierTables.{carriers_changed}
use Rattle.ch_endpoint.proofs.KeyTables.{keys_changed}
use Rattle.ch_endpoint.proofs.links.Links.set_state.Goals as goal

pub returns : goal.returns
returns c = changed (λ (l : Link). record l { state = c.args.state }) (λ l. (refl, refl)) c.args.end c.args.peer.now _ _ _ _ c.in_ok-place.ensures c.self.view_is _ _ c.index_mut.ensures.value c.set_state.ensures

pub invariant_of-self : goal.invariant_of-self
invariant_of-self c = (changed_apart (λ (l : Link). record l { state = c.args.state }) (λ l. (refl, refl)) c.args.end c.args.peer.now _ _ _ _ c.in_ok-place.ensures c.self.view_is _ _ c.index_mut.ensures.value c.set_state.ensures, keys_changed _ _ (λ (l : Link). record l { state = c.args.state }) (λ l. (refl, refl)) _ _ _ _ _ c.index_mut.ensures.value c.set_state.ensures c.self.invariant.1, carriers_changed (λ (l : Link). record l { state = c.args.state }) (λ e n l h. h) _ _ _ _ _ c.index_mut.ensures.value c.set_state.ensures c.self.invariant.2)
