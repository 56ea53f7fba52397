use Rattle.std.proofs.Common.{◌≡◌, List, None, length, arith, ap, sym, subst, ◌∙◌}
use Rattle.std.specs.List.{position}
use Rattle.ch_base.specs.declared.address.Address.{Address}
use Rattle.ch_model.specs.HostState.{Link}
use Rattle.ch_model.specs.HostSteps.{is_link, new_link}
use Rattle.ch_endpoint.specs.Places.{Apart}
use Rattle.ch_endpoint.specs.Carriers.{AreCarriers}
use Rattle.ch_endpoint.specs.LinkKeys.{AreKeys}
use Rattle.ch_endpoint.proofs.Tables.{added_to, added_apart}
use Rattle.ch_endpoint.proofs.CarrierTables.{carriers_added}
use Rattle.ch_endpoint.proofs.KeyTables.{Key, keys_put, add_keys, taken_back}
use Rattle.ch_endpoint.proofs.links.Links.add.Goals as goal

pub invariant_of-self-in_err-push : goal.invariant_of-self-in_err-push
invariant_of-self-in_err-push c =
    let keys = keys_put (λ text. text.items) _ c.self.inside.hosts.keys c.insert_full.new.self.keys c.in_ok-text.text c.self.inside.keys.keys c.self.inside.rows.items c.in_ok-host.ensures.keys c.self.invariant.1 in
    (subst Apart (sym c.in_err-push.ensures.items) c.self.invariant.0, subst (λ (ls : List Link). AreKeys (λ text. text.items) c.insert_full.new.self.keys c.self.inside.keys.keys ls) (sym c.in_err-push.ensures.items) keys, subst (AreCarriers c.self.inside.carriers.entries) (sym c.in_err-push.ensures.items) c.self.invariant.2)

pub invariant_of-self-in-Ok : goal.invariant_of-self-in-Ok
invariant_of-self-in-Ok c =
    let peer : Address = record { host = c.peer.inside.host; port = c.peer.inside.port; id = c.peer.inside.id } in
    let own = c.new-link.ensures ∙ ap (new_link c.args.end) c.in_ok-copy.ensures in
    let none : position (is_link c.args.end peer) c.self.inside.rows.items ≡ None = (λ i. position (is_link c.args.end (c.peer.view_is i)) (c.self.view_is i)) ∙ c.requires in
    let end : c.new-link.result.end ≡ c.args.end = ap (λ (l : Link). l.end) own in
    let at : c.new-link.result.peer ≡ peer = ap (λ (l : Link). l.peer) own ∙ sym c.peer.view_is in
    let text = c.in_ok-text.ensures.items ∙ c.as_slice.ensures in (
      added_apart c.args.end c.args.peer.now c.args.self.now c.self.inside.rows.items c.push.new.self.items c.new-link.result (subst Apart c.self.view_is c.self.invariant.0) c.self.view_is c.requires own c.in_ok-push.ensures.items,
      add_keys (λ text. text.items) c.self.inside.hosts.keys c.insert_full.new.self.keys c.in_ok-text.text c.in_ok-host.host c.self.inside.keys.keys c.insert.new.self.keys c.self.inside.rows.items c.push.new.self.items c.args.end peer c.new-link.result text c.in_ok-host.ensures.keys c.in_ok-host.ensures.index c.self.invariant.1 none end at c.in-Ok.ensures.keys c.in_ok-push.ensures.items,
      carriers_added c.self.inside.carriers.entries c.self.inside.rows.items c.push.new.self.items c.new-link.result c.args.end c.args.peer.now own c.in_ok-push.ensures.items c.self.invariant.2,
    )

pub invariant_of-self-in-Err : goal.invariant_of-self-in-Err
invariant_of-self-in-Err c =
    let keys = keys_put (λ text. text.items) _ c.self.inside.hosts.keys c.insert_full.new.self.keys c.in_ok-text.text c.self.inside.keys.keys c.self.inside.rows.items c.in_ok-host.ensures.keys c.self.invariant.1 in
    let place : c.len-place.result ≡ length c.self.inside.rows.items = grind (arith, c.len-place.ensures, c.self.inside.rows.ok) in
    let back = taken_back c.self.inside.rows.items c.push.new.self.items c.truncate.new.self.items c.new-link.result c.len-place.result place c.in_ok-push.ensures.items c.truncate.ensures.items in (
      subst Apart (sym back) c.self.invariant.0,
      subst (λ (ls : List Link). AreKeys (λ text. text.items) c.insert_full.new.self.keys c.insert.new.self.keys ls) (sym back) (subst (λ (ks : List Key). AreKeys (λ text. text.items) c.insert_full.new.self.keys ks c.self.inside.rows.items) (sym c.in-Err.ensures.err) keys),
      subst (AreCarriers c.self.inside.carriers.entries) (sym back) c.self.invariant.2,
    )

pub returns-in-Ok : goal.returns-in-Ok
returns-in-Ok c = added_to c.args.end c.args.peer.now c.args.self.now c.self.inside.rows.items c.push.new.self.items c.len-place.result c.new-link.result (subst Apart c.self.view_is c.self.invariant.0) c.self.view_is c.requires (c.new-link.ensures ∙ ap (new_link c.args.end) c.in_ok-copy.ensures) c.in_ok-push.ensures.items (grind (arith, c.len-place.ensures, c.self.inside.rows.ok))
