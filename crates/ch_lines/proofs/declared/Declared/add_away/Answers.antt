use Rattle.std.proofs.Common.{◌≡◌, ap, sym, ◌∙◌}
use Rattle.ch_base.specs.AddressValues.{AddressValue}
use Rattle.ch_lines.proofs.Tables.{with_away}
use Rattle.ch_lines.proofs.declared.Declared.add_away.Goals as goal

pub invariant_of-self-2 : goal.invariant_of-self-2
invariant_of-self-2 c =
    let name = c.into_vec-key.ensures ∙ c.in_ok-copy.ensures ∙ sym c.in_ok-name.ensures in
    let host = c.into_vec-host.ensures ∙ c.in_ok-copy-2.ensures ∙ ap (λ (a : AddressValue). a.host) (c.address.view_is ∙ sym c.in_ok-address.ensures) in
    let at = c.in_ok-place.ensures ∙ sym c.in_ok-address.ensures in
    with_away c.self.invariant c.args.unique c.reserve.ensures.keys c.put_key.ensures name c.reserve-2.ensures.keys c.put_key-2.ensures host c.reserve-3.ensures.keys c.put_key-3.ensures at c.in_ok-push.ensures.items
