use Rattle.std.proofs.Common.{ap, ◌∙◌}
use Rattle.std.specs.List.{list_any}
use Rattle.ch_base.specs.AddressValues.{AddressValue}
use Rattle.ch_lines.specs.Tables.{declares_address}
use Rattle.ch_lines.proofs.Tables.{looked_up}
use Rattle.ch_lines.proofs.declared.Declared.has_address.Goals as goal

pub returns : goal.returns
returns c =
    c.contains.ensures
    ∙ looked_up (λ k. record { host = k.0.items; port = k.1.0; id = k.1.1 }) c.in_ok-key.key _
    ∙ c.self.invariant.addresses _
    ∙ ap (λ (a : AddressValue). list_any (declares_address a) c.self.inside.declarations.items) c.in_ok-key.ensures
    ∙ ap (list_any (declares_address c.args.address.now)) c.self.view_is
