use Rattle.std.proofs.Common.{ap, ◌∙◌}
use Rattle.std.specs.List.{list_any}
use Rattle.ch_base.specs.AddressValues.{AddressValue}
use Rattle.ch_lines.specs.Tables.{declares_guest}
use Rattle.ch_lines.proofs.Either.{any_takes, by_first, by_second}
use Rattle.ch_lines.proofs.declared.Declared.takes_address.Goals as goal

pub returns-then-own : goal.returns-then-own
returns-then-own c = by_first _ c.if-own.true c.in_ok-own.ensures (any_takes c.args.address.now c.args.self.now)

pub returns-else-own : goal.returns-else-own
returns-else-own c =
    let host = c.as_slice.ensures ∙ ap (λ (a : AddressValue). a.host) c.address.view_is in
    let guest = c.has_guest.ensures ∙ ap (λ h. list_any (declares_guest h) c.args.self.now) host in
    by_second _ c.if-own.false c.in_ok-own.ensures guest (any_takes c.args.address.now c.args.self.now)
