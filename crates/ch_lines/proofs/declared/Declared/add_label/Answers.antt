use Rattle.std.proofs.Common.{◌≡◌, ap, sym, ◌∙◌}
use Rattle.ch_lines.proofs.Tables.{with_label}
use Rattle.ch_lines.proofs.declared.Declared.add_label.Goals as goal

pub invariant_of-self-2 : goal.invariant_of-self-2
invariant_of-self-2 c =
    let node = c.in_ok-key.ensures.node ∙ c.as_slice.ensures ∙ sym c.in_ok-node.ensures in
    let label = c.in_ok-key.ensures.label ∙ c.as_slice-2.ensures ∙ c.label.view_is ∙ sym c.in_ok-label.ensures in
    with_label c.self.invariant c.reserve.ensures.keys c.put_key.ensures node label c.in_ok-push.ensures.items
