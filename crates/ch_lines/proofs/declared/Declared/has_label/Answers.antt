use Rattle.std.proofs.Common.{ℕ, List, ap, ◌∙◌}
use Rattle.std.specs.List.{list_any}
use Rattle.ch_model.specs.LinesTold.{declares_label}
use Rattle.ch_lines.proofs.declared.Declared.has_label.Goals as goal

pub returns : goal.returns
returns c =
    c.contains.ensures
    ∙ c.self.invariant.labels (c.in_ok-key.key.0.items, c.in_ok-key.key.1.items)
    ∙ ap (λ (l : List ℕ). list_any (declares_label l c.in_ok-key.key.1.items) c.self.inside.declarations.items) c.in_ok-key.ensures.node
    ∙ ap (λ (l : List ℕ). list_any (declares_label c.args.node.now l) c.self.inside.declarations.items) c.in_ok-key.ensures.label
    ∙ ap (list_any (declares_label c.args.node.now c.args.label.now)) c.self.view_is
