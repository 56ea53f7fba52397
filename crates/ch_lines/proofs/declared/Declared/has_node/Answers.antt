use Rattle.std.proofs.Common.{ap, ◌∙◌}
use Rattle.std.specs.List.{list_any}
use Rattle.ch_model.specs.LinesTold.{declares_node}
use Rattle.ch_lines.proofs.declared.Declared.has_node.Goals as goal

pub returns : goal.returns
returns c = c.contains.ensures ∙ c.self.invariant.nodes c.args.name.now ∙ ap (list_any (declares_node c.args.name.now)) c.self.view_is
