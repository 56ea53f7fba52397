use Rattle.std.proofs.Common.{ap, ◌∙◌}
use Rattle.std.specs.List.{list_any}
use Rattle.ch_model.specs.LinesTold.{declares_away}
use Rattle.ch_lines.proofs.declared.Declared.has_away.Goals as goal

pub returns : goal.returns
returns c = c.contains.ensures ∙ c.self.invariant.aways c.args.name.now ∙ ap (list_any (declares_away c.args.name.now)) c.self.view_is
