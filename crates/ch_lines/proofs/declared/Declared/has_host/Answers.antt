use Rattle.std.proofs.Common.{ap, ◌∙◌}
use Rattle.std.specs.List.{list_any}
use Rattle.ch_model.specs.LinesTold.{takes_host}
use Rattle.ch_lines.proofs.declared.Declared.has_host.Goals as goal

pub returns : goal.returns
returns c = c.contains.ensures ∙ c.self.invariant.hosts c.args.host.now ∙ ap (list_any (takes_host c.args.host.now)) c.self.view_is
