use Rattle.std.proofs.Common.{ap, ◌∙◌}
use Rattle.std.specs.List.{list_any}
use Rattle.ch_lines.specs.Tables.{declares_guest}
use Rattle.ch_lines.proofs.declared.Declared.has_guest.Goals as goal

pub returns : goal.returns
returns c = c.contains.ensures ∙ c.self.invariant.guests c.args.host.now ∙ ap (list_any (declares_guest c.args.host.now)) c.self.view_is
