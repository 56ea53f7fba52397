use Rattle.std.proofs.Common.{◌∙◌}
use Rattle.ch_world.proofs.Histories.{begun}
use Rattle.ch_world.proofs.world.World.new.Goals as goal

pub invariant_of-result : goal.invariant_of-result
invariant_of-result c = λ h. begun c.lines.inside.lines.items c.args.declared.now c.new-2.result.items c.in_ok-realm.realm (c.lines.view_is ∙ c.in_ok-lines.ensures) c.new-2.ensures.items c.in_ok-realm.ensures c.requires
