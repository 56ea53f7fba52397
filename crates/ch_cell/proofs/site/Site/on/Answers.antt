use Rattle.ch_cell.proofs.Kept.{on_sound}
use Rattle.ch_cell.proofs.site.Site.on.Goals as goal

pub invariant_of-self-2 : goal.invariant_of-self-2
invariant_of-self-2 c = on_sound (λ steps. steps.items) c.args.event c.self.inside.host c.on.new.self c.on.result c.self.invariant c.on.ensures.does c.on.ensures.err c.on.ensures.spent
