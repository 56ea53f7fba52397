use Rattle.ch_cell.proofs.Opened.{open_sound}
use Rattle.ch_cell.proofs.site.Site.open.Goals as goal

pub invariant_of-self-2 : goal.invariant_of-self-2
invariant_of-self-2 c = open_sound _ c.self.inside.host c.open.new.self c.open.result c.self.invariant c.open.ensures.does c.open.ensures.err c.open.ensures.spent
