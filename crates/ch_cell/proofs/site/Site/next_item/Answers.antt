use Rattle.ch_cell.proofs.Kept.{next_sound, next_of}
use Rattle.ch_cell.proofs.site.Site.next_item.Goals as goal

pub invariant_of-self : goal.invariant_of-self
invariant_of-self c = next_sound (λ steps. steps.items) c.self.inside.host c.next.new.self c.next.result c.self.invariant c.next.ensures.does c.next.ensures.err c.next.ensures.spent

pub returns : goal.returns
returns c = next_of (λ steps. steps.items) c.self.inside.seats c.args.self.now c.self.inside.host c.next.new.self c.next.result c.self.view_is c.self.invariant c.next.ensures.does c.next.ensures.spent
