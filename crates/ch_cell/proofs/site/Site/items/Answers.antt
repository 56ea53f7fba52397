use Rattle.ch_cell.proofs.Follows.{fewer_left}
use Rattle.ch_cell.proofs.site.Site.items.Goals as goal

pub items-smaller : goal.items-smaller
items-smaller c = fewer_left (λ steps. steps.items) c.items.self c.next_item.new.self c.steps.new.self c.in_ok-told-in-Some.told.items c.in_ok-next_item.field-0 c.in-Some.steps c.in-Some.is c.in_ok-next_item.ensures c.in_ok-told-in-Some.ensures
