use Rattle.ch_endpoint.proofs.Longer.{knows_none}
use Rattle.ch_endpoint.proofs.unread.Unread.clear.Goals as goal

pub invariant_of-self : goal.invariant_of-self
invariant_of-self c = knows_none c.self.inside.expected c.new.result.items c.new.ensures.items
