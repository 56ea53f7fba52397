use Rattle.std.proofs.Common.{sym, ◌∙◌}
use Rattle.ch_endpoint.proofs.Tables.{there}
use Rattle.ch_endpoint.proofs.links.Links.made.Goals as goal

pub returns-in-Some : goal.returns-in-Some
returns-in-Some c = there c.args.end c.args.peer.now c.args.self.now c.in-Some.place c.place.ensures.apart (sym c.place.ensures.place ∙ c.in-Some.is) c.in-Some.ensures.within
