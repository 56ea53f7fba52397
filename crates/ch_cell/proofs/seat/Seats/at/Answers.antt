use Rattle.std.proofs.Common.{sym, ap, ◌∙◌}
use Rattle.ch_cell.specs.Seats.{seated}
use Rattle.ch_cell.proofs.Seated.{node_there, nowhere}
use Rattle.ch_cell.proofs.seat.Seats.at.Goals as goal

pub returns-in-None : goal.returns-in-None
returns-in-None c = sym (ap seated (nowhere c.args.end c.args.self.now (sym c.in-None.ensures.place)))

pub returns-in-Some : goal.returns-in-Some
returns-in-Some c = node_there c.args.end c.self.inside.seats.items c.args.self.now c.in-Some.place _ (c.behind-self.inside.end, c.behind-self.inside.node.state) c.self.view_is (sym c.in-Some.ensures.place) (c.behind-self.view_is ∙ c.index.ensures)
