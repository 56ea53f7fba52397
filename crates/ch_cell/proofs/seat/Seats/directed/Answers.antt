use Rattle.std.proofs.Common.{Some, sym, ap, ◌∙◌}
use Rattle.ch_cell.specs.Seats.{directed_of}
use Rattle.ch_cell.proofs.Seated.{directed_there, nowhere}
use Rattle.ch_cell.proofs.seat.Seats.directed.Goals as goal

pub returns-in-None : goal.returns-in-None
returns-in-None c = sym (ap (directed_of c.args.by c.args.command.now) (nowhere c.args.end c.args.self.now (sym c.in-None.ensures.place)))

pub returns-in_ok-whither-in-Some : goal.returns-in_ok-whither-in-Some
returns-in_ok-whither-in-Some c = ap Some c.in_ok-whither-in-Some.ensures ∙ directed_there c.args.by c.args.command.now c.args.end c.self.inside.seats.items c.args.self.now c.in-Some.place _ (c.behind-self.inside.end, c.behind-self.inside.node.state) c.self.view_is (sym c.in-Some.ensures.place) (c.behind-self.view_is ∙ c.index.ensures)
