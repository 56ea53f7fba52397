use Rattle.std.proofs.Common.{sym}
use Rattle.ch_model.specs.Node.{node_shut}
use Rattle.ch_cell.proofs.Seated.{told, told_nowhere}
use Rattle.ch_cell.proofs.seat.Seats.shut.Goals as goal

pub returns-in-None : goal.returns-in-None
returns-in-None c = told_nowhere node_shut c.args.end c.args.self.now (sym c.in-None.ensures.place)

pub returns-in-Some : goal.returns-in-Some
returns-in-Some c = told (λ acts. acts.items) node_shut c.args.end c.self.inside.seats.items c.args.self.now c.in-Some.place _ c.index_mut.result.now c.behind-self.inside.end c.behind-self.inside.node c.shut.new.self c.shut.result c.self.view_is (sym c.in-Some.ensures.place) c.index_mut.ensures.value c.behind-self.view_is c.shut.ensures.does c.shut.ensures.err
