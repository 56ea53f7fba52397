use Rattle.std.proofs.Common.{sym}
use Rattle.ch_model.specs.Node.{node_command}
use Rattle.ch_cell.proofs.Seated.{told, told_nowhere}
use Rattle.ch_cell.proofs.seat.Seats.command.Goals as goal

pub returns-in-None : goal.returns-in-None
returns-in-None c = told_nowhere (λ node. node_command node c.args.by c.args.command c.args.room) c.args.end c.args.self.now (sym c.in-None.ensures.place)

pub returns-in-Some : goal.returns-in-Some
returns-in-Some c = told (λ acts. acts.items) (λ node. node_command node c.args.by c.args.command c.args.room) c.args.end c.self.inside.seats.items c.args.self.now c.in-Some.place _ c.index_mut.result.now c.behind-self.inside.end c.behind-self.inside.node c.command.new.self c.command.result c.self.view_is (sym c.in-Some.ensures.place) c.index_mut.ensures.value c.behind-self.view_is c.command.ensures.does c.command.ensures.err
