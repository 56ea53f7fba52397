use Rattle.ch_cell.proofs.Replayed.{refused_answers, refused_tells}
use Rattle.ch_cell.proofs.cell.answered.Goals as goal

pub returns-then-failed-clause-does : goal.returns-then-failed-clause-does
returns-then-failed-clause-does c = refused_answers c.args.site.now c.args.site.now c.args.event c.refused.result c.refused.ensures

pub returns-then-failed-clause-told : goal.returns-then-failed-clause-told
returns-then-failed-clause-told c = refused_tells c.args.history.now c.args.event c.refused.result c.refused.ensures
