use Rattle.ch_cell.proofs.Replayed.{stepped, does_whole, told_whole, opening_whole, err_whole, spent_whole}
use Rattle.ch_cell.proofs.cell.Cell.step.Goals as goal

pub invariant_of-self : goal.invariant_of-self
invariant_of-self c = stepped c.self.inside.opening.value c.self.inside.site c.answered.new.site c.self.inside.history c.answered.new.history c.self.inside.failed c.answered.new.failed c.args.event c.answered.result c.self.invariant c.answered.ensures.does c.answered.ensures.told c.answered.ensures.flag c.answered.ensures.spent

pub returns-clause-does : goal.returns-clause-does
returns-clause-does c = does_whole _ c.args.self.now c.args.event c.answered.new.site c.answered.result c.self.view_is c.answered.ensures.does

pub returns-clause-told : goal.returns-clause-told
returns-clause-told c = told_whole _ c.args.self.now c.args.event c.answered.new.history c.answered.result c.self.view_is c.answered.ensures.told

pub returns-clause-opening : goal.returns-clause-opening
returns-clause-opening c = opening_whole _ c.args.self.now c.self.view_is

pub returns-clause-err : goal.returns-clause-err
returns-clause-err c = err_whole c.answered.new.failed c.answered.result c.answered.ensures.flag

pub returns-clause-spent : goal.returns-clause-spent
returns-clause-spent c = spent_whole _ c.args.self.now c.answered.result c.self.view_is c.answered.ensures.spent
