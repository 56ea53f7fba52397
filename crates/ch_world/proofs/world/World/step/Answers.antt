use Rattle.std.proofs.Common.{List, ◌∷◌, [], ◌++◌, ap, ◌∙◌}
use Rattle.ch_model.specs.declared.line.Line.{Line}
use Rattle.ch_world.proofs.Histories.{stays_so, log_is}
use Rattle.ch_world.proofs.world.World.step.Goals as goal

pub invariant_of-self-2 : goal.invariant_of-self-2
invariant_of-self-2 c = λ h. stays_so c.self.inside.journal.items c.push_reserved.new.self.items c.args.line c.self.inside.log.items c.append.new.self.items c.in_ok-entries.entries.items c.self.inside.realm c.step.new.self c.requires (c.self.invariant c.if-self.false) c.in_ok-entries.ensures (c.push_reserved.ensures.items ∙ ap (λ (js : List Line). js ++ c.args.line ∷ []) c.reserve.ensures.items) c.in_ok-append.ensures.items

pub returns-clause-law : goal.returns-clause-law
returns-clause-law c = log_is c.push_reserved.new.self.items c.append.new.self.items c.step.new.self (stays_so c.self.inside.journal.items c.push_reserved.new.self.items c.args.line c.self.inside.log.items c.append.new.self.items c.in_ok-entries.entries.items c.self.inside.realm c.step.new.self c.requires (c.self.invariant c.if-self.false) c.in_ok-entries.ensures (c.push_reserved.ensures.items ∙ ap (λ (js : List Line). js ++ c.args.line ∷ []) c.reserve.ensures.items) c.in_ok-append.ensures.items)
