use Rattle.std.proofs.Common.{Ok, ap, ◌∙◌}
use Rattle.ch_reader.specs.declared.item.Front.{Front}
use Rattle.ch_model.specs.HostItems.{reads}
use Rattle.ch_endpoint.specs.Taking.{handled}
use Rattle.ch_endpoint.proofs.ItemsRead.{told_or_stops, told_both}
use Rattle.ch_endpoint.proofs.NextItem.{whole_handled}
use Rattle.ch_endpoint.proofs.state.State.handles_front.Goals as goal

pub returns-in-Refused : goal.returns-in-Refused
returns-in-Refused c = λ socket found. told_or_stops c.fails_at.result (λ steps. Ok (steps.items, c.fails_at.new.self)) _ _ (ap (λ (f : Front). handled f socket c.args.self.now) c.in-Refused.is) (c.fails_at.ensures socket found)

pub returns-in-Whole : goal.returns-in-Whole
returns-in-Whole c = λ socket found. told_both c.takes.result (λ steps. Ok (steps.items, c.takes.new.self)) _ _ (ap (λ (f : Front). handled f socket c.args.self.now) c.in-Whole.is ∙ whole_handled c.args.sock socket c.args.self.now found (reads socket c.in-Whole.item c.args.self.now)) (c.takes.ensures socket found)
