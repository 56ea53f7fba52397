use Rattle.std.proofs.Common.{sym, ◌∙◌}
use Rattle.ch_endpoint.proofs.Shutting.{end_closed, end_absent}
use Rattle.ch_endpoint.proofs.state.State.closes_end.Goals as goal

pub returns-in-None : goal.returns-in-None
returns-in-None c = end_absent c.args.end c.args.self.now (sym c.end_place.ensures.place ∙ c.in-None.is)

pub returns-in-Some : goal.returns-in-Some
returns-in-Some c = end_closed c.args.end _ _ c.in-Some.place c.index_mut.result.now c.close.new.self c.self.view_is (sym c.end_place.ensures.place ∙ c.in-Some.is) c.index_mut.ensures.value c.close.ensures
