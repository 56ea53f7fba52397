use Rattle.std.proofs.Common.{ap, sym, ◌∙◌}
use Rattle.ch_endpoint.specs.Arrivals.{next_number}
use Rattle.ch_endpoint.proofs.Endpoints.{arrived_none, arrived_some}
use Rattle.ch_endpoint.proofs.state.State.next_arrival.Goals as goal

pub returns-in-None : goal.returns-in-None
returns-in-None c = ap next_number (sym (arrived_none c.args.end c.args.self.now (sym c.end_place.ensures.place ∙ c.in-None.is)))

pub returns-in-Some : goal.returns-in-Some
returns-in-Some c = c.next_arrival.ensures ∙ ap next_number (sym (arrived_some c.args.end _ _ c.in-Some.place c.index.result.now c.self.view_is (sym c.end_place.ensures.place ∙ c.in-Some.is) c.index.ensures))
