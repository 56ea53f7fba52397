use Rattle.std.proofs.Common.{◌<◌, subst, sym, ◌∙◌}
use Rattle.ch_model.specs.HostItems.{most_arrived}
use Rattle.ch_endpoint.proofs.Endpoints.{arrived_some, arrival_absent, end_counted}
use Rattle.ch_endpoint.proofs.state.State.counts_arrival.Goals as goal

pub arrive-requires : goal.arrive-requires
arrive-requires c = subst (λ n. n < most_arrived) (arrived_some c.args.end _ _ c.in-Some.place c.index_mut.result.now c.self.view_is (sym c.end_place.ensures.place ∙ c.in-Some.is) c.index_mut.ensures.value) c.requires

pub returns-in-None : goal.returns-in-None
returns-in-None c = arrival_absent c.args.end c.args.self.now (sym c.end_place.ensures.place ∙ c.in-None.is)

pub returns-in-Some : goal.returns-in-Some
returns-in-Some c = end_counted c.args.end _ _ c.in-Some.place c.index_mut.result.now c.arrive.new.self c.self.view_is (sym c.end_place.ensures.place ∙ c.in-Some.is) c.index_mut.ensures.value c.arrive.ensures
