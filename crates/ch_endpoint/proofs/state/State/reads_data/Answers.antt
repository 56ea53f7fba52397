use Rattle.std.proofs.Common.{Ok, sym, ◌∙◌}
use Rattle.ch_model.specs.HostSteps.{link_with}
use Rattle.ch_endpoint.proofs.ItemsRead.{told_or_stops}
use Rattle.ch_endpoint.proofs.FramesRead.{data_bad, data_good}
use Rattle.ch_endpoint.proofs.state.State.reads_data.Goals as goal

pub returns-in-None : goal.returns-in-None
returns-in-None c = λ socket found. told_or_stops c.fails_at.result (λ steps. Ok (steps.items, c.fails_at.new.self)) _ _ (data_bad socket (link_with c.args.self.now c.args.end c.args.peer.now) c.args.id c.args.payload c.args.self.now (sym c.conn_of.ensures ∙ c.in-None.is)) (c.fails_at.ensures socket found)

pub returns-in-Some : goal.returns-in-Some
returns-in-Some c = λ socket found. told_or_stops c.receives.result (λ steps. Ok (steps.items, c.args.self.now)) _ _ (data_good socket c.args.end c.args.peer.now c.args.id c.in-Some.conn c.args.payload c.args.self.now (sym c.conn_of.ensures ∙ c.in-Some.is)) c.receives.ensures
