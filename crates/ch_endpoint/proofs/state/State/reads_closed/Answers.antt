use Rattle.std.proofs.Common.{Ok, sym, ◌∙◌}
use Rattle.ch_model.specs.HostSteps.{link_with}
use Rattle.ch_endpoint.proofs.ItemsRead.{told_or_stops}
use Rattle.ch_endpoint.proofs.FramesRead.{closed_bad, closed_good}
use Rattle.ch_endpoint.proofs.state.State.reads_closed.Goals as goal

pub returns-in-None : goal.returns-in-None
returns-in-None c = λ socket found. told_or_stops c.fails_at.result (λ steps. Ok (steps.items, c.fails_at.new.self)) _ _ (closed_bad socket (link_with c.args.self.now c.args.end c.args.peer.now) c.args.id c.args.self.now (sym c.conn_of.ensures ∙ c.in-None.is)) (c.fails_at.ensures socket found)

pub returns-in-Ok : goal.returns-in-Ok
returns-in-Ok c = λ socket found. closed_good socket (link_with c.args.self.now c.args.end c.args.peer.now) c.args.id c.in-Some.conn c.args.self.now (sym c.conn_of.ensures ∙ c.in-Some.is) ∙ c.in-Ok.ensures
