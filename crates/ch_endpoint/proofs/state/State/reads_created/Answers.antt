use Rattle.std.proofs.Common.{rules, ◌≡◌, true, false, Ok, sym, ◌∙◌}
use Rattle.ch_model.specs.HostSteps.{link_with}
use Rattle.ch_endpoint.specs.Arrivals.{may_create}
use Rattle.ch_endpoint.proofs.ItemsRead.{told_or_stops}
use Rattle.ch_endpoint.proofs.FramesRead.{created_bad, created_worn, created_good}
use Rattle.ch_endpoint.proofs.state.State.reads_created.Goals as goal

pub returns-then-not-may_create : goal.returns-then-not-may_create
returns-then-not-may_create c = λ socket found.
    let may : may_create c.args.id (link_with c.args.self.now c.args.end c.args.peer.now).created ≡ false = search rules in
    told_or_stops c.fails_at.result (λ steps. Ok (steps.items, c.fails_at.new.self)) _ _ (created_bad socket (link_with c.args.self.now c.args.end c.args.peer.now) c.args.id c.args.self.now may) (c.fails_at.ensures socket found)

pub returns-in-None : goal.returns-in-None
returns-in-None c = λ socket found.
    let may : may_create c.args.id (link_with c.args.self.now c.args.end c.args.peer.now).created ≡ true = search rules in
    created_worn socket c.args.end c.args.peer.now c.args.id c.args.self.now may (sym c.next_arrival.ensures ∙ c.in-None.is)

pub returns-in-Ok : goal.returns-in-Ok
returns-in-Ok c = λ socket found.
    let may : may_create c.args.id (link_with c.args.self.now c.args.end c.args.peer.now).created ≡ true = search rules in
    created_good socket c.args.end c.args.peer.now c.args.id c.in-Some.conn c.args.self.now may (sym c.next_arrival.ensures ∙ c.in-Some.is) ∙ c.in-Ok.ensures
