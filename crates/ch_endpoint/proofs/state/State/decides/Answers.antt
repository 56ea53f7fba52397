use Rattle.std.proofs.Common.{Ok, sym, ◌∙◌}
use Rattle.ch_endpoint.proofs.ItemsRead.{told_if, request_refused}
use Rattle.ch_endpoint.proofs.state.State.decides.Goals as goal

pub returns-in-Some : goal.returns-in-Some
returns-in-Some c = λ socket found. told_if c.answers_and_leaves.result (λ steps. Ok (steps.items, c.answers_and_leaves.new.self)) _ _ (request_refused c.args.sock c.args.target c.args.peer.now c.in-Some.answer socket c.args.self.now found (sym (c.refusal.ensures socket found) ∙ c.in-Some.is)) c.answers_and_leaves.ensures
