use Rattle.std.proofs.Common.{Ok, find, ap, ◌∙◌}
use Rattle.ch_model.specs.HostState.{HostState}
use Rattle.ch_model.specs.HostSteps.{is_socket}
use Rattle.ch_endpoint.specs.Taking.{front_at}
use Rattle.ch_endpoint.proofs.ItemsRead.{told_both}
use Rattle.ch_endpoint.proofs.NextItem.{taken_found, handles_is, with_taken}
use Rattle.ch_endpoint.proofs.state.State.handles.Goals as goal

pub returns-in-Ok : goal.returns-in-Ok
returns-in-Ok c = λ socket found.
    let between = with_taken c.args.sock _ _ c.take.new.self c.self.view_is c.in-Ok.ensures.left in
    let front = c.in-Ok.ensures.front ∙ ap (λ (h : HostState). (front_at (find (is_socket c.args.sock) h.sockets)).0) c.self.view_is in
    told_both c.handles_front.result (λ steps. Ok (steps.items, c.handles_front.new.self)) _ _ (handles_is c.args.sock socket c.in-Ok.front c.args.self.now _ found between front) (c.handles_front.ensures _ (taken_found c.args.sock socket c.args.self.now _ found between))
