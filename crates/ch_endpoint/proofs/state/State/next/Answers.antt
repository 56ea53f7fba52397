use Rattle.std.proofs.Common.{◌≡◌, Ok, Some, find, true, ap, sym, subst, ◌∙◌}
use Rattle.ch_model.specs.HostState.{HostState}
use Rattle.ch_model.specs.HostSteps.{is_socket}
use Rattle.ch_model.specs.Host.{first_ready, front_of, handles, some_steps}
use Rattle.ch_endpoint.specs.Calls.{Stops}
use Rattle.ch_endpoint.specs.ReadySets.{ready_in}
use Rattle.ch_endpoint.proofs.NextItem.{next_none, next_some, some_stops}
use Rattle.ch_endpoint.proofs.state.State.next.Goals as goal

pub returns-in-None : goal.returns-in-None
returns-in-None c = next_none c.args.self.now (ap (λ (h : HostState). first_ready h.sockets) (sym c.self.view_is) ∙ c.in-None.ensures.first)

pub returns-in-Ok : goal.returns-in-Ok
returns-in-Ok c =
    let first = subst (λ (h : HostState). first_ready h.sockets ≡ find (is_socket c.in-Some.sock) h.sockets) c.self.view_is c.in-Some.ensures.first in
    let ready = subst (λ (h : HostState). ready_in (find (is_socket c.in-Some.sock) h.sockets) ≡ true) c.self.view_is c.in-Some.ensures.ready in
    next_some c.in-Some.sock c.args.self.now (λ r. r ≡ Ok (Some c.in-Ok.steps.items, c.handles.new.self)) first ready (λ socket found. ap some_steps (c.in-Ok.ensures socket found))

pub returns-in-Err : goal.returns-in-Err
returns-in-Err c =
    let first = subst (λ (h : HostState). first_ready h.sockets ≡ find (is_socket c.in-Some.sock) h.sockets) c.self.view_is c.in-Some.ensures.first in
    let ready = subst (λ (h : HostState). ready_in (find (is_socket c.in-Some.sock) h.sockets) ≡ true) c.self.view_is c.in-Some.ensures.ready in
    next_some c.in-Some.sock c.args.self.now (Stops c.in-Err.e) first ready (λ socket found. some_stops (handles socket (front_of socket) c.args.self.now) c.in-Err.e (c.in-Err.ensures socket found))
