use Rattle.std.proofs.Common.{rules, ◌≡◌, true, false}
use Rattle.std.specs.List.{list_any}
use Rattle.ch_model.specs.HostSteps.{is_open_endpoint}
use Rattle.ch_endpoint.proofs.Shutting.{close_closed, close_all}
use Rattle.ch_endpoint.proofs.state.State.close_endpoint.Goals as goal

pub returns-then-not-is_open-clause-does : goal.returns-then-not-is_open-clause-does
returns-then-not-is_open-clause-does c =
    let closed : list_any (is_open_endpoint c.args.end) c.args.self.now.ends ≡ false = search rules in
    close_closed c.args.self.now c.args.end closed

pub returns-in-Ok-clause-does : goal.returns-in-Ok-clause-does
returns-in-Ok-clause-does c =
    let stands : list_any (is_open_endpoint c.args.end) c.args.self.now.ends ≡ true = search rules in
    close_all c.args.self.now c.args.end _ stands c.in-Ok.ensures
