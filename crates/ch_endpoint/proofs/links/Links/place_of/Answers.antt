use Rattle.std.proofs.Common.{◌≤◌, ◌+◌, List, length, drop, option_map, ap, sym, subst, ◌∙◌}
use Rattle.std.specs.List.{position}
use Rattle.ch_model.specs.HostState.{Link}
use Rattle.ch_model.specs.HostCalls.{carries}
use Rattle.ch_endpoint.specs.Carriers.{IsCarrierFrom}
use Rattle.ch_endpoint.proofs.CarrierTables.{no_place_none, found_behind}
use Rattle.ch_endpoint.proofs.links.Links.place_of.Goals as goal

pub place_from-requires : goal.place_from-requires
place_from-requires c =
    let known = subst (λ o. IsCarrierFrom c.args.end c.args.conn o c.self.inside.rows.items) (sym c.in-Some.ensures.value) (c.self.invariant.2 c.args.end c.args.conn) in
    subst (λ (ls : List Link). c.in-Some.first.now ≤ length ls) (sym c.as_slice.ensures.value) known.0

pub returns-in-None-clause-place : goal.returns-in-None-clause-place
returns-in-None-clause-place c =
    let known = subst (λ o. IsCarrierFrom c.args.end c.args.conn o c.self.inside.rows.items) (sym c.in-None.ensures.value) (c.self.invariant.2 c.args.end c.args.conn) in
    sym (no_place_none (carries c.args.end c.args.conn) c.self.inside.rows.items known) ∙ ap (position (carries c.args.end c.args.conn)) c.self.view_is

pub returns-in-Some-clause-place : goal.returns-in-Some-clause-place
returns-in-Some-clause-place c =
    let known = subst (λ o. IsCarrierFrom c.args.end c.args.conn o c.self.inside.rows.items) (sym c.in-Some.ensures.value) (c.self.invariant.2 c.args.end c.args.conn) in
    c.place_from.ensures
    ∙ ap (λ (ls : List Link). option_map (λ more. c.in-Some.first.now + more) (position (carries c.args.end c.args.conn) (drop c.in-Some.first.now ls))) c.as_slice.ensures.value
    ∙ found_behind (carries c.args.end c.args.conn) c.in-Some.first.now c.self.inside.rows.items known.0 known.1
    ∙ ap (position (carries c.args.end c.args.conn)) c.self.view_is
