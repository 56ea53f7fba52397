use Rattle.std.proofs.Common.{◌≤◌, ◌+◌, List, length, drop, option_map, ap, sym, subst, ◌∙◌}
use Rattle.std.specs.List.{position}
use Rattle.ch_model.specs.WorldState.{WorldSocket}
use Rattle.ch_sockets.specs.Ends.{is_under, IsEndFrom}
use Rattle.ch_sockets.proofs.EndTables.{no_place_none, found_behind}
use Rattle.ch_sockets.proofs.sockets.Sockets.place_under.Goals as goal

pub place_from-requires : goal.place_from-requires
place_from-requires c =
    let known = subst (λ o. IsEndFrom c.args.cell c.args.number o c.self.inside.rows.items) (sym c.in-Some.ensures.value) (c.self.invariant.2 c.args.cell c.args.number) in
    subst (λ (ls : List WorldSocket). c.in-Some.first.now ≤ length ls) (sym c.as_slice.ensures.value) known.0

pub returns-in-None-clause-place : goal.returns-in-None-clause-place
returns-in-None-clause-place c =
    let known = subst (λ o. IsEndFrom c.args.cell c.args.number o c.self.inside.rows.items) (sym c.in-None.ensures.value) (c.self.invariant.2 c.args.cell c.args.number) in
    sym (no_place_none (is_under c.args.cell c.args.number) c.self.inside.rows.items known) ∙ ap (position (is_under c.args.cell c.args.number)) c.self.view_is

pub returns-in-Some-clause-place : goal.returns-in-Some-clause-place
returns-in-Some-clause-place c =
    let known = subst (λ o. IsEndFrom c.args.cell c.args.number o c.self.inside.rows.items) (sym c.in-Some.ensures.value) (c.self.invariant.2 c.args.cell c.args.number) in
    c.place_from.ensures
    ∙ ap (λ (ls : List WorldSocket). option_map (λ more. c.in-Some.first.now + more) (position (is_under c.args.cell c.args.number) (drop c.in-Some.first.now ls))) c.as_slice.ensures.value
    ∙ found_behind (is_under c.args.cell c.args.number) c.in-Some.first.now c.self.inside.rows.items known.0 known.1
    ∙ ap (position (is_under c.args.cell c.args.number)) c.self.view_is
