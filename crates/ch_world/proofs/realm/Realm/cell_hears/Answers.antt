use Rattle.std.proofs.Common.{◌≡◌, ap, ◌∙◌, sym, Ok}
use Rattle.std.proofs.lemmas.Result.{err_from_is_err_and}
use Rattle.ch_world.proofs.Told.{heard_here, stops_here, nothing_here}
use Rattle.ch_world.proofs.realm.Realm.cell_hears.Goals as goal

pub returns-then-place-count : goal.returns-then-place-count
returns-then-place-count c = let e = nothing_here c.args.place c.count.result c.args.event c.args.self.now c.count.ensures c.if-place-count.true in e ∙ ap (λ a. Ok (a, c.args.self.now)) (sym c.nothing.ensures)

pub returns-in_err-made : goal.returns-in_err-made
returns-in_err-made c =
    let p = err_from_is_err_and c.from_residual.result c.from_residual.ensures.1 in
    rw (p.1, p.2) (stops_here c.args.place c.count.result c.args.event c.self.inside.names c.self.inside.strangers.items c.self.inside.cells.items c.self.inside.sockets c.self.inside.last c.args.self.now c.index_mut.result.now _ c.behind-self.inside.site c.behind-self.inside.accepted c.in_err-made.field-0.0 c.self.view_is c.count.ensures c.if-place-count.false c.index_mut.ensures.value c.behind-self.view_is c.in_err-made.ensures)

pub returns : goal.returns
returns c = heard_here c.args.place c.count.result c.args.event c.self.inside.names c.self.inside.strangers.items c.self.inside.cells.items c.self.inside.sockets c.self.inside.last c.args.self.now c.told.new.self c.index_mut.result.now _ c.behind-self.inside.site c.step.new.self c.behind-self.inside.accepted c.in_ok-made.made.verdict c.in_ok-made.made.entries c.index.result.now _ c.in_ok-at.at c.in_ok-entries.entries.items c.self.view_is c.count.ensures c.if-place-count.false c.index_mut.ensures.value c.behind-self.view_is c.in_ok-made.ensures c.index.ensures c.in_ok-at.ensures c.in_ok-entries.ensures
