use Rattle.std.proofs.Common.{refl, sym, ◌∙◌}
use Rattle.ch_model.specs.WorldSockets.{opened}
use Rattle.ch_sockets.proofs.Named.{changed, unchanged}
use Rattle.ch_sockets.proofs.Kept.{changed_tables}
use Rattle.ch_sockets.proofs.sockets.Sockets.join.Goals as goal

pub invariant_of-self : goal.invariant_of-self
invariant_of-self c = changed_tables opened (λ e. (refl, refl)) c.args.end c.self.inside.names _ c.self.inside.rows.items c.in-Some.place _ c.open.new.self c.index_mut.ensures.value c.open.ensures c.self.invariant

pub returns-in-None : goal.returns-in-None
returns-in-None c = unchanged c.args.end opened c.args.name.now c.args.self.now _ refl (sym c.place.ensures.place ∙ c.in-None.is)

pub returns-in-Some : goal.returns-in-Some
returns-in-Some c = changed c.args.end opened c.args.name.now c.args.self.now _ c.in-Some.place c.self.view_is (sym c.place.ensures.place ∙ c.in-Some.is) _ c.open.new.self c.index_mut.ensures.value c.open.ensures
