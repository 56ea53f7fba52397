use Rattle.std.proofs.Common.{◌∙◌}
use Rattle.ch_sockets.proofs.Kept.{name_place, if_within}
use Rattle.ch_sockets.proofs.sockets.Sockets.place.Goals as goal

pub returns-clause-place : goal.returns-clause-place
returns-clause-place c = c.place.ensures.place ∙ (name_place c.args.name.now c.self.inside.names c.self.inside.rows.items c.args.self.now c.self.invariant.0 c.self.view_is).0

pub returns-clause-within : goal.returns-clause-within
returns-clause-within c = if_within c.place.result _ _ (name_place c.args.name.now c.self.inside.names c.self.inside.rows.items c.args.self.now c.self.invariant.0 c.self.view_is).1 c.place.ensures.within
