use Rattle.std.proofs.Common.{sym, ◌∙◌}
use Rattle.ch_sockets.proofs.Named.{no_end, end_there, if_same}
use Rattle.ch_sockets.proofs.sockets.Sockets.end_under.Goals as goal

pub returns-in-None : goal.returns-in-None
returns-in-None c = sym (no_end c.args.cell c.args.number c.args.self.now (sym c.place_under.ensures.place ∙ c.in-None.is))

pub returns-in-Some : goal.returns-in-Some
returns-in-Some c = if_same c.named_end.result _ _ (sym (end_there c.args.cell c.args.number c.args.self.now c.self.inside.rows.items c.in-Some.place c.index.result.now c.self.view_is (sym c.place_under.ensures.place ∙ c.in-Some.is) c.index.ensures)) c.named_end.ensures
