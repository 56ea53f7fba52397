use Rattle.std.proofs.Common.{sym, ◌∙◌}
use Rattle.ch_names.proofs.Tables.{put_new}
use Rattle.ch_names.proofs.names.put_first.Goals as goal

pub returns : goal.returns
returns g c = put_new g.K.PartialEq.eq c.args.table.now c.args.key c.args.place _ (sym c.contains_key.ensures ∙ c.if-contains_key.false) c.in-Ok.ensures.entries
