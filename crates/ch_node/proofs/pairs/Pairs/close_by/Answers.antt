use Rattle.std.proofs.Common.{rules, ◌≡◌, List, map, length, sym, subst}
use Rattle.std.specs.Vec.{with_items}
use Rattle.std.proofs.lemmas.List.{with_items_is}
use Rattle.ch_model.specs.NodeState.{Pair}
use Rattle.ch_model.specs.NodePairs.{closed_by}
use Rattle.ch_node.specs.Keys.{Keyed}
use Rattle.ch_node.proofs.Keyed.{keyed_closed}
use Rattle.ch_node.proofs.pairs.Pairs.close_by.Goals as goal

pub invariant_of-self : goal.invariant_of-self
invariant_of-self c =
    let now : List Pair = c.close_all.new.pairs in
    let closed : now ≡ map (closed_by c.args.by) c.self.inside.rows.items = search rules in
    let long : length now ≡ c.self.inside.rows.len = search rules in
    let rows : (with_items c.self.inside.rows now).items ≡ now = with_items_is c.self.inside.rows now long in
    subst (Keyed c.self.inside.keys.keys) (sym rows) (keyed_closed c.args.by _ _ now c.self.invariant closed)
