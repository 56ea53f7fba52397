use Rattle.std.proofs.Common.{rules, ◌≡◌, List, length, sym, subst}
use Rattle.std.specs.Vec.{with_items}
use Rattle.std.proofs.lemmas.List.{with_items_is}
use Rattle.ch_model.specs.NodeState.{Pair}
use Rattle.ch_node.specs.Keys.{Keyed, SameKeys}
use Rattle.ch_node.proofs.Keyed.{keyed_same}
use Rattle.ch_node.proofs.pairs.Pairs.lose.Goals as goal

pub invariant_of-self : goal.invariant_of-self
invariant_of-self c =
    let now : List Pair = c.lose_all.new.pairs in
    let before : c.deref_mut.result.now ≡ c.self.inside.rows.items = search rules in
    let same : SameKeys c.self.inside.rows.items now = subst (λ l. SameKeys l now) before c.lose_all.ensures.keys in
    let long : length now ≡ c.self.inside.rows.len = search rules in
    let rows : (with_items c.self.inside.rows now).items ≡ now = with_items_is c.self.inside.rows now long in
    subst (Keyed c.self.inside.keys.keys) (sym rows) (keyed_same _ _ now c.self.invariant same)
