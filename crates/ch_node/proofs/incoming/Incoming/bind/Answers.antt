use Rattle.std.proofs.Common.{rules, ◌≡◌, List, map, length, ap, sym, subst, ◌∙◌}
use Rattle.std.specs.Vec.{with_items}
use Rattle.std.proofs.lemmas.List.{with_items_is}
use Rattle.ch_model.specs.NodeState.{Arrived}
use Rattle.ch_node.specs.Incoming.{Rises}
use Rattle.ch_node.proofs.Numbered.{same_numbers}
use Rattle.ch_node.proofs.incoming.Incoming.bind.Goals as goal

pub invariant_of-self : goal.invariant_of-self
invariant_of-self c =
    let now : List Arrived = c.bind_all.new.rows in
    let before : c.deref_mut.result.now ≡ c.self.inside.rows.items = search rules in
    let numbers : map (λ arrived. arrived.conn) now ≡ map (λ arrived. arrived.conn) c.self.inside.rows.items = c.bind_all.ensures.numbers ∙ ap (map (λ arrived. arrived.conn)) before in
    let long : length now ≡ c.self.inside.rows.len = search rules in
    let rows : (with_items c.self.inside.rows now).items ≡ now = with_items_is c.self.inside.rows now long in
    λ e. subst (λ l. Rises 0 l c.self.inside.bound) (sym rows) (same_numbers 0 c.self.inside.bound _ now numbers (c.self.invariant e))
