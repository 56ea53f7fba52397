use Rattle.std.proofs.Common.{rules, ◌≡◌, ◌<◌, ℕ, length, get_or, sym, ap, ◌∙◌, arith}
use Rattle.std.specs.Prelude.{nat_lt}
use Rattle.std.proofs.lemmas.Bool.{ltb-true, ltb-false}
use Rattle.std.proofs.lemmas.List.{get_or_default}
use Rattle.std.proofs.lemmas.List.Sorted.{IsPartitionPoint-from_clause}
use Rattle.ch_model.specs.NodeState.{Arrived}
use Rattle.ch_node.proofs.Numbered.{parted, stands, stands_not}
use Rattle.ch_node.proofs.incoming.risen_place.Goals as goal

pub returns-then-place-rows-clause-place : goal.returns-then-place-rows-clause-place
returns-then-place-rows-clause-place c =
    let point = IsPartitionPoint-from_clause (λ arrived. nat_lt arrived.conn c.args.conn) _ _ c.partition_point-place.ensures.partitioned (parted c.args.conn 0 c.args.bound _ c.requires) (λ a r q k. search rules) in
    stands_not c.args.bound c.args.conn c.args.rows.now c.partition_point-place.result c.requires (λ k e h. ltb-true _ _ (point.0 k e (omega arith) h)) (λ e h. absurd (omega (arith, h, c.if-place-rows.true)))

pub returns-then-arrived-conn-clause-place : goal.returns-then-arrived-conn-clause-place
returns-then-arrived-conn-clause-place c =
    let point = IsPartitionPoint-from_clause (λ arrived. nat_lt arrived.conn c.args.conn) _ _ c.partition_point-place.ensures.partitioned (parted c.args.conn 0 c.args.bound _ c.requires) (λ a r q k. search rules) in
    stands c.args.conn c.args.rows.now c.partition_point-place.result c.index-rows-place.result (λ k e h. ltb-true _ _ (point.0 k e (omega arith) h)) c.if-place-rows.false (ap (λ (a : Arrived). a.conn) (sym c.index-rows-place.is ∙ sym c.arrived.view_is) ∙ c.if-arrived-conn.true)

pub returns-else-arrived-conn-clause-place : goal.returns-else-arrived-conn-clause-place
returns-else-arrived-conn-clause-place c =
    let rows = c.args.rows.now in
    let place : ℕ = c.partition_point-place.result in
    let point = IsPartitionPoint-from_clause (λ arrived. nat_lt arrived.conn c.args.conn) _ _ c.partition_point-place.ensures.partitioned (parted c.args.conn 0 c.args.bound _ c.requires) (λ a r q k. search rules) in
    let far : (e : Arrived) → place < length rows → c.args.conn < (get_or rows place e).conn = λ e h.
    let same : get_or rows place e ≡ c.index-rows-place.result = get_or_default rows place e c.index-rows-place.result h ∙ sym c.index-rows-place.is in
    let number : (get_or rows place e).conn ≡ c.arrived.inside.conn = ap (λ (a : Arrived). a.conn) (same ∙ sym c.arrived.view_is) in
    omega (arith, number, ltb-false _ _ (point.1 place e (omega arith) h), c.if-arrived-conn.false) in
    stands_not c.args.bound c.args.conn rows place c.requires (λ k e h. ltb-true _ _ (point.0 k e (omega arith) h)) far
