use Rattle.std.proofs.Common.{ap, ◌∙◌}
use Rattle.std.specs.Prelude.{position, nat_le}
use Rattle.ch_node.proofs.Sorted.{added, inserted}
use Rattle.ch_node.proofs.pairs.place_in.Goals as goal

pub returns-in_ok-push-in-None : goal.returns-in_ok-push-in-None
returns-in_ok-push-in-None c = c.in_ok-push-in-None.ensures.items ∙ added c.args.number c.args.sorted.now.items (c.in-None.ensures.place ∙ ap (position (λ m. nat_le c.args.number m)) c.as_slice.ensures.value)

pub returns-in_ok-insert-in-Some : goal.returns-in_ok-insert-in-Some
returns-in_ok-insert-in-Some c = c.in_ok-insert-in-Some.ensures.items ∙ inserted c.args.number c.args.sorted.now.items c.in-Some.place (c.in-Some.ensures.place ∙ ap (position (λ m. nat_le c.args.number m)) c.as_slice.ensures.value)
