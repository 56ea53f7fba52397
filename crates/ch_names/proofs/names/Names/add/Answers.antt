use Rattle.std.proofs.Common.{◌≡◌, length, arith, ◌∙◌}
use Rattle.ch_names.proofs.Tables.{with_name}
use Rattle.ch_names.proofs.names.Names.add.Goals as goal

pub invariant_of-self-2 : goal.invariant_of-self-2
invariant_of-self-2 c =
    let name = c.into_vec-key.ensures ∙ c.in_ok-copy.ensures in
    let last : c.len-place.result ≡ length c.self.inside.rows.items = grind (arith, c.len-place.ensures, c.self.inside.rows.ok) in
    with_name c.self.invariant c.into_vec-key.result c.in_ok-spot.spot _ name c.in_ok-spot.ensures last c.reserve.ensures.entries c.put_first.ensures c.reserve-2.ensures.entries c.put_first-2.ensures c.in_ok-push.ensures.items
