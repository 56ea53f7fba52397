use Rattle.std.proofs.Common.{arith, ap, ◌∙◌}
use Rattle.ch_reader.specs.Reading.{reading}
use Rattle.ch_model.specs.Host.{is_ready_front}
use Rattle.ch_endpoint.specs.Unread.{Unread}
use Rattle.ch_endpoint.proofs.Longer.{knows_behind}
use Rattle.ch_endpoint.proofs.unread.Unread.feed_behind.Goals as goal

pub invariant_of-self-2 : goal.invariant_of-self-2
invariant_of-self-2 c = knows_behind c.self.inside.expected c.self.inside.bytes.items _ c.args.piece.now c.self.inside.read c.self.inside.reader c.self.inside.front c.self.inside.count (λ i. omega (arith, c.type_inv.piece i)) (ap (λ (u : Unread). is_ready_front (reading u.expected u.since).0) c.self.view_is ∙ c.requires) c.in_ok-extend_from_slice.ensures.items c.self.invariant
