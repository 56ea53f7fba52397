use Rattle.std.proofs.Common.{◌≡◌, ◌+◌, ◌≤◌, length, drop, arith, ap, sym, subst, ◌∙◌}
use Rattle.ch_reader.specs.Reading.{reading}
use Rattle.ch_reader.specs.declared.item.Front.TheVariants.{Unfinished}
use Rattle.ch_endpoint.specs.Unread.{Unread}
use Rattle.ch_endpoint.specs.Readers.{HasRead, KnowsFront}
use Rattle.ch_endpoint.proofs.Longer.{knows_none, knows_more, has_unfinished, more_within}
use Rattle.ch_endpoint.proofs.unread.Unread.feed_reader.Goals as goal

pub overflow_add-self : goal.overflow_add-self
overflow_add-self c =
    let i = c.self.inside in
    let unfinished : (reading i.expected (drop i.read i.bytes.items)).0 ≡ Unfinished = ap (λ (u : Unread). (reading u.expected u.since).0) c.self.view_is ∙ c.requires in
    let within : i.count + c.in-Ok.count ≤ length c.extend_from_slice.new.self.items = more_within i.expected i.bytes.items c.extend_from_slice.new.self.items c.args.piece.now i.read i.reader i.front i.count c.in-Ok.count unfinished c.in_ok-extend_from_slice.ensures.items c.self.invariant c.in-Ok.ensures.within in
    omega (arith, within, c.extend_from_slice.new.self.small)

pub invariant_of-self-in-Ok : goal.invariant_of-self-in-Ok
invariant_of-self-in-Ok c =
    let i = c.self.inside in
    let unfinished : (reading i.expected (drop i.read i.bytes.items)).0 ≡ Unfinished = ap (λ (u : Unread). (reading u.expected u.since).0) c.self.view_is ∙ c.requires in
    let has = has_unfinished i.expected (drop i.read i.bytes.items) i.front i.reader c.self.invariant.front_is unfinished c.self.invariant.reader_is in
    knows_more i.expected i.bytes.items _ c.args.piece.now i.read i.reader c.in-Ok.reader i.front c.in-Ok.front i.count c.in-Ok.count (λ i. omega (arith, c.type_inv.piece i)) unfinished c.in_ok-extend_from_slice.ensures.items c.self.invariant
    (c.in-Ok.ensures.on (drop i.read i.bytes.items) (subst (HasRead i.expected (drop i.read i.bytes.items) Unfinished) (sym c.replace-held.ensures.value) has))

pub invariant_of-self-in-Err : goal.invariant_of-self-in-Err
invariant_of-self-in-Err c = subst (λ r. KnowsFront c.self.inside.expected c.clear.new.self.items 0 r Unfinished 0) (sym c.replace-held.ensures.after) (knows_none c.self.inside.expected _ c.clear.ensures.items)
