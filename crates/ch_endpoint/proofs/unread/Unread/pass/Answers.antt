use Rattle.std.proofs.Common.{◌≡◌, ◌+◌, ◌≤◌, true, List, ℕ, [], length, drop, Some, ap, sym, subst, ◌∙◌}
use Rattle.ch_reader.specs.declared.item.Expected.TheVariants.{Frame}
use Rattle.ch_reader.specs.declared.item.Front.{Front}
use Rattle.ch_reader.specs.declared.item.Front.TheVariants.{Unfinished}
use Rattle.ch_reader.specs.Reading.{reading}
use Rattle.ch_endpoint.specs.Unread.{Unread}
use Rattle.ch_endpoint.specs.Readers.{HasRead, KnowsFront, is_whole}
use Rattle.ch_endpoint.proofs.Longer.{front_within, has_passed, knows_past, past_is}
use Rattle.ch_endpoint.proofs.unread.Unread.pass.Goals as goal

pub from_place-rest-requires : goal.from_place-rest-requires
from_place-rest-requires c =
    let i = c.self.inside in
    subst (λ (bs : List ℕ). i.read + i.count ≤ length bs) (sym c.as_slice.ensures.value) (front_within i.expected i.bytes.items i.read i.count i.reader i.front c.self.invariant)

pub invariant_of-self : goal.invariant_of-self
invariant_of-self c =
    let i = c.self.inside in
    let whole : is_whole (reading i.expected (drop i.read i.bytes.items)).0 ≡ true = ap (λ (u : Unread). is_whole (reading u.expected u.since).0) c.self.view_is ∙ c.requires in
    let has = has_passed i.expected (drop i.read i.bytes.items) i.front i.reader c.self.invariant.front_is whole c.self.invariant.reader_is in
    let rest = c.from_place-rest.ensures ∙ ap (drop (i.read + i.count)) c.as_slice.ensures.value in
    subst (λ (f : Front). KnowsFront Frame i.bytes.items (i.read + i.count) (Some c.in-Ok.reader) f c.in-Ok.count) (sym c.replace.ensures.after)
    (knows_past i.bytes.items c.from_place-rest.result.now (i.read + i.count) c.in-Ok.reader c.in-Ok.front c.in-Ok.count c.self.invariant.fits (front_within i.expected i.bytes.items i.read i.count i.reader i.front c.self.invariant) rest
    (c.in-Ok.ensures.on [] (subst (HasRead Frame [] Unfinished) (sym c.replace-held.ensures.value) has)))

pub returns-in-Ok-clause-left : goal.returns-in-Ok-clause-left
returns-in-Ok-clause-left c = past_is c.self.inside.expected c.self.inside.bytes.items c.self.inside.read c.self.inside.count c.args.self.now c.self.view_is c.requires c.self.invariant.count_is
