use Rattle.std.proofs.Common.{◌∙◌, ap, sym, subst, List, ℕ, arith}
use Rattle.std.proofs.lemmas.List.{take_rest}
use Rattle.ch_reader.specs.Reading.{glance_at}
use Rattle.ch_reader.specs.States.{State, fed}
use Rattle.ch_reader.specs.Keeping.{HasRoom}
use Rattle.ch_reader.proofs.Feeding.{has_room, feeds, keeps, keeps_little, takes_within, unfinished_parts, goes_on, waits, keeps_within, feeds_within, missing_at}
use Rattle.ch_reader.proofs.reader.Reader.feed.Goals as goal

pub continued-requires : goal.continued-requires
continued-requires c =
    let i = c.self.inside in
    let kept = unfinished_parts i.expected i.words i.body.items i.front c.in-Unfinished.is c.self.invariant.1 in
    subst (λ (w : List ℕ). HasRoom (glance_at i.expected w) i.body.items) (sym c.as_slice.ensures) (has_room i.expected i.words i.body.items c.args.piece.now c.completed-words.result.0 c.completed-words.result.1 kept c.completed-words.ensures)

pub overflow_add-result : goal.overflow_add-result
overflow_add-result c =
    let i = c.self.inside in
    let kept = unfinished_parts i.expected i.words i.body.items i.front c.in-Unfinished.is c.self.invariant.1 in
    let goes = goes_on i.expected c.as_slice.result.now c.completed-words.result.0 i.body.items _ c.args.piece.now c.continued.new.body.items c.in_ok-front.front c.completed-words.result.1 c.in_ok-front.more c.as_slice.ensures (take_rest c.args.piece.now c.completed-words.result.1) c.in_ok-front.ensures.ok in
    omega (arith, takes_within i.expected i.words i.body.items c.args.piece.now c.completed-words.result.0 c.continued.new.body.items c.in_ok-front.front c.completed-words.result.1 c.in_ok-front.more kept c.completed-words.ensures goes)

pub invariant_of-self-2 : goal.invariant_of-self-2
invariant_of-self-2 c =
    let i = c.self.inside in
    let kept = unfinished_parts i.expected i.words i.body.items i.front c.in-Unfinished.is c.self.invariant.1 in
    let goes = goes_on i.expected c.as_slice.result.now c.completed-words.result.0 i.body.items _ c.args.piece.now c.continued.new.body.items c.in_ok-front.front c.completed-words.result.1 c.in_ok-front.more c.as_slice.ensures (take_rest c.args.piece.now c.completed-words.result.1) c.in_ok-front.ensures.ok in (
      missing_at i.expected c.as_slice-2.result.now c.completed-words.result.0 c.as_slice-3.result.now c.continued.new.body.items c.missing-self-inside.result c.as_slice-2.ensures c.as_slice-3.ensures.value c.missing-self-inside.ensures,
      keeps i.expected i.words i.body.items c.args.piece.now c.completed-words.result.0 c.continued.new.body.items c.in_ok-front.front c.completed-words.result.1 c.in_ok-front.more kept c.completed-words.ensures goes,
    )

pub returns-clause-ok : goal.returns-clause-ok
returns-clause-ok c =
    let i = c.self.inside in
    let kept = unfinished_parts i.expected i.words i.body.items i.front c.in-Unfinished.is c.self.invariant.1 in
    let goes = goes_on i.expected c.as_slice.result.now c.completed-words.result.0 i.body.items _ c.args.piece.now c.continued.new.body.items c.in_ok-front.front c.completed-words.result.1 c.in_ok-front.more c.as_slice.ensures (take_rest c.args.piece.now c.completed-words.result.1) c.in_ok-front.ensures.ok in
    feeds i.expected i.words i.body.items c.args.piece.now c.completed-words.result.0 c.continued.new.body.items c.in_ok-front.front c.completed-words.result.1 c.in_ok-front.more kept c.completed-words.ensures goes
    ∙ ap (λ (s : State). fed s c.args.piece.now) (waits i.expected i.words i.body.items i.front c.args.self.now c.in-Unfinished.is c.self.view_is)

pub returns-clause-bound : goal.returns-clause-bound
returns-clause-bound c =
    let i = c.self.inside in
    let kept = unfinished_parts i.expected i.words i.body.items i.front c.in-Unfinished.is c.self.invariant.1 in
    let goes = goes_on i.expected c.as_slice.result.now c.completed-words.result.0 i.body.items _ c.args.piece.now c.continued.new.body.items c.in_ok-front.front c.completed-words.result.1 c.in_ok-front.more c.as_slice.ensures (take_rest c.args.piece.now c.completed-words.result.1) c.in_ok-front.ensures.ok in
    keeps_little i.expected c.completed-words.result.0 c.continued.new.body.items c.in_ok-front.front
    (keeps i.expected i.words i.body.items c.args.piece.now c.completed-words.result.0 c.continued.new.body.items c.in_ok-front.front c.completed-words.result.1 c.in_ok-front.more kept c.completed-words.ensures goes)

pub returns-clause-within : goal.returns-clause-within
returns-clause-within c =
    let i = c.self.inside in
    let kept = unfinished_parts i.expected i.words i.body.items i.front c.in-Unfinished.is c.self.invariant.1 in
    let goes = goes_on i.expected c.as_slice.result.now c.completed-words.result.0 i.body.items _ c.args.piece.now c.continued.new.body.items c.in_ok-front.front c.completed-words.result.1 c.in_ok-front.more c.as_slice.ensures (take_rest c.args.piece.now c.completed-words.result.1) c.in_ok-front.ensures.ok in
    takes_within i.expected i.words i.body.items c.args.piece.now c.completed-words.result.0 c.continued.new.body.items c.in_ok-front.front c.completed-words.result.1 c.in_ok-front.more kept c.completed-words.ensures goes

pub invariant_of-self-then-piece-self : goal.invariant_of-self-then-piece-self
invariant_of-self-then-piece-self c =
    let i = c.self.inside in
    keeps_within i.expected i.words i.body.items c.args.piece.now c.extend_from_slice.new.self.items i.front i.missing c.in-Unfinished.is c.in_ok-extend_from_slice.ensures.items c.self.invariant.1 c.self.invariant.0 c.if-piece-self.true

pub returns-then-piece-self-clause-ok : goal.returns-then-piece-self-clause-ok
returns-then-piece-self-clause-ok c =
    let i = c.self.inside in
    feeds_within i.expected i.words i.body.items c.args.piece.now c.extend_from_slice.new.self.items i.front i.missing c.args.self.now c.in-Unfinished.is c.in_ok-extend_from_slice.ensures.items c.self.invariant.1 c.self.invariant.0 c.if-piece-self.true c.self.view_is

pub returns-then-piece-self-clause-bound : goal.returns-then-piece-self-clause-bound
returns-then-piece-self-clause-bound c =
    let i = c.self.inside in
    keeps_little i.expected i.words c.extend_from_slice.new.self.items i.front
    (keeps_within i.expected i.words i.body.items c.args.piece.now c.extend_from_slice.new.self.items i.front i.missing c.in-Unfinished.is c.in_ok-extend_from_slice.ensures.items c.self.invariant.1 c.self.invariant.0 c.if-piece-self.true).1
