use Rattle.std.proofs.Common.{ℕ, Bool, ◌≡◌, ◌+◌, length, arith, nat_lt, true, false, cond, refl, ap, ◌∙◌}
use mir.Val.{bool_byte}
use Rattle.std.proofs.lemmas.Bool.Decides.{nat_tests}
use Rattle.ch_model.specs.Journal.{raw_lines, size_of}
use Rattle.ch_replay.specs.Replayed.{replay_of}
use Rattle.ch_replay.proofs.Turns.{turn_goes_on}
use Rattle.ch_replay.proofs.replay.log_lines.Goals as goal

newline_is : (ended : Bool) → bool_byte ended ≡ cond ended 1 0
newline_is true = refl
newline_is false = refl

pub lines-preserved : goal.lines-preserved
lines-preserved c =
    let short : nat_lt 8192 (length c.first_line-ended.result.0.now) ≡ false = let h = c.if-line-gt-LONGEST_LINE.false in grind (arith, nat_tests) in
    let fits : nat_lt c.lines.room (length c.first_line-ended.result.0.now + c.from.result) ≡ false = let h = c.if-size-room.false in grind (arith, nat_tests) in
    let is : length c.first_line-ended.result.0.now + c.from.result ≡ size_of (c.first_line-ended.result.0.now, c.first_line-ended.result.1) = ap (λ (k : ℕ). length c.first_line-ended.result.0.now + k) (c.from.ensures ∙ newline_is c.first_line-ended.result.1) in
    let w = turn_goes_on c.lines.reading c.turn.new.reading c.lines.run c.turn.new.run c.first_line-ended.result.0.now c.first_line-ended.result.1 c.lines.text.items c.turn.new.text.items c.in_ok-turn.field-0 c.lines.room (length c.first_line-ended.result.0.now + c.from.result) (raw_lines c.lines.rest.now) (raw_lines c.first_line-ended.result.2.now) (replay_of c.args.journal.now)
    c.in-None.is c.in_ok-turn.ensures c.first_line-ended.ensures.lines short fits is c.lines.invariant.whole in
    record { grammar = w.0; fresh = w.1; few = omega (arith, w.2, c.lines.invariant.few, c.first_line-ended.ensures.shorter); whole = w.3 }
