use Rattle.std.proofs.Common.{arith, drop, ◌+◌, ◌*◌}
use Rattle.std.proofs.lemmas.Grind.{common_steps}
use Rattle.ch_base.proofs.Numbers.{value_passes}
use Rattle.ch_base.proofs.number.value_up_to.Goals as goal

pub returns-then-value-from : goal.returns-then-value-from
returns-then-value-from c = value_passes c.args.most (c.loop-b.value * 10 + c.digit_of.result) (drop (c.loop-b.b-index + 1) c.args.bytes.now) c.args.bytes.now (grind (arith, common_steps)) (omega arith)
