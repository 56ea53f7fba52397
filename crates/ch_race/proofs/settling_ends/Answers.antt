use Rattle.ch_race.proofs.Runs.{invariant_reached}
use Rattle.ch_race.proofs.Within.{reached, beyond_reached}
use Rattle.ch_race.proofs.Settles.{lowers, any_order, goes_on, rests, completed, settles}
use Rattle.ch_race.proofs.settling_ends.Goals as goal

pub returns : goal.returns
returns c = record {
  lowers = λ n p r m is settle. lowers n m p (invariant_reached p (reached n p r)) (beyond_reached n p r) is settle;
  any_order = λ n p r moves are settle. any_order n moves p (invariant_reached p (reached n p r)) (beyond_reached n p r) are settle;
  goes_on = λ n p r. goes_on n p (invariant_reached p (reached n p r)) (beyond_reached n p r);
  timers = λ p r still. rests p (invariant_reached p r) still;
  completed = λ n p r visits are is still. completed n p (invariant_reached p (reached n p r)) (beyond_reached n p r) visits are is still;
  settles = λ n p r visits are is. settles n p (invariant_reached p (reached n p r)) (beyond_reached n p r) visits are is;
}
