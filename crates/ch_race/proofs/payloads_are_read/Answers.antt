use Rattle.ch_race.proofs.Runs.{invariant_reached}
use Rattle.ch_race.proofs.Within.{reached, beyond_reached}
use Rattle.ch_race.proofs.Delivers.{all_delivered, all_read, none_unread}
use Rattle.ch_race.proofs.payloads_are_read.Goals as goal

pub returns : goal.returns
returns c = record {
  none_dropped = λ n p r moves are within quiet. all_delivered n moves p (invariant_reached p (reached n p r)) (beyond_reached n p r) are within quiet;
  none_unread = λ p r still. none_unread p (invariant_reached p r).words still;
  all_read = λ n p r moves are within quiet still. all_read n moves p (invariant_reached p (reached n p r)) (beyond_reached n p r) are within quiet still;
}
