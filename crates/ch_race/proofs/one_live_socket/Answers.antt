use Rattle.ch_race.proofs.Names.{one_live, bundle}
use Rattle.ch_race.proofs.Rise.{comes_up_free}
use Rattle.ch_race.proofs.Runs.{invariant_reached}
use Rattle.ch_race.proofs.one_live_socket.Goals as goal

pub returns : goal.returns
returns c = record {
  named = λ p r. (invariant_reached p r).named;
  one = λ p r. one_live p (invariant_reached p r).named;
  bundle = λ p r. bundle p (invariant_reached p r).named;
  comes_up = λ p r m is. comes_up_free m p is (invariant_reached p r);
}
