use Rattle.ch_race.proofs.QuietMoves.{no_break, licensed}
use Rattle.ch_race.proofs.Holds.{no_failure}
use Rattle.ch_race.proofs.Runs.{invariant_reached}
use Rattle.ch_race.proofs.nothing_breaks.Goals as goal

pub returns : goal.returns
returns c = record {
  quiet = λ p r. (invariant_reached p r).quieted;
  no_break = λ p r. no_break p (invariant_reached p r);
  no_failure = λ p r m is now on. no_failure m p is (invariant_reached p r) now on;
  licensed = λ p r. licensed p (invariant_reached p r).words;
}
