use Rattle.std.proofs.Common.{◌≤◌, ◌-◌, length, take}
use Rattle.ch_replay.specs.Outside.{Appended}
use Rattle.ch_replay.proofs.output.write_all.Given as goal

-- so much of the text was appended
abbrev pub invariant-pieces : goal.invariant-pieces
invariant-pieces g l = record {
  within : l.at ≤ length l.text;
  appended : Appended (take l.at l.text) (g.K.Sink.held l.initial.sink) (g.K.Sink.held l.sink);
  counted : g.K.Sink.faults l.initial.sink ≤ g.K.Sink.faults l.sink;
}

abbrev pub decreases-pieces : goal.decreases-pieces
decreases-pieces g l = length l.text - l.at
