use Rattle.std.proofs.Common.{◌≤◌, ◌-◌, length}
use Rattle.ch_replay.specs.Outside.{Taken}
use Rattle.ch_replay.proofs.intake.take_journal.Given as goal

-- what was taken so far is what the source had in front
abbrev pub invariant-pieces : goal.invariant-pieces
invariant-pieces g l = record {
  small : length l.journal.items ≤ 16777217;
  taken : Taken (g.S.Source.left l.initial.source) (g.S.Source.left l.source) l.journal.items;
  counted : g.S.Source.faults l.initial.source ≤ g.S.Source.faults l.source;
}

abbrev pub decreases-pieces : goal.decreases-pieces
decreases-pieces g l = 16777217 - length l.journal.items
