use Rattle.std.proofs.Common.{◌≡◌, ◌≤◌, ◌+◌, length, None}
use Rattle.ch_model.specs.Journal.{raw_lines}
use Rattle.ch_lines.specs.declared.grammar.Grammar.TheVariants.{ManyNodes}
use Rattle.ch_replay.specs.Replayed.{replay_of, replayed, progress_of, onto}
use Rattle.ch_replay.proofs.replay.log_lines.Given as goal

-- the text so far, and that of the lines that are left
abbrev pub invariant-lines : goal.invariant-lines
invariant-lines l = record {
  grammar : l.reading.grammar ≡ ManyNodes;
  fresh : l.reading.refused ≡ None;
  few : l.reading.number + length l.rest ≤ 16777217;
  whole : onto l.text.items (replayed (progress_of l.reading l.run) l.room (raw_lines l.rest)) ≡ replay_of l.journal;
}

abbrev pub decreases-lines : goal.decreases-lines
decreases-lines l = length l.rest
