use Rattle.std.proofs.Common.{◌-◌, ◌≤◌, length}
use Rattle.ch_reader.specs.Decoding.{IsReady}
use Rattle.ch_reader.proofs.Decoding.{AccountsTo}
use Rattle.ch_reader.proofs.stream.drain.Given as goal

abbrev pub invariant-piece : goal.invariant-piece
invariant-piece l = record {
  within : l.done ≤ length l.piece;
  ready : IsReady l.reader;
  account : AccountsTo l.fn.items.items l.fn.reader l.piece l.done l.items.items l.reader;
}

abbrev pub decreases-piece : goal.decreases-piece
decreases-piece l = length l.piece - l.done
