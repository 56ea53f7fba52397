use Rattle.std.proofs.Common.{take}
use Rattle.std.specs.List.{flat_map}
use Rattle.ch_reader.specs.Runs.{IsBytes, Accounts}
use Rattle.ch_reader.specs.Decoding.{IsReady}
use Rattle.ch_reader.proofs.stream.drained.Given as goal

abbrev pub invariant-loop-piece : goal.invariant-loop-piece
invariant-loop-piece l = record {
  ready : IsReady l.reader;
  fits : IsBytes (flat_map (λ piece. piece) (take l.piece-index l.pieces));
  account : Accounts l.fn.role (flat_map (λ piece. piece) (take l.piece-index l.pieces)) l.items.items l.reader;
}
