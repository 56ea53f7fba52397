use Rattle.std.proofs.Common.{◌≤◌, length}
use Rattle.reader_bench.proofs.drain.Given as goal

abbrev pub invariant-loop : goal.invariant-loop
invariant-loop l = l.done ≤ length l.piece
