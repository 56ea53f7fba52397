use Rattle.std.proofs.Common.{◌≤◌, length}
use Rattle.ch_wire_rows.proofs.reader.taken.Given as goal

abbrev pub invariant-loop : goal.invariant-loop
invariant-loop l = l.done ≤ length l.bytes
