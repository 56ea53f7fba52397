use Rattle.std.proofs.Common.{arith}
use Rattle.std.proofs.lemmas.List.{length-take}
use Rattle.ch_replay.proofs.Pieces.{intake_end, intake_full}
use Rattle.ch_replay.proofs.intake.take_journal.Goals as goal

pub returns-then-n-eq0-clause-taken : goal.returns-then-n-eq0-clause-taken
returns-then-n-eq0-clause-taken g c = intake_end (g.S.Source.left c.args.source.now) (g.S.Source.left c.pieces.source) (g.S.Source.left c.read.new.self) c.pieces.journal.items c.read.new.into c.in_ok-n.n (omega arith) (omega arith) c.pieces.invariant.taken c.in_ok-n.ensures.taken (omega (arith, length-take c.min-room.result c.pieces.piece))

pub returns-clause-taken : goal.returns-clause-taken
returns-clause-taken g c = intake_full (g.S.Source.left c.args.source.now) (g.S.Source.left c.pieces.source) c.pieces.journal.items (omega arith) c.pieces.invariant.taken
