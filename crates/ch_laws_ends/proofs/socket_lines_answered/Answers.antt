use Rattle.std.proofs.Common.{arith}
use Rattle.ch_laws_ends.proofs.SceneMet.{is_met}
use Rattle.ch_laws_ends.proofs.SocketLines.{sockets_answered}
use Rattle.ch_laws_ends.proofs.socket_lines_answered.Goals as goal

pub returns-clause-law : goal.returns-clause-law
returns-clause-law c = sockets_answered

pub returns-clause-such : goal.returns-clause-such
returns-clause-such c = (
  (omega arith, (omega arith, (omega arith, (omega arith, (omega arith, (omega arith, (omega arith, (omega arith, (omega arith, (omega arith, (omega arith, (omega arith, tt)))))))))))),
  is_met,
)
