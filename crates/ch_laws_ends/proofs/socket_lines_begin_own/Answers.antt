use Rattle.ch_laws_ends.proofs.OwnLines.{sockets_begin}
use Rattle.ch_laws_ends.proofs.socket_lines_begin_own.Goals as goal

pub returns : goal.returns
returns c = sockets_begin
