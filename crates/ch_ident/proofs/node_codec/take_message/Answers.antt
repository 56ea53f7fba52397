use Rattle.std.proofs.Common.{arith}
use Rattle.ch_ident.specs.Fits.{IsMessage}
use Rattle.ch_ident.specs.Reading.{message_at, message_of}
use Rattle.ch_ident.specs.Spelling.{message}
use Rattle.ch_ident.proofs.Messages.{message_reads, is_found, is_only}
use Rattle.ch_ident.proofs.node_codec.take_message.Goals as goal

pub returns-clause-found : goal.returns-clause-found
unfolding message_of
returns-clause-found c = is_found message_at message IsMessage message_reads c.args.bytes.now c.read_all.result (λ i. omega (arith, c.type_inv.bytes i)) c.read_all.ensures

pub returns-clause-only : goal.returns-clause-only
unfolding message_of
returns-clause-only c = is_only message_at message IsMessage message_reads c.args.bytes.now c.read_all.result c.read_all.ensures
