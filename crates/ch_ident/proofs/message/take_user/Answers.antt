use Rattle.std.proofs.Common.{arith}
use Rattle.ch_ident.proofs.Messages.{user_found, user_only}
use Rattle.ch_ident.proofs.message.take_user.Goals as goal

pub returns-clause-found : goal.returns-clause-found
returns-clause-found c = user_found c.args.bytes.now c.read_user.result (λ i. omega (arith, c.type_inv.bytes i)) c.read_user.ensures

pub returns-clause-only : goal.returns-clause-only
returns-clause-only c = user_only c.args.bytes.now c.read_user.result c.read_user.ensures
