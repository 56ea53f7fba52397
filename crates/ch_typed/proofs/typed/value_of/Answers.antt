use Rattle.std.proofs.Common.{arith}
use Rattle.ch_typed.proofs.Comings.{found}
use Rattle.ch_typed.proofs.typed.value_of.Goals as goal

pub returns-clause-found : goal.returns-clause-found
returns-clause-found g c =
    let values = g.T.Typed in
    found values.fits values.spelling values.read g.met.T.Typed.exact c.take.result c.args.bytes.now (λ i. omega (arith, c.type_inv.bytes i)) c.take.ensures
