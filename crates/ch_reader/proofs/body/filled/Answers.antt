use Rattle.std.proofs.Common.{arith}
use Rattle.ch_reader.proofs.Bodies.{ends_body}
use Rattle.ch_reader.proofs.body.filled.Goals as goal

pub returns-in_ok-front-clause-ok : goal.returns-in_ok-front-clause-ok
returns-in_ok-front-clause-ok c =
    ends_body c.args.opened c.args.count c.args.body.now.items c.reserve_exact.new.self.items c.args.rest.now c.ended.new.body.items c.in_ok-front.front c.len.result
    (omega (arith, c.args.body.now.ok.0)) c.reserve_exact.ensures.items c.requires (omega arith) c.in_ok-front.ensures.ok
