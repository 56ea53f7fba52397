use Rattle.std.proofs.Common.{◌<◌, ◌≤◌, length, arith, sym, ◌∙◌}
use Rattle.ch_endpoint.proofs.Sending.{too_long, too_full, not_carried}
use Rattle.ch_endpoint.proofs.state.State.sends_to.Goals as goal

pub returns-then-payload-gt65536-clause-does : goal.returns-then-payload-gt65536-clause-does
returns-then-payload-gt65536-clause-does c =
    let long : 65536 < length c.args.payload.now = omega (arith, c.if-payload-gt65536.true) in
    too_long c.args.self.now c.args.end c.args.conn c.args.payload.now c.args.weight _ c.requires long

pub returns-then-is_full-clause-does : goal.returns-then-is_full-clause-does
returns-then-is_full-clause-does c =
    let short : length c.args.payload.now ≤ 65536 = omega (arith, c.if-payload-gt65536.false) in
    too_full c.args.self.now c.args.end c.args.conn c.args.payload.now c.args.weight _ c.requires short (sym c.is_full.ensures ∙ c.if-is_full.true)

pub returns-in-None-clause-does : goal.returns-in-None-clause-does
returns-in-None-clause-does c =
    let short : length c.args.payload.now ≤ 65536 = omega (arith, c.if-payload-gt65536.false) in
    not_carried c.args.self.now c.args.end c.args.conn c.args.payload.now c.args.weight _ c.requires short (sym c.is_full.ensures ∙ c.if-is_full.false) (sym c.id_of.ensures.value ∙ c.in-None.is)
