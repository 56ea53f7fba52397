use Rattle.std.proofs.Common.{sym, ◌∙◌}
use Rattle.ch_endpoint.proofs.Sending.{sent, sent_worn, may_wait}
use Rattle.ch_endpoint.proofs.state.State.sends_as.Goals as goal

pub returns-then-is_worn-clause-does : goal.returns-then-is_worn-clause-does
returns-then-is_worn-clause-does c = sent_worn c.args.self.now c.args.end c.args.conn c.args.id c.args.payload.now c.args.weight _ c.requires.carrier c.requires.short c.requires.room c.requires.id (sym c.is_worn.ensures ∙ c.if-is_worn.true)

pub returns-in-Ok-clause-does : goal.returns-in-Ok-clause-does
returns-in-Ok-clause-does c = sent c.args.self.now c.args.end c.args.conn c.args.id c.args.payload.now c.args.weight _ _ c.requires.carrier c.requires.short c.requires.room c.requires.id c.in-Ok.ensures

pub sends-requires-clause-room : goal.sends-requires-clause-room
sends-requires-clause-room c = may_wait _ _ _ c.requires.room
