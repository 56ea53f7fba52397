use Rattle.std.proofs.Common.{◌<◌, subst}
use Rattle.ch_model.specs.NodeRoom.{longest}
use Rattle.ch_node.proofs.Lengths.{too_long}
use Rattle.ch_node.proofs.room.fitting.Goals as goal

pub returns-then-len-clause-exact : goal.returns-then-len-clause-exact
returns-then-len-clause-exact c = too_long c.args.to.now c.args.message.now (subst (λ n. longest < n) c.len.ensures c.if-len.true)
