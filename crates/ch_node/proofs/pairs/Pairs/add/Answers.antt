use Rattle.ch_node.proofs.Keyed.{keyed_added}
use Rattle.ch_node.proofs.pairs.Pairs.add.Goals as goal

pub invariant_of-self-in-Ok : goal.invariant_of-self-in-Ok
invariant_of-self-in-Ok c = keyed_added c.args.key c.args.pair _ _ _ _ _ c.self.invariant c.self.view_is c.requires.key c.requires.fresh c.in-Ok.ensures.keys c.in_ok-push.ensures.items
