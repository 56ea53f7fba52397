use Rattle.ch_node.proofs.Keyed.{keyed_put}
use Rattle.ch_node.proofs.pairs.Pairs.replace.Goals as goal

pub invariant_of-self : goal.invariant_of-self
invariant_of-self c = keyed_put c.args.pair _ _ _ c.args.place c.self.invariant c.self.view_is c.requires
