use Rattle.std.proofs.Common.{rules}
use Rattle.ch_node.proofs.PairLists.{pair_new, pair_there}
use Rattle.ch_node.proofs.pairs.Pairs.pair.Goals as goal

pub returns-in-None : goal.returns-in-None
returns-in-None c = search (rules, pair_new c.args.by c.args.to.now c.args.self.now)

pub returns : goal.returns
returns c = search (rules, pair_there c.args.by c.args.to.now)
