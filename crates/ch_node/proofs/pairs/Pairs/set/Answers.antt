use Rattle.std.proofs.Common.{rules}
use Rattle.ch_node.proofs.PairLists.{added, set_at}
use Rattle.ch_node.proofs.pairs.Pairs.set.Goals as goal

pub returns-in-None : goal.returns-in-None
returns-in-None c = search (rules, added c.args.pair c.args.self.now)

pub returns-in-Some : goal.returns-in-Some
returns-in-Some c = search (rules, set_at c.args.pair c.args.self.now)
