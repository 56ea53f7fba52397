use Rattle.ch_lines.proofs.Either.{any_peer, by_first, by_second}
use Rattle.ch_lines.proofs.declared.Declared.has_peer.Goals as goal

pub returns-then-has_node : goal.returns-then-has_node
returns-then-has_node c = by_first _ c.if-has_node.true c.has_node.ensures (any_peer c.args.name.now c.args.self.now)

pub returns-else-has_node : goal.returns-else-has_node
returns-else-has_node c = by_second _ c.if-has_node.false c.has_node.ensures c.has_away.ensures (any_peer c.args.name.now c.args.self.now)
