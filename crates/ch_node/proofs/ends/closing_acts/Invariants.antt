use Rattle.std.proofs.Common.{◌≡◌, map, take}
use Rattle.ch_model.specs.declared.act.Act.TheVariants.{Close}
use Rattle.ch_node.proofs.ends.closing_acts.Given as goal

abbrev pub invariant-loop-conn : goal.invariant-loop-conn
invariant-loop-conn l = l.acts.items ≡ map (λ conn. Close conn) (take l.conn-index l.conns)
