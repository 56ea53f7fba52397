use Rattle.std.proofs.Common.{◌+◌, sym, subst, arith}
use Rattle.ch_node.specs.Incoming.{Rises}
use Rattle.ch_node.proofs.Numbered.{appended}
use Rattle.ch_node.proofs.incoming.Incoming.add.Goals as goal

pub invariant_of-self-then-conn-lt18446744073709551615 : goal.invariant_of-self-then-conn-lt18446744073709551615
invariant_of-self-then-conn-lt18446744073709551615 c = λ e. subst (λ l. Rises 0 l (c.args.conn + 1)) (sym c.in_ok-push.ensures.items) (appended 0 c.self.inside.bound _ _ (c.self.invariant e) (omega (arith, c.if-self-conn.true)))
