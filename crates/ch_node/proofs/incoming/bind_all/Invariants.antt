use Rattle.std.proofs.Common.{◌≡◌, ◌++◌, map, take, drop}
use Rattle.ch_model.specs.NodeArrivals.{rebound}
use Rattle.ch_node.specs.Bindings.{bound_of}
use Rattle.ch_node.proofs.incoming.bind_all.Given as goal

abbrev pub invariant-loop-row : goal.invariant-loop-row
invariant-loop-row l = (l.rows ≡ map (rebound l.conn (bound_of l.binding)) (take l.row-index l.initial.rows) ++ drop l.row-index l.initial.rows) × (map (λ arrived. arrived.conn) l.rows ≡ map (λ arrived. arrived.conn) l.initial.rows)
