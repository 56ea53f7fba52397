use Rattle.std.proofs.Common.{rules, ◌∙◌}
use Rattle.std.proofs.lemmas.List.Edits.{map_over_more}
use Rattle.std.proofs.Math.Seq.{map-set_same}
use Rattle.ch_model.specs.NodeArrivals.{rebound}
use Rattle.ch_node.specs.Bindings.{bound_of}
use Rattle.ch_node.proofs.incoming.bind_all.Goals as goal

pub returns-in_err-rebind-clause-numbers : goal.returns-in_err-rebind-clause-numbers
returns-in_err-rebind-clause-numbers c = map-set_same (λ arrived. arrived.conn) c.loop-row.rows c.loop-row.row-index c.rebind.new.self _ c.in_err-rebind.ensures.number ∙ c.loop-row.invariant.1

pub loop-row-preserved : goal.loop-row-preserved
loop-row-preserved c = (search (rules, map_over_more (rebound c.args.conn (bound_of c.args.binding.now))), map-set_same (λ arrived. arrived.conn) c.loop-row.rows c.loop-row.row-index c.rebind.new.self _ c.in_ok-rebind.ensures.number ∙ c.loop-row.invariant.1)
